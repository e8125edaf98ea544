-- The columns below j are written.
use Rattle.std.proofs.Common.{refl, ap, ◌∙◌, ◌+◌, min, zero-le, arith, not-suc-le-zero, length-set}
use Rattle.arrays.specs.ArrayInstance.{at}
use Rattle.arrays.specs.Filled.{made_set}
use Rattle.rival_tables.specs.Terminals.{terminal_at}
use Rattle.rival_tables.proofs.terminal_row.Goals as goal

pub loop-j-init : goal.loop-j-init
loop-j-init c = (zero-le, refl, λ e h. absurd (not-suc-le-zero h))

pub overflow_add-b : goal.overflow_add-b
overflow_add-b c =
    omega (
      arith,
      c.min-a.ensures,
      c.requires.2.start c.args.i
          c.loop-j.j (omega arith) (omega arith),
    )

pub overflow_add-c : goal.overflow_add-c
overflow_add-c c =
    omega (arith, c.requires.2.both c.args.i c.loop-j.j (omega arith) (omega arith))

pub loop-j-preserved : goal.loop-j-preserved
loop-j-preserved c =
    let a = c.args in (
      omega arith,
      simp length-set c.loop-j.invariant.1,
      made_set 0 c.loop-j.o (terminal_at a.starts.now a.stops.now a.gs.now a.gt.now a.i) c.loop-j.j c.min.result (omega arith)
          (c.min.ensures ∙ ap (λ x. min (x + 3) (at a.gs.now a.i + at a.gt.now c.loop-j.j)) c.min-a.ensures)
          c.loop-j.invariant.2,
    )

pub returns : goal.returns
returns c = λ e h. c.loop-j.invariant.2 e (omega arith)
