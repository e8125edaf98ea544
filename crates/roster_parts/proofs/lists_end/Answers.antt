-- `roster_parts::lists_end` meets its contract: the lists that are left end where all of them do. Assumes nothing.
use Rattle.std.proofs.Common.{zero-le, arith, sym, ap, ◌∙◌}
use Rattle.roster_positions.specs.Tables.{lists_end}
use Rattle.roster_positions.proofs.Stamping.{end_turn, end_done, left_all}
use Rattle.roster_parts.proofs.lists_end.Goals as goal

pub loop-i-init : goal.loop-i-init
loop-i-init c =
    let a = c.args in
    (zero-le, omega arith, omega arith, ap (λ k. lists_end a.file.now k a.start) (left_all a.n))

pub loop-i-preserved : goal.loop-i-preserved
loop-i-preserved c =
    let a = c.args in
    let b = c.byte_at-k in (
      omega arith,
      omega arith,
      omega arith,
      c.loop-i.invariant.3 ∙ end_turn a.file.now a.n c.loop-i.i c.loop-i.at c.loop-i-test.true b.result b.ensures,
    )

pub returns : goal.returns
returns c =
    let a = c.args in (
      sym (c.loop-i.invariant.3 ∙ end_done a.file.now a.n c.loop-i.i c.loop-i.at c.loop-i-test.false),
      c.loop-i.invariant.1,
      omega arith,
    )
