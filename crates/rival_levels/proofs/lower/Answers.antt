-- The columns below j are written, the others are as they were.
use Rattle.std.proofs.Common.{ap, ◌∙◌, ℕ, ◌+◌, min, zero-le, arith, length-set}
use Rattle.arrays.specs.ArrayInstance.{at}
use Rattle.rival_tables.specs.Filled.{remade_start, remade_here, remade_next, remade_end}
use Rattle.rival_levels.proofs.lower.Goals as goal

pub loop-j-init : goal.loop-j-init
loop-j-init c =
    let a = c.args in
    (zero-le, c.requires.0, remade_start a.row.now (λ k. min (a.a + at a.d.now (a.b + k)) (at a.row.now k)))

pub loop-j-preserved : goal.loop-j-preserved
loop-j-preserved c =
    let a = c.args in
    let f : ℕ → ℕ = (λ k. min (a.a + at a.d.now (a.b + k)) (at a.row.now k)) in (
      omega arith,
      simp length-set c.loop-j.invariant.1,
      remade_next a.row.now f c.loop-j.j c.loop-j.row c.min.result c.loop-j.invariant.1 (omega arith)
          (c.min.ensures
          ∙ ap (min (a.a + at a.d.now (a.b + c.loop-j.j))) (remade_here a.row.now f c.loop-j.j c.loop-j.row (omega arith) c.loop-j.invariant.2))
          c.loop-j.invariant.2,
    )

pub returns : goal.returns
returns c =
    let a = c.args in (
      c.loop-j.invariant.1,
      remade_end a.row.now (λ k. min (a.a + at a.d.now (a.b + k)) (at a.row.now k)) c.loop-j.j c.loop-j.row (omega arith)
          c.loop-j.invariant.2,
    )
