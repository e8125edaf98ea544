-- The columns below j are written, the others are as they were.
use Rattle.std.proofs.Common.{ap, ◌∙◌, not, ℕ, zero-le, arith, length-set, eqb}
use Rattle.arrays.specs.ArrayInstance.{at}
use Rattle.rival_tables.specs.Cheapest.{offer}
use Rattle.rival_tables.specs.Filled.{remade_start, remade_here, remade_next, remade_end}
use Rattle.rival_gains.proofs.parted.Goals as goal

pub loop-j-init : goal.loop-j-init
loop-j-init c =
    let a = c.args in
    (zero-le, c.requires, remade_start a.row.now (λ k. offer (not (eqb a.d (at a.po.now k))) a.p (at a.row.now k)))

pub loop-j-preserved : goal.loop-j-preserved
loop-j-preserved c =
    let a = c.args in
    let j = c.loop-j.j in
    let f : ℕ → ℕ = (λ k. offer (not (eqb a.d (at a.po.now k))) a.p (at a.row.now k)) in (
      omega arith,
      simp length-set c.loop-j.invariant.1,
      remade_next a.row.now f j c.loop-j.row c.offered.result c.loop-j.invariant.1 (omega arith)
          (c.offered.ensures
          ∙ ap (offer (not (eqb a.d (at a.po.now j))) a.p) (remade_here a.row.now f j c.loop-j.row (omega arith) c.loop-j.invariant.2))
          c.loop-j.invariant.2,
    )

pub returns : goal.returns
returns c =
    let a = c.args in (
      c.loop-j.invariant.1,
      remade_end a.row.now (λ k. offer (not (eqb a.d (at a.po.now k))) a.p (at a.row.now k)) c.loop-j.j c.loop-j.row (omega arith)
          c.loop-j.invariant.2,
    )
