-- The edges below e are written.
use Rattle.std.proofs.Common.{zero-le, arith, ◌≡◌, refl, subst, false, not, ◌&&◌, ◌||◌}
use Rattle.arrays.specs.ArrayInstance.{flag}
use Rattle.arrays.specs.Passes.{Shows, fill_none, fill_next}
use Rattle.rival_verdict.proofs.exchanged.Goals as goal

pub loop-e-init : goal.loop-e-init
loop-e-init c =
    let a = c.args in
    (zero-le, fill_none false 1024 (λ e. (flag a.plan.now e && not (flag a.gone.now e)) || flag a.come.now e))

pub loop-e-preserved : goal.loop-e-preserved
loop-e-preserved c =
    let a = c.args in (
      omega arith,
      fill_next false 1024 c.loop-e.o (λ e. (flag a.plan.now e && not (flag a.gone.now e)) || flag a.come.now e) c.loop-e.e
          ((flag a.plan.now c.loop-e.e && not (flag a.gone.now c.loop-e.e)) || flag a.come.now c.loop-e.e) refl (omega arith)
          c.loop-e.invariant.1,
    )

pub returns : goal.returns
returns c =
    let l = c.loop-e in
    let a = c.args in
    let e : l.e ≡ a.m = omega arith in
    subst (λ k. Shows false l.o k (λ e. (flag a.plan.now e && not (flag a.gone.now e)) || flag a.come.now e)) e l.invariant.1.shows
