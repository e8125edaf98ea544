-- `plan_carried::besides` meets its contract: the flags below e are written. Assumes nothing.
use Rattle.std.proofs.Common.{◌≡◌, ap, subst, false, not, ◌&&◌, zero-le, arith, add-one, eqb}
use Rattle.arrays.specs.ArrayInstance.{at, flag}
use Rattle.arrays.specs.Passes.{Shows, fill_none, fill_next}
use Rattle.plan_carried.specs.Remaining.{stays}
use Rattle.plan_carried.proofs.besides.Goals as goal

pub loop-e-init : goal.loop-e-init
loop-e-init c = let a = c.args in (zero-le, fill_none false 1024 (stays a.sv.now a.plan.now a.number))

pub bounds-plan-e : goal.bounds-plan-e
bounds-plan-e c = omega (arith, c.requires.0)

pub bounds-sv-e : goal.bounds-sv-e
bounds-sv-e c = omega (arith, c.requires.0)

pub overflow_add-kept : goal.overflow_add-kept
overflow_add-kept c = omega (arith, c.requires.1 c.loop-e.e (omega arith))

pub bounds-kept-e : goal.bounds-kept-e
bounds-kept-e c = omega (arith, c.requires.0)

pub loop-e-preserved : goal.loop-e-preserved
loop-e-preserved c =
    let a = c.args in
    let e = c.loop-e.e in (
      omega arith,
      fill_next false 1024 c.loop-e.kept (stays a.sv.now a.plan.now a.number) e _
          (ap (λ n. flag a.plan.now e && not (eqb n a.number)) (add-one (at a.sv.now e))) (omega (arith, c.requires.0)) c.loop-e.invariant.1,
    )

pub returns : goal.returns
returns c =
    let a = c.args in
    let e : c.loop-e.e ≡ a.m = omega arith in
    subst (λ k. Shows false c.loop-e.kept k (stays a.sv.now a.plan.now a.number)) e c.loop-e.invariant.1.shows
