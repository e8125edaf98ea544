-- plan_lookup::list_edges meets its contract: the edges chosen below e stand in the array's front.
use Rattle.std.proofs.Common.{◌≡◌, refl, ◌∙◌, ℕ, ◌+◌, ◌≤◌, zero-le, arith, length-set}
use lib.ListN.{length-replicate}
use Rattle.model.specs.Limits.{plan_limit}
use Rattle.arrays.specs.ArrayInstance.{flag}
use Rattle.arrays.specs.Kept.{kept_yes, kept_no}
use Rattle.plan_lookup.specs.PlanEdges.{room_left, all_listed}
use Rattle.plan_lookup.proofs.list_edges.Goals.{Else-not-chosen-e}
use Rattle.plan_lookup.proofs.list_edges.Goals as goal

-- the edge is chosen, and there is room for it
room : (c : Else-not-chosen-e) → c.loop-e.n + 1 ≤ plan_limit
room c =
    let a = c.args in
    room_left a.chosen.now c.loop-e.edges c.loop-e.n c.loop-e.e a.m c.loop-e.invariant.2 c.if-not-chosen-e.false
    c.loop-e-test.true c.requires.1

pub loop-e-init : goal.loop-e-init
loop-e-init c = (zero-le, length-replicate {A = ℕ} plan_limit 0, (refl, refl))

pub loop-e-preserved-then-not-chosen-e : goal.loop-e-preserved-then-not-chosen-e
loop-e-preserved-then-not-chosen-e c =
    let a = c.args in
    (omega arith, c.loop-e.invariant.1, kept_no (flag a.chosen.now) c.loop-e.edges c.loop-e.n c.loop-e.e c.if-not-chosen-e.true c.loop-e.invariant.2)

pub offset_bounds-edges-n : goal.offset_bounds-edges-n
offset_bounds-edges-n c = omega (arith, room (goal.at.offset_bounds-edges-n c).Else-not-chosen-e)

pub bounds-edges-n : goal.bounds-edges-n
bounds-edges-n c = omega (arith, room (goal.at.bounds-edges-n c).Else-not-chosen-e)

pub overflow_add-n : goal.overflow_add-n
overflow_add-n c = omega (arith, room (goal.at.overflow_add-n c).Else-not-chosen-e)

pub loop-e-preserved : goal.loop-e-preserved
loop-e-preserved c =
    let a = c.args in (
      omega arith,
      length-set c.loop-e.edges c.loop-e.n c.loop-e.e
          ∙ c.loop-e.invariant.1,
      kept_yes (flag a.chosen.now) c.loop-e.edges c.loop-e.n c.loop-e.e c.if-not-chosen-e.false
          (omega (arith, room (goal.at.loop-e-preserved c).Else-not-chosen-e, c.loop-e.invariant.1)) c.loop-e.invariant.2,
    )

pub returns : goal.returns
returns c =
    let a = c.args in
    let q : c.loop-e.e ≡ a.m = omega arith in
    all_listed a.chosen.now c.loop-e.edges c.loop-e.n c.loop-e.e a.m c.loop-e.invariant.2 q c.loop-e.invariant.1 c.requires.1
