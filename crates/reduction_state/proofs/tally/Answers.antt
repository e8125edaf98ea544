-- The counters: of the edges passed, how many lie at each node and are in the set.
use Rattle.std.proofs.Common.{◌≡◌, refl, ◌∙◌, ap, ◌<◌, zero-le, arith, length-set}
use Rattle.arrays.specs.ArrayInstance.{at, flag}
use Rattle.arrays.specs.Tally.{zeros, byte_one, keyed, keyed_≤, tally_next}
use Rattle.lists.specs.Sum.{count}
use Rattle.reduction_state.proofs.tally.Goals.{In-loop-i}
use Rattle.reduction_state.proofs.tally.Goals as goal

pub loop-i-init : goal.loop-i-init
unfolding count
loop-i-init c = (zero-le, refl, zeros 32)

-- the edge of a turn lies at a node
inside : (c : In-loop-i) → at c.args.end.now c.loop-i.i < 32
inside c = c.requires.1 c.loop-i.i (omega arith)

pub overflow_add-t : goal.overflow_add-t
overflow_add-t c =
    let a = c.args in
    let v = at a.end.now c.loop-i.i in
    omega (arith, c.loop-i.invariant.2 v, keyed_≤ (at a.end.now) (flag a.p.now) v c.loop-i.i, byte_one (flag a.p.now c.loop-i.i))

pub loop-i-preserved : goal.loop-i-preserved
loop-i-preserved c =
    let a = c.args in
    let w : at a.end.now c.loop-i.i < 32 = c.requires.1 c.loop-i.i (omega arith) in (
      omega arith,
      simp length-set c.loop-i.invariant.1,
      tally_next (at a.end.now) (flag a.p.now) c.loop-i.t c.loop-i.i (omega arith) c.loop-i.invariant.2,
    )

pub returns : goal.returns
returns c =
    let a = c.args in
    let e : c.loop-i.i ≡ a.m = omega arith in
    λ v. c.loop-i.invariant.2 v ∙ ap (keyed (at a.end.now) (flag a.p.now) v) e

pub bounds-end-i : goal.bounds-end-i
bounds-end-i c = omega (arith, inside (goal.at.bounds-end-i c).In-loop-i)

pub overflow_cast-v : goal.overflow_cast-v
overflow_cast-v c = omega (arith, inside (goal.at.overflow_cast-v c).In-loop-i)

pub bounds-p-i : goal.bounds-p-i
bounds-p-i c = omega (arith, inside (goal.at.bounds-p-i c).In-loop-i)

pub overflow_cast-t : goal.overflow_cast-t
overflow_cast-t c = omega (arith, inside (goal.at.overflow_cast-t c).In-loop-i)

pub offset_bounds-t-v : goal.offset_bounds-t-v
offset_bounds-t-v c = omega (arith, inside (goal.at.offset_bounds-t-v c).In-loop-i)

pub bounds-t-v : goal.bounds-t-v
bounds-t-v c = omega (arith, inside (goal.at.bounds-t-v c).In-loop-i)

pub bounds-t-v-in-loop-i : goal.bounds-t-v-in-loop-i
bounds-t-v-in-loop-i c = omega (arith, inside (goal.at.bounds-t-v-in-loop-i c).In-loop-i)
