-- The edges from i on are linked.
use Rattle.std.proofs.Common.{◌≡◌, refl, subst, ℕ, ◌+◌, ◌-◌, arith, length-set}
use lib.ListN.{length-replicate}
use Rattle.arrays.specs.Linked.{LinkedFrom, linked_none, linked_on}
use Rattle.arrays.proofs.links.Goals as goal

pub loop-i-init : goal.loop-i-init
loop-i-init c = let a = c.args in (omega arith, refl, length-replicate {A = ℕ} 32 a.m, linked_none a.m a.end.now c.requires.0 a.next.now)

pub overflow_cast-v : goal.overflow_cast-v
overflow_cast-v c = let l = c in omega (arith, l.requires.3 (l.loop-i.i - 1) (omega arith))

pub offset_bounds-head-v : goal.offset_bounds-head-v
offset_bounds-head-v c = let l = c in omega (arith, l.requires.3 (l.loop-i.i - 1) (omega arith))

pub bounds-head-v : goal.bounds-head-v
bounds-head-v c = let l = c in omega (arith, l.requires.3 (l.loop-i.i - 1) (omega arith))

pub offset_bounds-head-v-in-loop-i : goal.offset_bounds-head-v-in-loop-i
offset_bounds-head-v-in-loop-i c = let l = c in omega (arith, l.requires.3 (l.loop-i.i - 1) (omega arith))

pub bounds-head-v-in-loop-i : goal.bounds-head-v-in-loop-i
bounds-head-v-in-loop-i c = let l = c in omega (arith, l.requires.3 (l.loop-i.i - 1) (omega arith))

pub loop-i-preserved : goal.loop-i-preserved
loop-i-preserved c =
    let l = c in
    let a = l.args in
    let i = l.loop-i.i - 1 in
    let e : l.loop-i.i ≡ i + 1 = omega arith in (
      omega arith,
      simp length-set l.loop-i.invariant.1,
      simp length-set l.loop-i.invariant.2,
      linked_on a.m a.end.now i l.loop-i.head l.loop-i.next (omega arith) (l.requires.3 i (omega arith)) l.loop-i.invariant.2 (omega arith)
          (subst (λ k. LinkedFrom a.m a.end.now k l.loop-i.head l.loop-i.next) e l.loop-i.invariant.3),
    )

pub returns : goal.returns
returns c =
    let l = c in
    let a = l.args in
    let e : l.loop-i.i ≡ 0 = omega arith in
    (l.loop-i.invariant.1, subst (λ k. LinkedFrom a.m a.end.now k l.loop-i.head l.loop-i.next) e l.loop-i.invariant.3)

pub shape_of-next : goal.shape_of-next
shape_of-next c = c.loop-i.invariant.1
