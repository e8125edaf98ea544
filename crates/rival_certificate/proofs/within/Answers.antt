-- While all cells before c are no dearer than arcs the answer is yes.
use Rattle.std.proofs.Common.{◌≡◌, subst, ℕ, ◌+◌, ◌≤◌, min, zero-le, arith, not-suc-le-zero, leb, leb→le}
use Rattle.lists.specs.Test.{by-eq, and_l, and_r, T_true, true_t}
use Rattle.arrays.specs.ArrayInstance.{at}
use Rattle.rival_certificate.proofs.within.Goals as goal

pub loop-c-init : goal.loop-c-init
loop-c-init c = (zero-le, λ t e h. absurd (not-suc-le-zero h))

pub loop-c-preserved : goal.loop-c-preserved
loop-c-preserved c =
    let a = c.args in
    let r : ℕ = c.arc_cost-most.result in
    let u : ℕ = c.loop-c.c in (
      omega arith,
      λ t e h. by-eq e u
          (λ q s. subst (λ z. at a.d.now z ≤ min (at a.arcs.now z) 65 + 62) (let w : u ≡ e = omega arith in w)
          (omega (arith, c.arc_cost-most.ensures, leb→le (at a.d.now u) r (and_r c.loop-c.ok (leb (at a.d.now u) r) (true_t t)))))
          (λ n s. c.loop-c.invariant.1 (T_true (and_l c.loop-c.ok (leb (at a.d.now u) r) (true_t t))) e (omega arith)),
    )

pub returns : goal.returns
returns c = λ t e h. c.loop-c.invariant.1 t e (omega arith)
