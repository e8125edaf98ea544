-- plan_days::ends: the ends of the entries below k stand in front. Assumes nothing.
use Rattle.std.proofs.Common.{ℕ, zero-le, arith, not-suc-le-zero, ◌≡◌, subst, length-set}
use lib.ListN.{length-replicate}
use Rattle.arrays.specs.Tally.{zeros}
use Rattle.plan_days.specs.Bytes.{EndsAt, ends_next, ends_are}
use Rattle.plan_days.proofs.ends.Goals as goal

pub loop-k-init : goal.loop-k-init
loop-k-init c = (zero-le, length-replicate {A = ℕ} 64 0, λ j. ((λ h. absurd (not-suc-le-zero h)), λ h. zeros 64 j))

pub overflow_cast-e : goal.overflow_cast-e
overflow_cast-e c = omega (arith, c.requires.2 c.loop-k.k (omega arith))

pub bounds-end-e : goal.bounds-end-e
bounds-end-e c = c.requires.2 c.loop-k.k (omega arith)

pub loop-k-preserved : goal.loop-k-preserved
loop-k-preserved c =
    let a = c.args in (
      omega arith,
      simp length-set c.loop-k.invariant.1,
      ends_next a.es.now a.end.now c.loop-k.r c.loop-k.k (omega (arith, c.loop-k.invariant.1, c.requires.0)) c.loop-k.invariant.2,
    )

pub returns : goal.returns
returns c =
    let a = c.args in
    let e : c.loop-k.k ≡ a.n = omega arith in
    ends_are a.n a.es.now a.end.now c.loop-k.r c.requires.1
    (subst (λ k. EndsAt k a.es.now a.end.now c.loop-k.r) e c.loop-k.invariant.2)

pub offset_bounds-es-k : goal.offset_bounds-es-k
offset_bounds-es-k c = omega (arith, c.requires.0)

pub bounds-es-k : goal.bounds-es-k
bounds-es-k c = omega (arith, c.requires.0)

pub bounds-r-k : goal.bounds-r-k
bounds-r-k c = omega (arith, c.requires.0)
