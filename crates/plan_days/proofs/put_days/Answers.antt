-- plan_days::put_days: the days of the entries below j stand in front, one up. Assumes nothing.
use Rattle.std.proofs.Common.{suc, zero-le, arith, ◌≡◌, refl, ap, ◌∙◌, map, ◌++◌, take, drop, length-set}
use Rattle.plan_days.specs.Bytes.{put_next}
use Rattle.plan_days.proofs.put_days.Goals as goal

pub loop-j-init : goal.loop-j-init
loop-j-init c = (zero-le, refl, refl)

pub bounds-day-j : goal.bounds-day-j
bounds-day-j c = omega (arith, c.requires.0)

pub overflow_add-out : goal.overflow_add-out
overflow_add-out c = omega (arith, c.requires.3 c.loop-j.j)

pub bounds-out-j : goal.bounds-out-j
bounds-out-j c = omega (arith, c.requires.2, c.loop-j.invariant.1)

pub loop-j-smaller : goal.loop-j-smaller
loop-j-smaller c = omega arith

pub loop-j-preserved : goal.loop-j-preserved
loop-j-preserved c =
    let a = c.args in (
      omega arith,
      simp length-set c.loop-j.invariant.1,
      put_next a.day.now a.out.now c.loop-j.out c.loop-j.j (omega (arith, c.requires.1)) (omega (arith, c.requires.2))
          c.loop-j.invariant.2,
    )

pub shape_of-out : goal.shape_of-out
shape_of-out c = c.loop-j.invariant.1

pub returns : goal.returns
returns c =
    let a = c.args in
    let e : c.loop-j.j ≡ a.n = omega arith in
    c.loop-j.invariant.2 ∙ ap (λ j. map suc (take j a.day.now) ++ drop j a.out.now) e
