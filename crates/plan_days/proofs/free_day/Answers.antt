-- plan_days::free_day: every day below d is taken. Assumes nothing.
use Rattle.std.proofs.Common.{zero-le, arith, ◌≡◌, refl, sym, ap, ◌∙◌, eqb}
use Rattle.lists.specs.Test.{eqb_yes, eqb_no}
use Rattle.lists.specs.Search.{low, low_miss, low_hit}
use Rattle.model.specs.Limits.{last_day}
use Rattle.arrays.specs.ArrayInstance.{at}
use Rattle.plan_days.specs.Tables.{place}
use Rattle.plan_days.proofs.free_day.Goals as goal

pub bounds-end-k : goal.bounds-end-k
bounds-end-k c = c.requires.0

pub overflow_cast-row : goal.overflow_cast-row
overflow_cast-row c = omega (arith, c.requires.1)

pub overflow_mul-row : goal.overflow_mul-row
overflow_mul-row c = omega (arith, c.requires.1)

pub loop-d-init : goal.loop-d-init
unfolding low
loop-d-init c = (zero-le, refl)

pub overflow_cast-d : goal.overflow_cast-d
overflow_cast-d c = omega arith

pub overflow_add-row : goal.overflow_add-row
overflow_add-row c = omega (arith, c.requires)

pub bounds-who-row : goal.bounds-who-row
bounds-who-row c = omega (arith, c.requires.1)

pub returns-then-who-row-eq0 : goal.returns-then-who-row-eq0
returns-then-who-row-eq0 c =
    let a = c.args in
    sym (low_hit (λ d. eqb (at a.who.now (place (at a.end.now a.k) d)) 0) c.loop-d.d last_day c.loop-d.invariant.1 (eqb_yes (at a.who.now
    (place (at a.end.now a.k) c.loop-d.d)) 0 c.if-who-row-eq0.true) (omega arith))

pub loop-d-preserved : goal.loop-d-preserved
loop-d-preserved c =
    let a = c.args in (
      omega arith,
      low_miss (λ d. eqb (at a.who.now (place (at a.end.now a.k) d)) 0) c.loop-d.d c.loop-d.invariant.1
          (eqb_no (at a.who.now (place (at a.end.now a.k) c.loop-d.d)) 0 c.if-who-row-eq0.false),
    )

pub returns : goal.returns
returns c =
    let a = c.args in
    let e : c.loop-d.d ≡ last_day = omega arith in
    sym e ∙ sym c.loop-d.invariant.1 ∙ ap (low (λ d. eqb (at a.who.now (place (at a.end.now a.k) d)) 0)) e
