-- plan_days::days_of: the days of the entries below k, and both tables of them. Assumes nothing.
use Rattle.std.proofs.Common.{zero-le, arith, add-one, ◌≡◌, refl, sym, ap, ◌∙◌}
use Rattle.plan_days.specs.DayByDay.{with_day_in, spread_in}
use Rattle.plan_days.specs.Tables.{none_held}
use Rattle.plan_days.specs.Turns.{room}
use Rattle.plan_days.proofs.days_of.Goals as goal

pub loop-k-init : goal.loop-k-init
unfolding spread_in
loop-k-init c = (zero-le, refl, none_held _ _, none_held _ _)

pub with_day-requires : goal.with_day-requires
with_day-requires c =
    let a = c.args in
    room a.ends.now.surveyors a.ends.now.stands a.n c.requires.0 c.requires.3 c.requires.4 c.loop-k.k (omega arith) c.requires.1 c.requires.2 c.loop-k.invariant.1
    c.loop-k.invariant.2 c.loop-k.invariant.3

pub loop-k-smaller : goal.loop-k-smaller
loop-k-smaller c = omega arith

pub loop-k-preserved : goal.loop-k-preserved
unfolding spread_in
loop-k-preserved c =
    let a = c.args in
    let r = c.with_day.ensures in (
      omega arith,
      r.0 ∙ ap (with_day_in c.loop-k.k a.ends.now.surveyors a.ends.now.stands) c.loop-k.invariant.1
          ∙ ap (λ k. spread_in k a.ends.now.surveyors a.ends.now.stands) (sym (add-one c.loop-k.k)),
      r.1,
      r.2,
    )

pub returns : goal.returns
returns c =
    let a = c.args in
    let e : c.loop-k.k ≡ a.n = omega arith in
    c.loop-k.invariant.1 ∙ ap (λ k. spread_in k a.ends.now.surveyors a.ends.now.stands) e
