use Rattle.std.proofs.Common.{◌≤◌, ◌≡◌}
use Rattle.plan_days.specs.DayByDay.{spread_in}
use Rattle.plan_days.specs.Tables.{Held}
use Rattle.plan_days.proofs.days_of.Given as goal

abbrev pub invariant-loop-k : goal.invariant-loop-k
invariant-loop-k l = (l.k ≤ l.n) × (l.sheet.day ≡ spread_in l.k l.ends.surveyors l.ends.stands) × Held l.k l.ends.surveyors l.sheet.day l.sheet.at_surveyors × Held l.k l.ends.stands l.sheet.day l.sheet.at_stands
