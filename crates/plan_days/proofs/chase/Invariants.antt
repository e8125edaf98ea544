use Rattle.std.proofs.Common.{◌-◌, ◌≤◌, ◌≡◌}
use Rattle.plan_days.specs.Chase.{chase_in}
use Rattle.plan_days.specs.Turns.{Turn}
use Rattle.plan_days.proofs.chase.Given as goal

abbrev pub invariant-loop-i : goal.invariant-loop-i
invariant-loop-i l =
    (l.i ≤ l.n) × (chase_in l.n l.ends.surveyors l.ends.stands l.a l.b l.n l.k l.initial.sheet.day ≡ chase_in l.n l.ends.surveyors l.ends.stands l.a l.b (l.n - l.i) l.cur l.sheet.day) × Turn l.n l.ends.stands l.ends.surveyors l.sheet.day l.sheet.at_stands l.sheet.at_surveyors l.cur l.a l.b
