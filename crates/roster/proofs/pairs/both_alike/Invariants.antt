use Rattle.std.proofs.Common.{◌≤◌, ◌≡◌}
use Rattle.roster_reading.specs.Pairs.{both_alike}
use Rattle.roster.proofs.pairs.both_alike.Given as goal

abbrev pub invariant-loop-i : goal.invariant-loop-i
invariant-loop-i l = (l.i ≤ l.m) × (both_alike l.surveyors l.stands l.m l.n ≡ both_alike l.surveyors l.stands l.i l.n)
