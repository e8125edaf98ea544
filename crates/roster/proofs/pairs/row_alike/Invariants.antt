use Rattle.std.proofs.Common.{◌≤◌, ◌≡◌}
use Rattle.roster_reading.specs.Pairs.{row_alike}
use Rattle.roster.proofs.pairs.row_alike.Given as goal

abbrev pub invariant-loop-j : goal.invariant-loop-j
invariant-loop-j l = (l.j ≤ l.n) × (row_alike l.surveyors l.stands l.i l.n ≡ row_alike l.surveyors l.stands l.i l.j)
