use Rattle.std.proofs.Common.{◌≤◌, take}
use Rattle.roster_routes.specs.Marking.{Marked}
use Rattle.roster_routes.proofs.route_of.Given as goal

abbrev pub invariant-loop-i : goal.invariant-loop-i
invariant-loop-i l = (l.i ≤ l.nt) × Marked (take l.i l.route) l.nt l.numbers
