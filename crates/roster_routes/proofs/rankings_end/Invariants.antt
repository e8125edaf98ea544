use Rattle.std.proofs.Common.{◌+◌, ◌-◌, ◌*◌, ◌≤◌, ◌≡◌}
use Rattle.roster_routes.specs.Reordered.{rankings_end}
use Rattle.roster_routes.proofs.rankings_end.Given as goal

abbrev pub invariant-loop-i : goal.invariant-loop-i
invariant-loop-i l = (l.i ≤ l.k) × (l.at ≤ l.start + 1022 * l.i) × (rankings_end l.file l.k l.start ≡ rankings_end l.file (l.k - l.i) l.at)
