use Rattle.std.proofs.Common.{◌+◌, ◌-◌, ◌*◌, ◌≤◌, ◌≡◌}
use Rattle.roster_positions.specs.Tables.{lists_end}
use Rattle.roster_parts.proofs.lists_end.Given as goal

abbrev pub invariant-loop-i : goal.invariant-loop-i
invariant-loop-i l = (l.i ≤ l.n) × (l.start ≤ l.at) × (l.at ≤ l.start + 511 * l.i) × (lists_end l.file l.n l.start ≡ lists_end l.file (l.n - l.i) l.at)
