use Rattle.std.proofs.Common.{◌+◌, ◌-◌, ◌*◌, ◌≤◌}
use Rattle.roster_parts.specs.Growth.{Going}
use Rattle.roster_parts.specs.Mapped.{lists_under}
use Rattle.roster_parts.proofs.RosterBytes.append_lists.Given as goal

abbrev pub invariant-loop-i : goal.invariant-loop-i
invariant-loop-i l =
    (l.i ≤ l.count) × (l.at ≤ 20000 + 511 * l.i) × Going (lists_under l.table l.file l.count l.start) (lists_under l.table l.file (l.count - l.i) l.at) l.initial.self l.self
