use Rattle.std.proofs.Common.{◌≤◌}
use Rattle.roster_positions.specs.Rows.{bytes_of}
use Rattle.roster_parts.specs.Growth.{Going}
use Rattle.roster_parts.specs.Mapped.{entries_from}
use Rattle.roster_parts.proofs.RosterBytes.append_entries.Given as goal

abbrev pub invariant-loop-i : goal.invariant-loop-i
invariant-loop-i l =
    (l.i ≤ l.count) × Going (bytes_of (entries_from l.table l.list 0)) (bytes_of (entries_from l.table l.list l.i)) l.initial.self l.self
