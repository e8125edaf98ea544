use Rattle.std.proofs.Common.{◌+◌, ◌-◌, ◌*◌, ◌≤◌}
use Rattle.roster_parts.specs.Growth.{Going}
use Rattle.roster_parts.specs.Mapped.{rankings_under}
use Rattle.roster_parts.proofs.RosterBytes.append_rankings.Given as goal

abbrev pub invariant-loop-j : goal.invariant-loop-j
invariant-loop-j l =
    (l.j ≤ l.count) × (l.at ≤ 40000 + 1022 * l.j) × Going (rankings_under l.table l.file l.count l.start) (rankings_under l.table l.file (l.count - l.j) l.at) l.initial.self l.self
