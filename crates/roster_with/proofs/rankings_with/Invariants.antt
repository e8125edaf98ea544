use Rattle.std.proofs.Common.{◌+◌, ◌-◌, ◌*◌, ◌≤◌}
use Rattle.roster_parts.specs.Growth.{Going}
use Rattle.roster_parts.specs.Rankings.{rankings_from}
use Rattle.roster_with.specs.Entering.{marks_in, entering}
use Rattle.roster_with.specs.WithJoiner.{rankings_with}
use Rattle.roster_with.proofs.rankings_with.Given as goal

abbrev pub invariant-loop-j : goal.invariant-loop-j
invariant-loop-j l =
    (l.j ≤ l.n) × (l.at ≤ 20000 + 1022 * l.j)
    × Going (rankings_with l.file l.start l.n l.joiner (marks_in l.row)) (rankings_from (entering l.joiner (marks_in l.row)) l.file (l.n - l.j) (l.j + 1) l.at) l.initial.out l.out
