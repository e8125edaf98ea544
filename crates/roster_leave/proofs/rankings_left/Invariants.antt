use Rattle.std.proofs.Common.{◌+◌, ◌-◌, ◌*◌, ◌≤◌}
use Rattle.roster_parts.specs.Growth.{Going}
use Rattle.roster_parts.specs.Rankings.{rankings_from}
use Rattle.roster_leave.specs.LeftParts.{ranking_left}
use Rattle.roster_leave.specs.Left.{rankings_left}
use Rattle.roster_leave.proofs.rankings_left.Given as goal

abbrev pub invariant-loop-j : goal.invariant-loop-j
invariant-loop-j l =
    (l.j ≤ l.n) × (l.at ≤ 20000 + 1022 * l.j)
    × Going (rankings_left l.file l.start l.n l.number) (rankings_from (λ j. ranking_left l.number) l.file (l.n - l.j) (l.j + 1) l.at) l.initial.out l.out
