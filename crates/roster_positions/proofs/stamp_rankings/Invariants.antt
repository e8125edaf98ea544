use Rattle.std.proofs.Common.{◌≡◌, ◌+◌, ◌-◌, ◌*◌, ◌≤◌}
use Rattle.roster_positions.specs.Tables.{row_width, strict_stamped, next_ranks}
use Rattle.roster_positions.proofs.stamp_rankings.Given as goal

abbrev pub invariant-loop-j : goal.invariant-loop-j
invariant-loop-j l =
    (l.j ≤ l.n) × (l.at ≤ 20000 + 1022 * l.j) × (strict_stamped l.file l.n 0 l.start l.initial.table ≡ strict_stamped l.file (l.n - l.j) (l.j * row_width) l.at l.table)
    × (next_ranks l.file l.n 0 l.start l.initial.next ≡ next_ranks l.file (l.n - l.j) l.j l.at l.next)
