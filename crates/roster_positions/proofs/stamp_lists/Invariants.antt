use Rattle.std.proofs.Common.{◌≡◌, ◌+◌, ◌-◌, ◌*◌, ◌≤◌}
use Rattle.roster_positions.specs.Tables.{row_width, lists_stamped, lists_end}
use Rattle.roster_positions.proofs.stamp_lists.Given as goal

abbrev pub invariant-loop-i : goal.invariant-loop-i
invariant-loop-i l =
    (l.i ≤ l.n) × (l.at ≤ l.start + 511 * l.i) × (lists_end l.file l.n l.start ≡ lists_end l.file (l.n - l.i) l.at)
    × (lists_stamped l.file l.n 0 l.start l.initial.table ≡ lists_stamped l.file (l.n - l.i) (l.i * row_width) l.at l.table)
