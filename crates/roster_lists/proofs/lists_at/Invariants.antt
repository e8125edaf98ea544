use Rattle.std.proofs.Common.{◌≤◌, ◌≡◌, [], length}
use Rattle.roster_reading.specs.Layout.{list_by}
use Rattle.roster_reading.specs.Many.{Turn}
use Rattle.roster_lists.proofs.lists_at.Given as goal

abbrev pub invariant-loop-k : goal.invariant-loop-k
invariant-loop-k l =
    (l.k ≤ l.n) × (l.at ≤ length l.file) × (length l.table ≡ length l.initial.table) × Turn (list_by l.shifts l.other) (λ xs. xs) [] l.file l.start l.n l.at l.k l.table
