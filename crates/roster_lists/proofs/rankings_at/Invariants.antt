use Rattle.std.proofs.Common.{◌≤◌, ◌≡◌, length}
use Rattle.model.specs.Roster.{entries}
use Rattle.roster_reading.specs.Layout.{ranking_by}
use Rattle.roster_reading.specs.Table.{no_ranking}
use Rattle.roster_reading.specs.Many.{Turn}
use Rattle.roster_lists.proofs.rankings_at.Given as goal

abbrev pub invariant-loop-k : goal.invariant-loop-k
invariant-loop-k l =
    (l.k ≤ l.n) × (l.at ≤ length l.file) × (length l.table ≡ length l.initial.table) × Turn (ranking_by l.shifts l.other) entries no_ranking l.file l.start l.n l.at l.k l.table
