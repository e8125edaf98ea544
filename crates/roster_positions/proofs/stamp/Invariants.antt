use Rattle.std.proofs.Common.{◌≡◌, ◌+◌, ◌*◌, ◌≤◌, length, drop}
use Rattle.model.specs.Limits.{entry_width}
use Rattle.roster_positions.specs.Tables.{entries_in, stamped}
use Rattle.roster_positions.proofs.stamp.Given as goal

abbrev pub invariant-loop-k : goal.invariant-loop-k
invariant-loop-k l =
    (entry_width * l.k ≤ length l.list) × (l.table ≡ stamped l.row (entries_in (drop (entry_width * l.k) l.list)) (l.k + 1) l.initial.table)

abbrev pub decreases-loop-k : goal.decreases-loop-k
decreases-loop-k l = l.k
