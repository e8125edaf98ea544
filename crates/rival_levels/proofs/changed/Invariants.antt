use Rattle.std.proofs.Common.{◌≡◌, ◌≤◌, ltb}
use Rattle.rival_tables.specs.Filled.{cell}
use Rattle.lists.specs.Search.{low}
use Rattle.rival_levels.specs.Levels.{lowered_at}
use Rattle.rival_levels.proofs.changed.Given as goal

abbrev pub invariant-loop-i : goal.invariant-loop-i
invariant-loop-i l = (l.i ≤ l.n) × (low (λ i. ltb (lowered_at (cell l.d) (cell l.e) l.n i) l.n) l.i ≡ l.i)
