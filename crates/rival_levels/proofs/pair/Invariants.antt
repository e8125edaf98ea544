use Rattle.std.proofs.Common.{◌≡◌, ◌≤◌, ltb}
use Rattle.rival_tables.specs.Filled.{cell}
use Rattle.lists.specs.Search.{low}
use Rattle.rival_levels.specs.Levels.{ends_at}
use Rattle.rival_levels.proofs.pair.Given as goal

abbrev pub invariant-loop-i : goal.invariant-loop-i
invariant-loop-i l = (l.i ≤ l.n) × (low (λ i. ltb (ends_at (cell l.d) l.terminals l.n l.bound i) l.n) l.i ≡ l.i)
