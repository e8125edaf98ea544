use Rattle.std.proofs.Common.{◌≡◌, ◌≤◌, ltb}
use Rattle.rival_tables.specs.Filled.{cell}
use Rattle.lists.specs.Search.{low}
use Rattle.rival_levels.proofs.diagonal.Given as goal

abbrev pub invariant-loop-i : goal.invariant-loop-i
invariant-loop-i l = (l.i ≤ l.n) × (low (λ i. ltb (cell l.d i i) l.bound) l.i ≡ l.i)
