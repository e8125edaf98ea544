use Rattle.std.proofs.Common.{◌≡◌, ◌+◌, ◌≤◌, ltb}
use Rattle.arrays.specs.ArrayInstance.{at}
use Rattle.lists.specs.Search.{low}
use Rattle.rival_levels.proofs.ends.Given as goal

abbrev pub invariant-loop-j : goal.invariant-loop-j
invariant-loop-j l = (l.j ≤ l.n) × (low (λ j. ltb (at l.d (l.b + j) + at l.terminals (l.b + j)) l.bound) l.j ≡ l.j)
