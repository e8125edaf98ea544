use Rattle.std.proofs.Common.{◌≡◌, ◌+◌, ◌≤◌, ltb}
use Rattle.arrays.specs.ArrayInstance.{at}
use Rattle.lists.specs.Search.{low}
use Rattle.rival_levels.specs.Layers.{kept_price}
use Rattle.rival_levels.proofs.lowered.Given as goal

abbrev pub invariant-loop-j : goal.invariant-loop-j
invariant-loop-j l = (l.j ≤ l.n) × (low (λ j. ltb (at l.e (l.b + j)) (kept_price (at l.d (l.b + j)))) l.j ≡ l.j)
