use Rattle.std.proofs.Common.{◌≡◌, Bool, ◌&&◌, ◌||◌, List, ℕ, ◌≤◌}
use Rattle.lists.specs.Search.{low}
use Rattle.model.specs.Limits.{empty_rank}
use Rattle.arrays.specs.ArrayInstance.{at, flag}
use Rattle.reduction_cells.specs.Cells.{in_worst}
use Rattle.reduction_cells.proofs.worst.Given as goal

abbrev pub in_n : (other : List ℕ) (rem lo f : List Bool) → ℕ → Bool
in_n other rem lo f d = flag rem d && (flag lo (at other d) || flag f d)

abbrev pub invariant-loop-k : goal.invariant-loop-k
invariant-loop-k l = (l.k ≤ empty_rank) × (low (in_worst l.m l.table (in_n l.other l.rem l.lo l.f) l.v) l.k ≡ l.k)
