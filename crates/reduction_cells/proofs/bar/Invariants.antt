use Rattle.std.proofs.Common.{◌≡◌, ◌≤◌, leb}
use Rattle.lists.specs.Search.{low}
use Rattle.model.specs.Limits.{empty_rank}
use Rattle.arrays.specs.ArrayInstance.{flag}
use Rattle.reduction_cells.specs.Cells.{passed}
use Rattle.reduction_cells.proofs.bar.Given as goal

abbrev pub invariant-loop-r : goal.invariant-loop-r
invariant-loop-r l = (l.r ≤ empty_rank) × (l.c ≡ passed l.m l.table (flag l.p) l.v l.r) × (low (λ r. leb l.q (passed l.m l.table (flag l.p) l.v r)) l.r ≡ l.r)
