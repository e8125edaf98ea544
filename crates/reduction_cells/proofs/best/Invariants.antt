use Rattle.std.proofs.Common.{◌≡◌, ◌≤◌}
use Rattle.lists.specs.Search.{low}
use Rattle.model.specs.Limits.{empty_rank}
use Rattle.arrays.specs.ArrayInstance.{flag}
use Rattle.reduction_cells.specs.Cells.{in_best}
use Rattle.reduction_cells.proofs.best.Given as goal

abbrev pub invariant-loop-r : goal.invariant-loop-r
invariant-loop-r l = (l.r ≤ empty_rank) × (low (in_best l.m l.table (flag l.p) l.v) l.r ≡ l.r)
