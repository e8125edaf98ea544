use Rattle.std.proofs.Common.{◌≡◌, ◌≤◌, length}
use Rattle.model.specs.Limits.{empty_rank, node_limit, entry_limit}
use Rattle.arrays.specs.ArrayInstance.{flag}
use Rattle.arrays.specs.Passes.{Low}
use Rattle.reduction_cells.specs.Cells.{passed}
use Rattle.reduction_cells.specs.Painted.{Painted, among}
use Rattle.reduction_cells.proofs.paint.Given as goal

abbrev pub invariant-loop-r : goal.invariant-loop-r
invariant-loop-r l = (l.r ≤ empty_rank) × (l.c ≡ passed l.m l.table (flag l.rem) l.v l.r)
    × Painted l.m l.other l.table l.rem l.v l.q l.r l.initial.f l.f (among l.turned l.n) × (length l.f ≡ entry_limit) × (length l.turned ≡ empty_rank) × (l.n ≤ l.r) × Low l.n l.turned node_limit
