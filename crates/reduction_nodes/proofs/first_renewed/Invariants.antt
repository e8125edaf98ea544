use Rattle.std.proofs.Common.{◌≡◌, ℕ, ◌≤◌, length, List}
use Rattle.model.specs.Limits.{node_limit}
use Rattle.reduction_cells.specs.Painted.{among}
use Rattle.reduction_lists.specs.Listed.{Listed}
use Rattle.reduction_nodes.specs.Numbers.{first_of}
use Rattle.reduction_nodes.specs.Renewed.{RenewedBy}
use Rattle.reduction_nodes.proofs.first_renewed.Given as goal

abbrev pub invariant-loop-i : goal.invariant-loop-i
invariant-loop-i l = (l.i ≤ l.n) × (length l.x ≡ node_limit)
    × ((sv : List ℕ) → Listed l.m sv l.table → RenewedBy (among l.turned l.i) (first_of l.m sv l.fs l.ft) l.initial.x l.x)
