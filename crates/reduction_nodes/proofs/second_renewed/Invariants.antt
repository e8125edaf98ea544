use Rattle.std.proofs.Common.{◌≡◌, List, ℕ, ◌≤◌, length}
use Rattle.model.specs.Limits.{node_limit}
use Rattle.reduction_lists.specs.Listed.{Listed}
use Rattle.reduction_cells.specs.Painted.{among}
use Rattle.reduction_nodes.specs.Numbers.{seconds_of}
use Rattle.reduction_nodes.specs.Renewed.{RenewedBy}
use Rattle.reduction_nodes.proofs.second_renewed.Given as goal

abbrev pub invariant-loop-i : goal.invariant-loop-i
invariant-loop-i l = (l.i ≤ l.n) × (length l.x ≡ node_limit)
    × ((end : List ℕ) → Listed l.m end l.table → RenewedBy (among l.turned l.i) (seconds_of l.m end l.rank l.table l.rem l.f l.q) l.initial.x l.x)
