use Rattle.std.proofs.Common.{◌≡◌, ◌≤◌, length}
use Rattle.model.specs.Limits.{node_limit}
use Rattle.reduction_cells.specs.Painted.{among}
use Rattle.reduction_turn.specs.Onward.{Marked}
use Rattle.reduction_turn.proofs.marked.Given as goal

abbrev pub invariant-loop-i : goal.invariant-loop-i
invariant-loop-i l = (l.i ≤ l.n) × (length l.old ≡ node_limit) × Marked (among l.turned l.i) l.initial.old l.old
