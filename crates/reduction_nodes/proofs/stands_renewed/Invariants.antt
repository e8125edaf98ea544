use Rattle.std.proofs.Common.{◌≡◌, List, ℕ, ◌≤◌, length}
use Rattle.model.specs.Limits.{node_limit}
use Rattle.reduction_lists.specs.Listed.{Listed}
use Rattle.reduction_nodes.specs.Numbers.{stands_of, Rows, Stood, stand_numbers}
use Rattle.reduction_nodes.proofs.stands_renewed.Given as goal

abbrev pub invariant-loop-v : goal.invariant-loop-v
invariant-loop-v l = (l.v ≤ node_limit) × Rows 2 l.late × (length l.loose ≡ node_limit)
    × ((st : List ℕ) → Listed l.m st l.table → Stood (stands_of l.m st l.table l.rem l.fs l.ft l.q) l.due (stand_numbers l.initial.late l.initial.loose) l.v (stand_numbers l.late l.loose))
