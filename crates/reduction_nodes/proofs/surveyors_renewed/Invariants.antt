use Rattle.std.proofs.Common.{List, ℕ, ◌≤◌}
use Rattle.model.specs.Limits.{node_limit}
use Rattle.reduction_lists.specs.Listed.{Listed}
use Rattle.reduction_nodes.specs.Numbers.{surveyors_of, Rows, Surveyed, surveyor_numbers}
use Rattle.reduction_nodes.proofs.surveyors_renewed.Given as goal

abbrev pub invariant-loop-v : goal.invariant-loop-v
invariant-loop-v l = (l.v ≤ node_limit) × Rows 3 l.late
    × ((sv : List ℕ) → Listed l.m sv l.table → Surveyed (surveyors_of l.m sv l.st l.table l.rem l.fs l.ft l.lo l.q) l.due (surveyor_numbers l.initial.late) l.v (surveyor_numbers l.late))
