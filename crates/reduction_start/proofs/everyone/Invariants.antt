use Rattle.std.proofs.Common.{◌≤◌}
use Rattle.model.specs.Limits.{node_limit, empty_rank}
use Rattle.arrays.specs.Passes.{Fill}
use Rattle.reduction_start.proofs.everyone.Given as goal

abbrev pub invariant-loop-i : goal.invariant-loop-i
invariant-loop-i l = (l.i ≤ node_limit) × Fill 0 empty_rank l.o l.i (λ v. v)
