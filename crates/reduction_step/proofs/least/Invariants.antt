use Rattle.std.proofs.Common.{◌≤◌}
use Rattle.model.specs.Limits.{node_limit}
use Rattle.reduction_step.specs.Least.{Least}
use Rattle.reduction_step.proofs.least.Given as goal

abbrev pub invariant-loop-i : goal.invariant-loop-i
invariant-loop-i l = (l.i ≤ node_limit) × Least l.xs l.i l.l
