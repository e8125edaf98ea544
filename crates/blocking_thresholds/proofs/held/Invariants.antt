use Rattle.std.proofs.Common.{◌≤◌, ◌≡◌, length}
use Rattle.blocking_thresholds.specs.PlanList.{AtNodes}
use Rattle.blocking_thresholds.proofs.held.Given as goal

abbrev pub invariant-loop-k : goal.invariant-loop-k
invariant-loop-k l = (l.k ≤ l.n) × (length l.d ≡ 32) × AtNodes l.end l.es l.k l.d
