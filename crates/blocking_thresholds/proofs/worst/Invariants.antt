use Rattle.std.proofs.Common.{◌≤◌, ◌≡◌, length}
use Rattle.blocking_thresholds.specs.PlanList.{WorstOf}
use Rattle.blocking_thresholds.proofs.worst.Given as goal

abbrev pub invariant-loop-k : goal.invariant-loop-k
invariant-loop-k l = (l.k ≤ l.n) × (length l.w ≡ 32) × WorstOf l.end l.rank l.es l.k l.w
