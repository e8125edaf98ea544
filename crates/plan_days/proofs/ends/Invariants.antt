use Rattle.std.proofs.Common.{◌≤◌, ◌≡◌, length}
use Rattle.plan_days.specs.Bytes.{EndsAt}
use Rattle.plan_days.proofs.ends.Given as goal

abbrev pub invariant-loop-k : goal.invariant-loop-k
invariant-loop-k l = (l.k ≤ l.n) × (length l.r ≡ 64) × EndsAt l.k l.es l.end l.r
