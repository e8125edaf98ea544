use Rattle.std.proofs.Common.{not, ℕ, ◌≤◌, ◌<◌, T}
use Rattle.plan_lookup.specs.PairEdge.{Ends}
use Rattle.plan_lookup.proofs.scan.Given as goal

abbrev pub invariant-loop-e : goal.invariant-loop-e
invariant-loop-e l = (l.start ≤ l.e) × (l.e ≤ l.end) × ((d : ℕ) → l.start ≤ d → d < l.e → T (not (Ends l.sv l.st l.sh l.s l.t l.k d)))
