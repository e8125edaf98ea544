use Rattle.std.proofs.Common.{◌≤◌, ◌≡◌, length}
use Rattle.model.specs.Limits.{node_limit, entry_limit}
use Rattle.offers.specs.KeptEdges.{Marked}
use Rattle.offers.proofs.kept_edges.Given as goal

abbrev pub invariant-loop-k : goal.invariant-loop-k
invariant-loop-k l = (l.k-index ≤ node_limit) × (length l.plan ≡ entry_limit) × Marked l.m l.st l.kept l.plan l.k-index
