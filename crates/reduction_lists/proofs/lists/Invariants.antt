use Rattle.std.proofs.Common.{◌≤◌}
use Rattle.reduction_lists.specs.Listed.{Listing}
use Rattle.reduction_lists.proofs.lists.Given as goal

abbrev pub invariant-loop-v : goal.invariant-loop-v
invariant-loop-v l = (l.v ≤ 32) × Listing l.m l.end l.initial.table l.v l.k l.table
