use Rattle.std.proofs.Common.{◌-◌}
use Rattle.reduction_lists.specs.Listed.{Spelling}
use Rattle.reduction_lists.proofs.put.Given as goal

abbrev pub invariant-loop-e : goal.invariant-loop-e
invariant-loop-e l = Spelling l.m l.end l.v l.k l.initial.table l.e l.i l.table

abbrev pub decreases-loop-e : goal.decreases-loop-e
decreases-loop-e l = l.m - l.e
