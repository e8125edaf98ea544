use Rattle.arrays.specs.ArrayInstance.{at, flag}
use Rattle.reduction_lists.specs.Walks.{Counts}
use Rattle.reduction_lists.proofs.tallies.Given as goal

abbrev pub invariant-loop-k : goal.invariant-loop-k
invariant-loop-k l = Counts l.m l.table l.v (flag l.p) l.k (at l.table l.k) l.c × Counts l.m l.table l.v (flag l.q) l.k (at l.table l.k) l.d
