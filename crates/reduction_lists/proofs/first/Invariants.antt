use Rattle.std.proofs.Common.{Bool, List, ℕ}
use Rattle.arrays.specs.ArrayInstance.{at}
use Rattle.reduction_lists.specs.Listed.{Listed}
use Rattle.reduction_lists.specs.Walks.{Decides, Walked}
use Rattle.reduction_lists.proofs.first.Given as goal

abbrev pub invariant-loop-k : goal.invariant-loop-k
invariant-loop-k g l = (end : List ℕ) (q : ℕ → Bool) → Listed l.m end l.table → Decides l.m (goal.F-post g l.passes) q
    → Walked l.m end l.table l.v q l.k (at l.table l.k)
