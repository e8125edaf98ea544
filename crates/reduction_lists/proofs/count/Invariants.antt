use Rattle.std.proofs.Common.{Bool, List, ℕ, ◌≤◌}
use Rattle.arrays.specs.ArrayInstance.{at}
use Rattle.reduction_lists.specs.Listed.{Listed}
use Rattle.reduction_lists.specs.Walks.{Decides, Counted}
use Rattle.reduction_lists.proofs.count.Given as goal

abbrev pub invariant-loop-k : goal.invariant-loop-k
invariant-loop-k g l = (l.c ≤ l.k) × ((end : List ℕ) (q : ℕ → Bool) → Listed l.m end l.table → Decides l.m (goal.F-post g l.passes) q
    → Counted l.m end l.table l.v q l.k (at l.table l.k) l.c)
