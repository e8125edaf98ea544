use Rattle.std.proofs.Common.{◌≤◌, ◌≡◌, eqb}
use Rattle.lists.specs.Search.{low}
use Rattle.arrays.specs.ArrayInstance.{at}
use Rattle.plan_days.specs.Tables.{place}
use Rattle.plan_days.proofs.free_day.Given as goal

abbrev pub invariant-loop-d : goal.invariant-loop-d
invariant-loop-d l = (l.d ≤ 9) × (low (λ d. eqb (at l.who (place (at l.end l.k) d)) 0) l.d ≡ l.d)
