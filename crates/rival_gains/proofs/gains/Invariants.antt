use Rattle.std.proofs.Common.{◌≡◌, List, ℕ, ◌≤◌, length}
use Rattle.arrays.specs.ArrayInstance.{at}
use Rattle.arrays.specs.Filled.{Made}
use Rattle.arrays.specs.Linked.{Linked}
use Rattle.rival_gains.specs.Gains.{gain_price}
use Rattle.rival_gains.proofs.gains.Given as goal

abbrev pub invariant-loop-i : goal.invariant-loop-i
invariant-loop-i l =
    (l.i ≤ l.n) × (length l.o ≡ 64)
    × ((end : List ℕ) → Linked l.side.m end l.side.links.now.head l.side.links.now.next → Made 0 l.o (λ i. gain_price l.side.m end l.side.other.now l.side.rank.now l.side.plan.now l.side.room.now 6 (at l.pe i) (at l.pr i)) l.i)
