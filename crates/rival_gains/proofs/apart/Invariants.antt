use Rattle.std.proofs.Common.{◌≡◌, List, ℕ}
use Rattle.arrays.specs.ArrayInstance.{at}
use Rattle.arrays.specs.Linked.{Linked}
use Rattle.rival_tables.specs.Filled.{Written}
use Rattle.rival_gains.specs.Gains.{gain_price_but}
use Rattle.rival_gains.proofs.apart.Given as goal

abbrev pub invariant-loop-i : goal.invariant-loop-i
invariant-loop-i l =
    (end : List ℕ) → Linked l.side.m end l.side.links.now.head l.side.links.now.next
    → Written l.n (λ i j v. v ≡ gain_price_but l.side.m end l.side.other.now l.side.rank.now l.side.plan.now l.side.room.now 3 (at l.pe i) (at l.pr i) (at l.po j)) l.o l.i
