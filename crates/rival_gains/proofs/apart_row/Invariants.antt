use Rattle.std.proofs.Common.{◌≡◌, Bool, List, ℕ, ◌-◌, ◌<◌, length}
use Rattle.arrays.specs.ArrayInstance.{at}
use Rattle.arrays.specs.Linked.{Linked}
use Rattle.rival_tables.specs.Visits.{Visit}
use Rattle.rival_gains.specs.Gains.{gain_price_but, gain_rest_but}
use Rattle.rival_gains.proofs.apart_row.Given as goal

-- what the row o holds at edge f
abbrev pub Held : (m : ℕ) (end other rank : List ℕ) (plan room : List Bool) (po : List ℕ) (e b : ℕ) (o : List ℕ) → ℕ → Type 0
Held m end other rank plan room po e b o f =
    (j : ℕ) → j < 64 → gain_rest_but m end other rank plan room e b (at po j) (at o j) f ≡ gain_price_but m end other rank plan room 3 e b (at po j)

abbrev pub invariant-loop-f : goal.invariant-loop-f
invariant-loop-f l =
    (length l.o ≡ 64) × ((end : List ℕ) → Linked l.side.m end l.side.links.now.head l.side.links.now.next → Visit l.side.m end l.e (Held l.side.m end l.side.other.now l.side.rank.now l.side.plan.now l.side.room.now l.po l.e l.b l.o) l.f)

abbrev pub decreases-loop-f : goal.decreases-loop-f
decreases-loop-f l = l.side.m - l.f
