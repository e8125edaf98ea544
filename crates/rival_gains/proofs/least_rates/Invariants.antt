use Rattle.std.proofs.Common.{List, ℕ, ◌-◌}
use Rattle.arrays.specs.Linked.{Linked}
use Rattle.rival_tables.specs.Visits.{Visit}
use Rattle.rival_gains.specs.BothGains.{Held}
use Rattle.rival_gains.proofs.least_rates.Given as goal

abbrev pub invariant-loop-f : goal.invariant-loop-f
invariant-loop-f l =
    (end : List ℕ) → Linked l.side.m end l.side.links.now.head l.side.links.now.next → Visit l.side.m end l.e (Held l.side.m end l.side.other.now l.side.rank.now l.side.plan.now l.side.room.now l.e l.b l.d l.all l.apart) l.f

abbrev pub decreases-loop-f : goal.decreases-loop-f
decreases-loop-f l = l.side.m - l.f
