use Rattle.std.proofs.Common.{◌≡◌, List, Bool, ℕ, ◌-◌, ◌<◌, length}
use Rattle.arrays.specs.ArrayInstance.{at}
use Rattle.arrays.specs.Linked.{Linked}
use Rattle.rival_tables.specs.Visits.{Visit}
use Rattle.rival_arcs.specs.Arcs.{arc_price, arc_rest}
use Rattle.rival_arcs.proofs.arc_row.Given as goal

-- what the row o holds at edge f
abbrev pub Held : (m : ℕ) (sv st rs rt : List ℕ) (plan : List Bool) (ps rps : List ℕ) (t b : ℕ) (o : List ℕ) → ℕ → Type 0
Held m sv st rs rt plan ps rps t b o f =
    (j : ℕ) → j < 64 → arc_rest m sv st rs rt plan t b (at ps j) (at rps j) (at o j) f ≡ arc_price m sv st rs rt plan t b (at ps j) (at rps j)

abbrev pub invariant-loop-f : goal.invariant-loop-f
invariant-loop-f l =
    (length l.o ≡ 64)
    × ((st ps : List ℕ) → Linked l.g.m st l.links_t.head l.links_t.next → Linked 64 ps l.first l.after → Visit l.g.m st l.t (Held l.g.m l.g.sv st l.g.rank_s l.g.rank_t l.plan ps l.rps l.t l.b l.o) l.f)

abbrev pub decreases-loop-f : goal.decreases-loop-f
decreases-loop-f l = l.g.m - l.f
