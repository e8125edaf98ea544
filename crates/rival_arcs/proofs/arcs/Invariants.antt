use Rattle.std.proofs.Common.{◌≡◌, List, ℕ}
use Rattle.arrays.specs.ArrayInstance.{at}
use Rattle.arrays.specs.Linked.{Linked}
use Rattle.rival_tables.specs.Filled.{Written}
use Rattle.rival_arcs.specs.Arcs.{arc_price}
use Rattle.rival_arcs.proofs.arcs.Given as goal

abbrev pub invariant-loop-i : goal.invariant-loop-i
invariant-loop-i l =
    (st : List ℕ) → Linked l.g.m st l.links_t.head l.links_t.next
    → Written l.n (λ i j v. v ≡ arc_price l.g.m l.g.sv st l.g.rank_s l.g.rank_t l.plan (at l.pt i) (at l.rpt i) (at l.ps j) (at l.rps j)) l.o l.i
