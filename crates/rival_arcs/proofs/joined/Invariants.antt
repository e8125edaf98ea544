use Rattle.std.proofs.Common.{◌≡◌, List, ℕ, ◌+◌, ◌-◌, length, eqb}
use Rattle.arrays.specs.ArrayInstance.{at}
use Rattle.arrays.specs.Linked.{Linked}
use Rattle.rival_tables.specs.Cheapest.{offer}
use Rattle.rival_tables.specs.Visits.{Visit}
use Rattle.rival_tables.specs.Filled.{Remade}
use Rattle.theory_votes.specs.Score.{rate}
use Rattle.rival_arcs.proofs.joined.Given as goal

abbrev pub column : (row ps rps : List ℕ) (s r a : ℕ) → ℕ → ℕ
column row ps rps s r a j = offer (eqb s (at ps j)) (a + rate (at rps j) r) (at row j)

abbrev pub invariant-loop-j : goal.invariant-loop-j
invariant-loop-j l =
    (length l.row ≡ 64) × ((ps : List ℕ) → Linked 64 ps l.first l.after → Visit 64 ps l.s (λ d. Remade l.initial.row (column l.initial.row ps l.rps l.s l.r l.a) d l.row) l.j)

abbrev pub decreases-loop-j : goal.decreases-loop-j
decreases-loop-j l = 64 - l.j
