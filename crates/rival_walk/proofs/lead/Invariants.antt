use Rattle.std.proofs.Common.{◌≡◌, ◌≤◌, ℕ}
use Rattle.rival_tables.specs.Filled.{cell}
use Rattle.rival_tables.specs.Within.{if_below}
use Rattle.rival_walk.specs.Leads.{lead_at, lead_rest}
use Rattle.rival_walk.proofs.lead.Given as goal

abbrev pub invariant-loop-y : goal.invariant-loop-y
invariant-loop-y l =
    (l.y ≤ l.n) × (l.v ≤ 133)
    × ((p : ℕ) × (l.place ≡ if_below l.n p) × (lead_rest l.arcs l.n (cell l.table l.k) l.i (l.v, p) l.y ≡ lead_at l.arcs l.n (cell l.table l.k) l.i))
