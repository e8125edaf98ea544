use Rattle.std.proofs.Common.{◌≡◌, ◌≤◌}
use Rattle.rival_tables.specs.Filled.{cell}
use Rattle.rival_walk.specs.Leads.{lead_at, price_rest}
use Rattle.rival_walk.proofs.price.Given as goal

abbrev pub invariant-loop-y : goal.invariant-loop-y
invariant-loop-y l = (l.y ≤ l.n) × (l.v ≤ 133) × (price_rest l.arcs l.n (cell l.table l.k) l.i l.v l.y ≡ (lead_at l.arcs l.n (cell l.table l.k) l.i).0)
