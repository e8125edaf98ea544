use Rattle.std.proofs.Common.{◌≡◌, ◌≤◌, length}
use Rattle.arrays.specs.Filled.{Made}
use Rattle.rival_tables.specs.Filled.{cell}
use Rattle.rival_walk.specs.Leads.{lead_at}
use Rattle.rival_walk.proofs.next_column.Given as goal

abbrev pub invariant-loop-i : goal.invariant-loop-i
invariant-loop-i l = (l.i ≤ l.n) × (length l.o ≡ 64) × Made 0 l.o (λ i. (lead_at l.arcs l.n (cell l.table l.k) i).0) l.i
