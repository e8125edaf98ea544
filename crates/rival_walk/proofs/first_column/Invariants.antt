use Rattle.std.proofs.Common.{◌≡◌, ◌≤◌, length}
use Rattle.arrays.specs.Filled.{Made}
use Rattle.rival_tables.specs.Filled.{cell}
use Rattle.rival_walk.proofs.first_column.Given as goal

abbrev pub invariant-loop-i : goal.invariant-loop-i
invariant-loop-i l = (l.i ≤ l.n) × (length l.o ≡ 64) × Made 0 l.o (λ i. cell l.arcs i l.j) l.i
