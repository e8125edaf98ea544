use Rattle.std.proofs.Common.{◌≡◌, not, ◌≤◌, length, eqb}
use Rattle.roster_positions.specs.Tables.{table_size}
use Rattle.arrays.specs.ArrayInstance.{at}
use Rattle.arrays.specs.Kept.{Kept}
use Rattle.instance.proofs.listed_cells.Given as goal

abbrev pub invariant-loop-c : goal.invariant-loop-c
invariant-loop-c l = (l.c ≤ l.end) × (l.m ≤ l.c) × (length l.cell ≡ table_size) × Kept (λ c. not (eqb (at l.table c) 0)) l.cell l.m l.c
