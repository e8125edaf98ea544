use Rattle.std.proofs.Common.{◌≡◌, not, ◌≤◌, length, eqb}
use Rattle.arrays.specs.ArrayInstance.{at}
use Rattle.rival_tables.specs.Cheapest.{offer}
use Rattle.rival_tables.specs.Filled.{Remade}
use Rattle.rival_gains.proofs.parted.Given as goal

abbrev pub invariant-loop-j : goal.invariant-loop-j
invariant-loop-j l = (l.j ≤ 64) × (length l.row ≡ 64) × Remade l.initial.row (λ k. offer (not (eqb l.d (at l.po k))) l.p (at l.initial.row k)) l.j l.row
