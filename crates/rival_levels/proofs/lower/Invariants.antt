use Rattle.std.proofs.Common.{◌≡◌, ◌+◌, ◌≤◌, min, length}
use Rattle.arrays.specs.ArrayInstance.{at}
use Rattle.rival_tables.specs.Filled.{Remade}
use Rattle.rival_levels.proofs.lower.Given as goal

abbrev pub invariant-loop-j : goal.invariant-loop-j
invariant-loop-j l = (l.j ≤ 64) × (length l.row ≡ 64) × Remade l.initial.row (λ k. min (l.a + at l.d (l.b + k)) (at l.initial.row k)) l.j l.row
