use Rattle.std.proofs.Common.{◌≡◌, ◌+◌, ◌≤◌, length}
use Rattle.arrays.specs.ArrayInstance.{at}
use Rattle.arrays.specs.Filled.{Made}
use Rattle.rival_levels.specs.Layers.{kept_price}
use Rattle.rival_levels.proofs.kept_row.Given as goal

abbrev pub invariant-loop-j : goal.invariant-loop-j
invariant-loop-j l = (l.j ≤ 64) × (length l.o ≡ 64) × Made 0 l.o (λ k. kept_price (at l.d (l.b + k))) l.j
