use Rattle.std.proofs.Common.{◌≡◌, ◌≤◌, eqb}
use Rattle.arrays.specs.ArrayInstance.{at}
use Rattle.lists.specs.Sum.{count}
use Rattle.rival_tables.proofs.lying.Given as goal

abbrev pub invariant-loop-j : goal.invariant-loop-j
invariant-loop-j l = (l.j ≤ l.n) × (l.c ≡ count (λ j. eqb (at l.nodes j) l.v) l.j)
