use Rattle.std.proofs.Common.{false, ◌≤◌, eqb, ltb}
use Rattle.arrays.specs.ArrayInstance.{at}
use Rattle.arrays.specs.Passes.{Fill}
use Rattle.lists.specs.Sum.{count}
use Rattle.rival_tables.proofs.rooms.Given as goal

abbrev pub invariant-loop-v : goal.invariant-loop-v
invariant-loop-v l = (l.v ≤ 32) × Fill false 32 l.o l.v (λ v. ltb (count (λ j. eqb (at l.nodes j) v) l.n) (at l.quota v))
