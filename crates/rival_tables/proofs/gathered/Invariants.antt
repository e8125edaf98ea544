use Rattle.std.proofs.Common.{◌≤◌}
use Rattle.arrays.specs.ArrayInstance.{at}
use Rattle.arrays.specs.Passes.{Fill}
use Rattle.rival_tables.proofs.gathered.Given as goal

abbrev pub invariant-loop-i : goal.invariant-loop-i
invariant-loop-i l = (l.i ≤ l.n) × Fill 0 64 l.o l.i (λ k. at l.xs (at l.es k))
