use Rattle.std.proofs.Common.{◌≤◌, min}
use Rattle.arrays.specs.ArrayInstance.{at}
use Rattle.arrays.specs.Passes.{Fill}
use Rattle.reduction_state.proofs.cuts.Given as goal

abbrev pub invariant-loop-i : goal.invariant-loop-i
invariant-loop-i l = (l.i ≤ 32) × Fill 0 32 l.o l.i (λ v. min (at l.quota v) (at l.d v))
