use Rattle.std.proofs.Common.{◌≤◌, false, not, ◌&&◌, ◌||◌}
use Rattle.arrays.specs.ArrayInstance.{flag}
use Rattle.arrays.specs.Passes.{Fill}
use Rattle.rival_verdict.proofs.exchanged.Given as goal

abbrev pub invariant-loop-e : goal.invariant-loop-e
invariant-loop-e l = (l.e ≤ l.m) × Fill false 1024 l.o l.e (λ e. (flag l.plan e && not (flag l.gone e)) || flag l.come e)
