use Rattle.std.proofs.Common.{false, ◌≤◌}
use Rattle.arrays.specs.Passes.{Fill}
use Rattle.plan_carried.specs.Remaining.{stays}
use Rattle.plan_carried.proofs.besides.Given as goal

abbrev pub invariant-loop-e : goal.invariant-loop-e
invariant-loop-e l = (l.e ≤ l.m) × Fill false 1024 l.kept l.e (stays l.sv l.plan l.number)
