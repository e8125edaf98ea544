use Rattle.std.proofs.Common.{◌≤◌, take}
use Rattle.plan_writer.specs.PairByPair.{Put}
use Rattle.plan_writer.proofs.write_plan.Given as goal

abbrev pub invariant-loop-k : goal.invariant-loop-k
invariant-loop-k l = (l.k ≤ l.n) × Put l.sv l.st l.sh 1 l.initial.out (take l.k l.es) l.out
