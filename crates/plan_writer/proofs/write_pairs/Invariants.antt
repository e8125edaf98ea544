use Rattle.std.proofs.Common.{◌≡◌, ◌≤◌, length}
use Rattle.model.specs.PlanFile.{edges_in}
use Rattle.arrays.specs.ArrayInstance.{flag}
use Rattle.plan_writer.specs.PairByPair.{Put}
use Rattle.plan_writer.proofs.write_pairs.Given as goal

abbrev pub invariant-loop-e : goal.invariant-loop-e
invariant-loop-e l = (l.e ≤ l.m) × ((l.k ≡ length (edges_in l.e (flag l.chosen))) × Put l.sv l.st l.sh 0 l.initial.out (edges_in l.e (flag l.chosen)) l.out)
