use Rattle.std.proofs.Common.{◌≤◌}
use Rattle.plan_reader.specs.ReadInvariant.{Invariant}
use Rattle.plan_reader.proofs.read_pairs.Given as goal

abbrev pub invariant-loop-k : goal.invariant-loop-k
invariant-loop-k l =
    (l.k ≤ l.n) × Invariant l.shifts l.m l.sv l.st l.sh l.qs l.qt l.file l.n l.k l.at l.from l.chosen l.edges l.us l.ut
