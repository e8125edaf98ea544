use Rattle.diary_records.specs.TraceRecords.{Telling}
use Rattle.diary_records.proofs.flat_records.Given as goal

abbrev pub invariant-loop-i : goal.invariant-loop-i
invariant-loop-i l = Telling l.sv l.st l.sh l.trace l.i l.flat
