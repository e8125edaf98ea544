use Rattle.rival_tables.specs.Filled.{cell}
use Rattle.rival_tight.specs.Nexts.{Behind}
use Rattle.rival_tight.proofs.nexts_row.Given as goal

abbrev pub invariant-loop-y : goal.invariant-loop-y
invariant-loop-y l = Behind (cell l.arcs l.i) l.o l.next l.y
