use Rattle.rival_tables.specs.Filled.{Written}
use Rattle.rival_tight.specs.Nexts.{NextIs}
use Rattle.rival_tight.proofs.nexts.Given as goal

abbrev pub invariant-loop-i : goal.invariant-loop-i
invariant-loop-i l = Written l.n (NextIs l.arcs) l.o l.i
