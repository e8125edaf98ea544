use Rattle.std.proofs.Common.{◌≤◌}
use Rattle.rival_levels.specs.Layers.{Lowered}
use Rattle.rival_levels.proofs.next_row.Given as goal

abbrev pub invariant-loop-y : goal.invariant-loop-y
invariant-loop-y l = (l.y ≤ l.n) × Lowered l.arcs l.d l.n l.i l.o l.y
