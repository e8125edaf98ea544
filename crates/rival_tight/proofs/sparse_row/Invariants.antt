use Rattle.std.proofs.Common.{◌-◌}
use Rattle.rival_levels.specs.Layers.{Lowered}
use Rattle.rival_tight.proofs.sparse_row.Given as goal

abbrev pub invariant-loop-y : goal.invariant-loop-y
invariant-loop-y l = Lowered l.arcs l.d l.n l.i l.o l.y

abbrev pub decreases-loop-y : goal.decreases-loop-y
decreases-loop-y l = l.n - l.y
