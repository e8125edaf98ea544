use Rattle.std.proofs.Common.{◌≡◌}
use Rattle.rival_tables.specs.Filled.{Written}
use Rattle.rival_levels.specs.Layers.{next_price}
use Rattle.rival_tight.proofs.sparse_layer.Given as goal

abbrev pub invariant-loop-i : goal.invariant-loop-i
invariant-loop-i l = Written l.n (λ i j v. v ≡ next_price l.arcs l.d l.n i j) l.o l.i
