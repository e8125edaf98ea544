use Rattle.std.proofs.Common.{◌≡◌, ◌-◌, ◌≤◌}
use Rattle.rival_tables.specs.Filled.{Rows}
use Rattle.rival_levels.specs.Layers.{Small, layer_at}
use Rattle.rival_tight.specs.Tight.{loops_at}
use Rattle.rival_tight.proofs.first_loop.Given as goal

abbrev pub invariant-loop-l : goal.invariant-loop-l
invariant-loop-l l =
    (l.l ≤ l.n) × Small l.n l.d × Rows l.d l.n (layer_at l.arcs l.n l.l) × (loops_at l.arcs l.n l.k (l.n - l.l) l.l ≡ loops_at l.arcs l.n l.k l.n 0)
