use Rattle.std.proofs.Common.{◌≡◌, ◌-◌, ◌≤◌}
use Rattle.rival_tables.specs.Filled.{Rows}
use Rattle.rival_levels.specs.Layers.{Small, layer_at}
use Rattle.rival_levels.specs.Levels.{levels_at}
use Rattle.rival_levels.proofs.levels.Given as goal

abbrev pub invariant-loop-l : goal.invariant-loop-l
invariant-loop-l l =
    (l.l ≤ l.b) × Small l.n l.d × Rows l.d l.n (layer_at l.arcs l.n l.l) × (levels_at l.arcs l.terminals l.n l.k (l.b - l.l) l.l ≡ levels_at l.arcs l.terminals l.n l.k l.b 0)
