use Rattle.std.proofs.Common.{◌≡◌, ◌≤◌, length}
use Rattle.model.specs.Limits.{node_limit, entry_limit, empty_rank}
use Rattle.reduction_cells.specs.Painted.{AllPainted}
use Rattle.reduction_cells.proofs.painted.Given as goal

abbrev pub invariant-loop-v : goal.invariant-loop-v
invariant-loop-v l = (l.v ≤ node_limit) × (length l.f ≡ entry_limit) × (length l.turned ≡ empty_rank)
    × AllPainted l.m l.table l.rem l.q l.v l.f
