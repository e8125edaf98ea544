use Rattle.std.proofs.Common.{◌≡◌, not, ◌≤◌, length}
use Rattle.arrays.specs.ArrayInstance.{flag}
use Rattle.arrays.specs.Firsts.{Firsts}
use Rattle.reduction_cells.specs.Cells.{place}
use Rattle.reduction_cells.proofs.cells.Given as goal

abbrev pub invariant-loop-i : goal.invariant-loop-i
invariant-loop-i l = (l.i ≤ l.m) × (length l.cell ≡ length l.initial.cell)
    × Firsts l.m (place l.end l.rank) (λ e. not (flag l.tied e)) (length l.initial.cell) l.i l.cell
