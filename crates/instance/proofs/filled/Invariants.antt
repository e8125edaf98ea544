use Rattle.std.proofs.Common.{false, ◌≤◌}
use Rattle.arrays.specs.ArrayInstance.{at}
use Rattle.arrays.specs.Passes.{Fill}
use Rattle.instance.specs.Cells.{cell_edge}
use Rattle.instance.proofs.filled.Given as goal

abbrev pub invariant-loop-e : goal.invariant-loop-e
invariant-loop-e l =
    (l.e ≤ l.m) × Fill 0 1024 l.sv l.e (λ e. (cell_edge l.listed l.strict l.next (at l.cell e)).surveyor) × Fill 0 1024 l.st l.e (λ e. (cell_edge l.listed l.strict l.next (at l.cell e)).stand)
    × Fill 0 1024 l.sh l.e (λ e. (cell_edge l.listed l.strict l.next (at l.cell e)).shift)
    × Fill 0 1024 l.rank_s l.e (λ e. (cell_edge l.listed l.strict l.next (at l.cell e)).rank_s) × Fill 0 1024 l.rank_t l.e (λ e. (cell_edge l.listed l.strict l.next (at l.cell e)).rank_t)
    × Fill false 1024 l.tied l.e (λ e. (cell_edge l.listed l.strict l.next (at l.cell e)).tied)
