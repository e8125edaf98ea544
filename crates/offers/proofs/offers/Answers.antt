-- The table of the surveyors' lists, the run, and the edges kept at its end.
use Rattle.std.proofs.Common.{ℕ, arith}
use lib.ListN.{length-replicate, get_or-replicate}
use Rattle.lists.specs.Test.{given}
use Rattle.reduction_cells.specs.Cells.{cell_count}
use Rattle.offers.specs.Running.{offers_shown_law}
use Rattle.offers.proofs.offers.Goals as goal

pub overflow_cast-cell : goal.overflow_cast-cell
overflow_cast-cell c = omega (arith, c.requires.loaded.edges)

pub cells-requires : goal.cells-requires
cells-requires c =
    let L = c.requires.loaded in
    let n = length-replicate {A = ℕ} cell_count c.args.g.m in
    record {
      m_le_entry_limit = (L.edges, (λ e l. L.low_sv e), L.lawful.at_s.placed);
      cell_count_in_bounds = (omega (arith, n), λ k l. get_or-replicate cell_count k c.args.g.m 0 (omega (arith, l, n)));
    }

pub run-standing-requires : goal.run-standing-requires
run-standing-requires c = (c.requires, c.cells.ensures.1)

pub kept_edges-requires : goal.kept_edges-requires
kept_edges-requires c =
    let L = c.requires.loaded in (
      L.edges,
      (λ e l. L.low_st e),
      (λ t w. given (c.run-standing.ensures c.requires) (λ (i, W, q). let h = W.inside t w in omega (arith, L.edges))),
      λ t w. given (c.run-standing.ensures c.requires) (λ (i, W, q). W.stands.stand t w),
    )

pub returns : goal.returns
returns c =
    given (c.run-standing.ensures c.requires) (λ (i, W, q).
    offers_shown_law c.args.g c.requires c.run-standing.result i W q c.kept_edges.result c.kept_edges.ensures)
