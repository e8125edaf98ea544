-- The tables of the edges, then the run.
use Rattle.std.proofs.Common.{◌∙◌, ℕ, arith}
use lib.ListN.{length-replicate}
use Rattle.reduction_lists.specs.Listed.{table_size}
use Rattle.reduction_cells.specs.Cells.{celled_kept, celled_spread, celled_owned}
use Rattle.reduction_nodes.specs.Kept.{untied}
use Rattle.reduction_run.specs.Running.{table_none}
use Rattle.reduction_run.proofs.reduce.Goals as goal

pub cells-requires : goal.cells-requires
cells-requires c =
    let p = c.requires in record {
      m_le_entry_limit = (p.0, p.1, p.3);
      cell_count_in_bounds = (omega (arith, length-replicate {A = ℕ} table_size c.args.g.now.m), table_none table_size c.args.g.now.m);
    }

pub lists-requires : goal.lists-requires
lists-requires c =
    let p = c.requires in (p.0, p.1, c.cells.ensures.0 ∙ length-replicate {A = ℕ} table_size c.args.g.now.m)

pub cells-requires-2 : goal.cells-requires-2
cells-requires-2 c =
    let p = c.requires in record {
      m_le_entry_limit = (p.0, p.2, p.4);
      cell_count_in_bounds = (omega (arith, length-replicate {A = ℕ} table_size c.args.g.now.m), table_none table_size c.args.g.now.m);
    }

pub lists-requires-2 : goal.lists-requires-2
lists-requires-2 c =
    let p = c.requires in (p.0, p.2, c.cells-2.ensures.0 ∙ length-replicate {A = ℕ} table_size c.args.g.now.m)

pub run-requires : goal.run-requires
run-requires c =
    let a = c.args in
    let p = c.requires in
    let S = celled_kept a.g.now.m a.g.now.sv a.g.now.rank_s untied _ c.cells.ensures.1 _ c.lists.ensures.2 in
    let T = celled_kept a.g.now.m a.g.now.st a.g.now.rank_t a.g.now.tied _ c.cells-2.ensures.1 _ c.lists-2.ensures.2 in
    record {
      fit_s = p.1;
      fit_t = p.2;
      placed_s = p.3;
      placed_t = p.4;
      listed_s = c.lists.ensures.1;
      listed_t = c.lists-2.ensures.1;
      spread_s = celled_spread a.g.now.m a.g.now.sv a.g.now.rank_s untied _ S;
      spread_t = celled_spread a.g.now.m a.g.now.st a.g.now.rank_t a.g.now.tied _ T;
      owned_s = celled_owned a.g.now.m a.g.now.sv a.g.now.rank_s untied _ S p.3;
      owned_t = celled_owned a.g.now.m a.g.now.st a.g.now.rank_t a.g.now.tied _ T p.4;
    }

pub returns : goal.returns
returns c =
    let a = c.args in
    let p = c.requires in
    λ ns nt sh law. c.run.ensures
    (record { ns = ns; nt = nt; sh = sh; tied = a.g.now.tied; law = law; size = p.0; fit_s = p.1; fit_t = p.2 })
    (record {
      celled_s = celled_kept a.g.now.m a.g.now.sv a.g.now.rank_s untied _ c.cells.ensures.1 _ c.lists.ensures.2;
      celled_t = celled_kept a.g.now.m a.g.now.st a.g.now.rank_t a.g.now.tied _ c.cells-2.ensures.1 _ c.lists-2.ensures.2;
    })
