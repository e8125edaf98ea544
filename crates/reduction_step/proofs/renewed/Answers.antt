-- The old numbers of stands, then those of surveyors.
use Rattle.std.proofs.Common.{false}
use lib.ListN.{length-replicate}
use Rattle.model.specs.Limits.{node_limit}
use Rattle.reduction_nodes.specs.Kept.{edges, node_lists, looks, later, later_fresh, same_flags}
use Rattle.reduction_step.proofs.renewed.Goals as goal

pub stands_renewed-requires : goal.stands_renewed-requires
stands_renewed-requires c = let p = c.requires in record {
  readable = p.low.2;
  rows = (p.sized_l.stands, p.sized_l.size_l);
}

pub surveyors_renewed-requires : goal.surveyors_renewed-requires
surveyors_renewed-requires c = let p = c.requires in record {
  readable = (p.low.1, p.low.0);
  rows = p.sized_l.surveyors;
}

pub returns : goal.returns
returns c =
    let a = c.args in
    let L = node_lists a.tables.now.surveyors a.tables.now.stands in
    let X = looks a.state.now.rem a.arrows.now.surveyors a.arrows.now.stands a.state.now.qs a.state.now.qt in
    let x = later a.later.now.surveyors a.later.now.stands a.later.now.loose a.later.now.due.surveyors a.later.now.due.stands in
    let T = c.stands_renewed.ensures in
    let S = c.surveyors_renewed.ensures in
    record {
      sized_l_2 = record {
        surveyors = S.rows_2;
        stands = T.rows_2.0;
        size_l = T.rows_2.1;
        size_s = length-replicate node_limit false;
        size_t = length-replicate node_limit false;
      };
      renews = λ sv rs rt D N. later_fresh (edges a.g.now.m sv a.g.now.st rs rt) L D X x N _ (T.by_index a.g.now.st D.listed_t) c.ne.result
          (same_flags _ _ c.ne.result c.ne.ensures) c.touched-due.result c.touched-due.ensures _
          (S.by_index sv D.listed_s);
    }
