-- The arrows stay, or they are painted anew and the nodes across an arrow that turned are read anew.
use Rattle.std.proofs.Common.{◌≡◌, refl, ℕ, arith, List, length, set}
use lib.ListN.{length-replicate}
use Rattle.model.specs.Limits.{node_limit, empty_rank}
use Rattle.arrays.specs.ArrayInstance.{at}
use Rattle.reduction_nodes.specs.Numbers.{row, Rows, rows_set}
use Rattle.reduction_turn.specs.Onward.{carried_still, painted_apart, carried_same, rows_two, both_ways}
use Rattle.reduction_turn.proofs.from_stand.Goals.{After-first_renewed}
use Rattle.reduction_turn.proofs.from_stand.Goals as goal

pub returns-then-not-on : goal.returns-then-not-on
returns-then-not-on c =
    let a = c.args in
    let p = c.requires.t_lt_node_limit in
    let h = c.if-not-on.true in record {
      rows = (p.2, p.3, refl);
      arrows = record { size = refl; anew = λ t. both_ways t h; still = λ t. refl };
      by_index = λ st rt D. carried_still a.g.now.m a.g.now.sv st a.g.now.sv a.t a.ft.now _ _ (row a.lead.now 0) (row a.lead.now 1) a.olds.now;
    }

pub paint-n-requires : goal.paint-n-requires
paint-n-requires c =
    let p = c.requires in
    record {
      v_lt_node_limit = (p.t_lt_node_limit.0, p.low.3.cells, p.low.0);
      f_len = (p.t_lt_node_limit.1, length-replicate {A = ℕ} empty_rank 0);
    }

pub first_renewed-requires : goal.first_renewed-requires
first_renewed-requires c =
    let p = c.requires in
    let w = c.paint-n.ensures in (p.low.2.lists, p.t_lt_node_limit.2.size 0 (omega arith), w.0, w.2)

rows : (c : After-first_renewed) → (x : List ℕ) → length x ≡ node_limit → Rows 3 (set c.args.lead.now 0 x)
rows c x l = rows_set 3 c.args.lead.now 0 x (omega arith) c.requires.t_lt_node_limit.2 l

pub second_renewed-requires : goal.second_renewed-requires
second_renewed-requires c =
    let p = c.requires in
    let w = c.paint-n.ensures in (p.low.2, p.low.1, (rows (goal.at.second_renewed-requires c).After-first_renewed _ c.first_renewed.ensures.0).size 1 (omega arith), w.0, w.2)

pub marked-requires : goal.marked-requires
marked-requires c =
    let w = c.paint-n.ensures in (w.0, w.2, c.requires.t_lt_node_limit.3)

pub returns : goal.returns
returns c =
    let a = c.args in
    let p = c.requires in
    let W = c.paint-n.ensures.3 in
    let F = c.first_renewed.ensures in
    let N = c.second_renewed.ensures in
    let R₁ = rows (goal.at.returns c).After-first_renewed _ F.0 in
    let R₂ = rows_set 3 _ 1 _ (omega arith) R₁ N.0 in
    let same = rows_two a.lead.now p.t_lt_node_limit.2 R₁ R₂ in
    let h = c.if-not-on.false in record {
      rows = (
        R₂,
        c.marked.ensures.0,
        same.3,
      );
      arrows = record { size = W.size_f; anew = λ t. (_, W); still = λ t. both_ways h t };
      by_index = λ st rt D. carried_same same.0 same.1 same.2
          (record {
            lead = _;
            seen = _;
            across = W.elsewhere;
            own = painted_apart a.g.now.m st a.tables.now.stands D.owned_t a.g.now.sv a.state.now.rem a.t (at a.state.now.qt a.t) p.t_lt_node_limit.0 a.ft.now
                _ _ W;
            led = W.elsewhere;
            first = F.1 a.g.now.sv D.listed_s;
            second = N.1 a.g.now.sv D.listed_s;
            marked = c.marked.ensures.1;
          });
    }
