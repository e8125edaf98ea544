-- The arrows stay, or they are painted anew and the nodes across an arrow that turned are read anew.
use Rattle.std.proofs.Common.{◌≡◌, refl, sym, ◌∙◌, Bool, List, ℕ, ◌≤◌, arith, set, length-set, eqb}
use lib.ListN.{length-replicate}
use Rattle.lists.specs.Search.{low, low_is}
use Rattle.model.specs.Limits.{empty_rank}
use Rattle.arrays.specs.ArrayInstance.{at}
use Rattle.reduction_nodes.specs.Numbers.{row, Rows, row_own, row_other, rows_set}
use Rattle.reduction_turn.specs.Onward.{carried_still, painted_apart, one_renewed, carried_same, eqb_other, both_ways}
use Rattle.reduction_turn.proofs.from_surveyor.Goals.{After-both, Start}
use Rattle.reduction_turn.proofs.from_surveyor.Goals as goal

pub returns-then-not-on : goal.returns-then-not-on
returns-then-not-on c =
    let a = c.args in
    let p = c.requires.s_lt_node_limit in
    let h = c.if-not-on.true in record {
      rows = (p.2, p.3, refl);
      arrows = record { size = refl; anew = λ t. both_ways t h; still = λ t. refl };
      by_index = λ sv rs D. carried_still a.g.now.m sv sv a.g.now.st a.s a.fs.now _ _ (row a.lead.now 0) (row a.lead.now 2) a.oldt.now;
    }

pub paint-n-requires : goal.paint-n-requires
paint-n-requires c =
    let p = c.requires in
    record {
      v_lt_node_limit = (p.s_lt_node_limit.0, p.low.2.cells, p.low.0);
      f_len = (p.s_lt_node_limit.1, length-replicate {A = ℕ} empty_rank 0);
    }

pub both-requires : goal.both-requires
both-requires c =
    let p = c.requires in
    (p.s_lt_node_limit.0, p.low.2.lists)

pub overflow_cast-lead : goal.overflow_cast-lead
overflow_cast-lead c =
    let s = c in
    let T = s.requires.low.2 in
    omega (arith, T.cells.edges, bound _ s.args.g.now.m _ (c.both.ensures T.lists.0 T.lists.1))
  where
    bound : (q : ℕ → Bool) (m r : ℕ) → r ≡ low q m → r ≤ m
    bound q m r i = omega (arith, (low_is q m).0)

-- the rows with that number entered
abbrev entered : After-both → List (List ℕ)
entered c = let a = c.args in set a.lead.now 0 (set (row a.lead.now 0) a.s c.both.result)

entered_rows : (c : After-both) → Rows 3 (entered c)
entered_rows c =
    let a = c.args in
    let R = c.requires.s_lt_node_limit.2 in
    rows_set 3 a.lead.now 0 _ (omega arith) R (length-set (row a.lead.now 0) a.s c.both.result ∙ R.size 0 (omega arith))

pub second_renewed-requires : goal.second_renewed-requires
second_renewed-requires c =
    let p = c.requires in
    let w = c.paint-n.ensures in (p.low.3, p.low.1, (entered_rows (goal.at.second_renewed-requires c).After-both).size 2 (omega arith), w.0, w.2)

pub marked-requires : goal.marked-requires
marked-requires c =
    let w = c.paint-n.ensures in (w.0, w.2, c.requires.s_lt_node_limit.3)

pub returns : goal.returns
returns c =
    let a = c.args in
    let p = c.requires in
    let W = c.paint-n.ensures.3 in
    let N = c.second_renewed.ensures in
    let E = entered (goal.at.returns c).After-both in
    let R = p.s_lt_node_limit.2 in
    let one = set (row a.lead.now 0) a.s c.both.result in
    let h = c.if-not-on.false in record {
      rows = (
        rows_set 3 E 2 _ (omega arith) (entered_rows (goal.at.returns c).After-both) N.0,
        c.marked.ensures.0,
        row_other E 2 1 _ (λ (z : 1 ≡ 2). absurd (omega arith)) ∙ row_other a.lead.now 0 1 _ (λ (z : 1 ≡ 0). absurd (omega arith)),
      );
      arrows = record { size = W.size_f; anew = λ t. (_, W); still = λ t. both_ways h t };
      by_index = λ sv rs D.
          let apart = painted_apart a.g.now.m sv a.tables.now.surveyors D.owned_s a.g.now.st a.state.now.rem a.s (at a.state.now.qs a.s) p.s_lt_node_limit.0
          a.fs.now _ _ W in
          carried_same (sym (row_other E 2 0 _ (λ (z : 0 ≡ 2). absurd (omega arith)) ∙ row_own a.lead.now 0 one (omega (arith, R.rows))))
          (row_other a.lead.now 0 2 one (λ (z : 2 ≡ 0). absurd (omega arith))) (sym (row_own E 2 _ (omega (arith, (entered_rows (goal.at.returns c).After-both).rows))))
          (record {
            lead = λ u. eqb u a.s;
            seen = _;
            across = W.elsewhere;
            own = apart;
            led = λ u h. apart u (eqb_other u a.s h);
            first = one_renewed _ (row a.lead.now 0) a.s c.both.result (omega (arith, p.s_lt_node_limit.0, R.size 0 (omega arith)))
                (c.both.ensures sv D.listed_s);
            second = N.1 a.g.now.st D.listed_t;
            marked = c.marked.ensures.1;
          });
    }
