-- All nodes are read.
use Rattle.std.proofs.Common.{◌≡◌, ap, ◌∙◌, List, ℕ, arith, length, set}
use Rattle.model.specs.Limits.{node_limit}
use Rattle.arrays.specs.ArrayInstance.{at}
use Rattle.reduction_nodes.specs.Numbers.{Rows, rows_set}
use Rattle.reduction_nodes.specs.Kept.{edges, node_lists, looks, first_now, second_s, second_t}
use Rattle.reduction_start.specs.Beginning.{all_low, all_read, rows_three}
use Rattle.reduction_start.proofs.numbered.Goals.{After-first_renewed}
use Rattle.reduction_start.proofs.numbered.Goals as goal

pub first_renewed-requires : goal.first_renewed-requires
first_renewed-requires c =
    let y = c.everyone-all in
    let p = c.requires in (p.2.lists, p.4.size 0 (omega arith), omega arith, all_low y.result y.ensures)

rows : (c : After-first_renewed) (x : List ℕ) → length x ≡ node_limit → Rows 3 (set c.args.lead.now 0 x)
rows c x l = rows_set 3 c.args.lead.now 0 x (omega arith) c.requires.4 l

pub second_renewed-requires : goal.second_renewed-requires
second_renewed-requires c =
    let y = c.everyone-all in
    let p = c.requires in
    (p.2, p.0, (rows (goal.at.second_renewed-requires c).After-first_renewed _ c.first_renewed.ensures.0).size 1 (omega arith), omega arith, all_low y.result y.ensures)

pub second_renewed-requires-2 : goal.second_renewed-requires-2
second_renewed-requires-2 c =
    let y = c.everyone-all in
    let p = c.requires in
    let R = rows_set 3 _ 1 _ (omega arith) (rows (goal.at.second_renewed-requires-2 c).After-first_renewed _ c.first_renewed.ensures.0) c.second_renewed.ensures.0 in
    (p.3, p.1, R.size 2 (omega arith), omega arith, all_low y.result y.ensures)

pub returns : goal.returns
returns c =
    let y = c.everyone-all in
    let a = c.args in
    let L = node_lists a.tables.now.surveyors a.tables.now.stands in
    let X = looks a.state.now.rem a.arrows.now.surveyors a.arrows.now.stands a.state.now.qs a.state.now.qt in
    let N = c.first_renewed.ensures in
    let NS = c.second_renewed.ensures in
    let NT = c.second_renewed-2.ensures in
    let R₁ = rows (goal.at.returns c).After-first_renewed _ N.0 in
    let R₂ = rows_set 3 _ 1 _ (omega arith) R₁ NS.0 in
    let R₃ = rows_set 3 _ 2 _ (omega arith) R₂ NT.0 in
    let q = rows_three a.lead.now c.requires.4 R₁ R₂ R₃ in record {
      rows = R₃;
      by_index = λ sv st D. let A = edges a.g.now.m sv st a.g.now.rank_s a.g.now.rank_t in record {
        first = λ v w. ap (λ (l : List ℕ). at l v) q.0
            ∙ all_read y.result y.ensures (first_now A L X) _ _ (N.1 sv D.listed_s) v w;
        at_s = λ v w. ap (λ (l : List ℕ). at l v) q.1
            ∙ all_read y.result y.ensures (second_s A L X) _ _ (NS.1 sv D.listed_s) v w;
        at_t = λ v w. ap (λ (l : List ℕ). at l v) q.2
            ∙ all_read y.result y.ensures (second_t A L X) _ _ (NT.1 st D.listed_t) v w;
      };
    }
