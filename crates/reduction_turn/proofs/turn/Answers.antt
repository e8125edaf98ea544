-- The arrows of both ends where they change, and rule 2's numbers at both ends.
use Rattle.std.proofs.Common.{◌≡◌, ◌∙◌, sym, ap, Bool, not, false, ◌||◌, ℕ, ◌<◌, arith, length, length-set, eqb, eqb→eq}
use Rattle.lists.specs.Test.{true_t}
use Rattle.model.specs.Limits.{node_limit, entry_limit}
use Rattle.arrays.specs.ArrayInstance.{at}
use Rattle.reduction_cells.specs.Painted.{or_parts}
use Rattle.reduction_nodes.specs.Numbers.{rows_set}
use Rattle.reduction_nodes.specs.Kept.{edges, node_lists, readable_s, readable_t}
use Rattle.reduction_state.specs.declared.Acted.{Acted}
use Rattle.reduction_turn.specs.Onward.{rows_on, on}
use Rattle.reduction_turn.specs.AfterTurn.{acted_gone, acted_qs, acted_qt, shown_on}
use Rattle.reduction_turn.proofs.turn.Goals.{Start, After-from_stand}
use Rattle.reduction_turn.proofs.turn.Goals as goal

-- a quota that did not fall, as is told, and an edge that had no arrow beside
same : (a b : ℕ) (fell : Bool) → fell ≡ not (eqb a b) → fell ≡ false → a ≡ b
same a b fell t h = eqb→eq a b (true_t (on (eqb a b) (sym t ∙ h)))

neither : (f : Bool) (a b : ℕ) (fell : Bool) → fell ≡ not (eqb a b) → f || fell ≡ false → (f ≡ false) × (a ≡ b)
neither f a b fell t h = let p = or_parts f fell h in (p.0, same a b fell t p.1)

-- the ends of the edge are nodes
ends : (s : Start) → let a = s.args in let e = a.d.edge in (at a.g.now.sv e < node_limit) × (at a.g.now.st e < node_limit) × (e < entry_limit)
    × (length a.due.now.surveyors ≡ node_limit) × (length a.due.now.stands ≡ node_limit)
ends s =
    let e = s.args.d.edge in
    let p = s.requires in
    let D = p.edge_lt_m.1 in (D.fit_s e p.edge_lt_m.0, D.fit_t e p.edge_lt_m.0, omega (arith, p.edge_lt_m.0, D.spread_s.edges), p.sized_n.0.size_s, p.sized_n.0.size_t)

pub from_surveyor-requires : goal.from_surveyor-requires
from_surveyor-requires c =
    let p = c.requires in
    let D = p.edge_lt_m.1 in
    record {
      low = (D.fit_t, D.placed_t, readable_s D, readable_t D);
      s_lt_node_limit = ((ends (goal.at.from_surveyor-requires c).Start).0, p.sized_n.1, p.sized_n.0.rows, simp length-set p.sized_n.0.size_t);
    }

pub from_stand-requires : goal.from_stand-requires
from_stand-requires c =
    let p = c.requires in
    let D = p.edge_lt_m.1 in
    record {
      low = (D.fit_s, D.placed_s, readable_s D, readable_t D);
      t_lt_node_limit = ((ends (goal.at.from_stand-requires c).Start).1, p.sized_n.2, c.from_surveyor.ensures.rows.0, simp length-set p.sized_n.0.size_s);
    }

pub passed_over-requires : goal.passed_over-requires
passed_over-requires c =
    let D = c.requires.edge_lt_m.1 in ((ends (goal.at.passed_over-requires c).Start).0, c.requires.edge_lt_m.0, readable_s D, D.placed_s, c.from_stand.ensures.rows.0.size 1 (omega arith))

pub passed_over-requires-2 : goal.passed_over-requires-2
passed_over-requires-2 c =
    let D = c.requires.edge_lt_m.1 in
    let R = rows_set 3 _ 1 _ (omega arith) c.from_stand.ensures.rows.0 c.passed_over.ensures.0 in
    ((ends (goal.at.passed_over-requires-2 c).Start).1, c.requires.edge_lt_m.0, readable_t D, D.placed_t, R.size 2 (omega arith))

pub returns : goal.returns
returns c =
    let a = c.args in
    let e = a.d.edge in
    let p = c.requires in
    let D = p.edge_lt_m.1 in
    let A = edges a.g.now.m a.g.now.sv a.g.now.st a.g.now.rank_s a.g.now.rank_t in
    let L = node_lists a.tables.now.surveyors a.tables.now.stands in
    let S = c.from_surveyor.ensures in
    let T = c.from_stand.ensures in
    let RS = c.passed_over.ensures in
    let RT = c.passed_over-2.ensures in
    let R = rows_set 3 _ 2 _ (omega arith) (rows_set 3 _ 1 _ (omega arith) T.rows.0 RS.0) RT.0 in record {
      sized_n_2 = (record { rows = R; size_s = T.rows.1; size_t = S.rows.1 }, S.arrows.size ∙ p.sized_n.1, T.arrows.size ∙ p.sized_n.2);
      turns = λ x r fixed ds dt z i t.
          let tS = ap (λ (k : Acted). k.fells) t in
          let tT = ap (λ (k : Acted). k.fellt) t in (
            rows_on A L D x.rem _ x.qs _ x.qt _ e p.edge_lt_m.0 (acted_gone a.g.now.sv a.g.now.st x r e _ i)
                (acted_qs a.g.now.sv a.g.now.st x r e _ i) (acted_qt a.g.now.sv a.g.now.st x r e _ i) a.arrows.now.surveyors a.arrows.now.stands _ _
                a.lead.now a.due.now.surveyors a.due.now.stands p.sized_n.0.size_s p.sized_n.0.size_t _ _ _ _ _ _ S.rows.0 T.rows.0 R S.rows.2 T.rows.2
                (S.by_index a.g.now.sv a.g.now.rank_s D) (T.by_index a.g.now.st a.g.now.rank_t D) _ _ (λ h. sym (same _ _ _ tS h)) (λ h. sym (same _ _ _ tT h))
                (RS.1 a.g.now.sv D.listed_s) (RT.1 a.g.now.st D.listed_t),
            shown_on A L D x a.arrows.now.surveyors a.arrows.now.stands r e p.edge_lt_m.0 z _ i _ _ _ _ S.arrows (neither _ _ _ _ tS) T.arrows (neither _ _ _ _ tT),
          );
    }

pub overflow_cast-s : goal.overflow_cast-s
overflow_cast-s c = omega (arith, ends (goal.at.overflow_cast-s c).Start)

pub overflow_cast-t : goal.overflow_cast-t
overflow_cast-t c = omega (arith, ends (goal.at.overflow_cast-t c).Start)

pub bounds-due-s : goal.bounds-due-s
bounds-due-s c = omega (arith, ends (goal.at.bounds-due-s c).Start)

pub bounds-due-t : goal.bounds-due-t
bounds-due-t c = omega (arith, ends (goal.at.bounds-due-t c).Start)
