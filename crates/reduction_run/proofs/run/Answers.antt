-- A run: where it is after each step.
use Rattle.std.proofs.Common.{◌≡◌, refl, ap, subst, true, false, ◌≤◌, arith}
use lib.ListN.{length-replicate}
use Rattle.model.specs.Limits.{node_limit, entry_limit}
use Rattle.reduction_nodes.specs.Known.{instance_of}
use Rattle.reduction_nodes.specs.Kept.{readable_s, readable_t}
use Rattle.reduction_state.specs.declared.Acted.{Acted}
use Rattle.reduction_state.specs.declared.Trace.{Trace}
use Rattle.reduction_state.specs.RunState.{Stands, sized_next, stands_end, stands_full}
use Rattle.reduction_state.specs.RunArrows.{seen}
use Rattle.reduction_turn.specs.AfterTurn.{turned_at}
use Rattle.reduction_run.specs.Running.{all_marked, rows_none}
use Rattle.reduction_run.proofs.run.Goals.{In-Some}
use Rattle.reduction_run.proofs.run.Goals as goal

pub begun-begun-requires : goal.begun-begun-requires
begun-begun-requires c = let D = c.requires in (D.fit_s, D.fit_t, D.spread_s, D.spread_t)

pub numbered-requires : goal.numbered-requires
numbered-requires c =
    let D = c.requires in
    (D.placed_s, D.placed_t, readable_s D, readable_t D, rows_none 3)

pub loop-n-init : goal.loop-n-init
loop-n-init c =
    let B = c.begun-begun.ensures in
    let a = c.args in
    let N = c.numbered.ensures in
    let all = length-replicate node_limit true in (
      record {
        leads = N.by_index a.g.now.sv a.g.now.st c.requires;
        late = record { stand = λ v w t. absurd (all_marked v w t); surveyor = λ v w t. absurd (all_marked v w t) };
        sized = B.sized;
        sized_n = record { rows = N.rows; size_s = all; size_t = all };
        sized_l = record { surveyors = rows_none 3; stands = rows_none 2; size_l = length-replicate node_limit false; size_s = all; size_t = all };
        size_s = B.size_s;
        size_t = B.size_t;
      },
      refl,
      λ K F. B.shown a.g.now.rank_s a.g.now.rank_t K F,
    )

pub step-requires : goal.step-requires
step-requires c =
    let D = c.requires in
    record {
      low = (D.fit_t, readable_s D, readable_t D);
      sized_l = c.loop-n.invariant.0.sized_l;
    }

-- there are not more edges than places for them, and steps than edges
few : (c : In-Some) → (c.args.g.now.m ≤ entry_limit)
few c = c.requires.spread_s.edges

pub overflow_cast-edges : goal.overflow_cast-edges
overflow_cast-edges c = omega (arith, c.in-Some.ensures.inside, few (goal.at.overflow_cast-edges c).In-Some)

pub offset_bounds-edges-n : goal.offset_bounds-edges-n
offset_bounds-edges-n c = omega (arith, c.loop-n-test.true, few (goal.at.offset_bounds-edges-n c).In-Some)

pub bounds-edges-n : goal.bounds-edges-n
bounds-edges-n c = omega (arith, c.loop-n-test.true, few (goal.at.bounds-edges-n c).In-Some)

pub bounds-rules-n : goal.bounds-rules-n
bounds-rules-n c = omega (arith, c.loop-n-test.true, few (goal.at.bounds-rules-n c).In-Some)

pub act-d-requires : goal.act-d-requires
act-d-requires c =
    let D = c.requires in
    (omega (arith, c.in-Some.ensures.inside, few (goal.at.act-d-requires c).In-Some), D.fit_s (c.in-Some.a.edge) c.in-Some.ensures.inside, D.fit_t (c.in-Some.a.edge) c.in-Some.ensures.inside)

pub turn-requires : goal.turn-requires
turn-requires c =
    let R = c.loop-n.invariant.0 in
    let Z = c.step.ensures.sized_l_2 in record {
      edge_lt_m = (omega (arith, ap (λ (x : Acted). x.edge) c.act-d.ensures.value, c.in-Some.ensures.inside), c.requires);
      sized_n = (record { rows = R.sized_n.rows; size_s = Z.size_s; size_t = Z.size_t }, R.size_s, R.size_t);
    }

pub loop-n-preserved : goal.loop-n-preserved
loop-n-preserved c =
    let a = c.args in
    let l = c.loop-n in
    let R = l.invariant.0 in
    let Z = c.step.ensures.sized_l_2 in
    let y = c.in-Some.ensures.stepped a.g.now.sv a.g.now.rank_s a.g.now.rank_t c.requires R.leads R.late in
    let x = l.state in
    let i = c.act-d.ensures in
    let u = c.turn.ensures.sized_n_2 in
    let o = turned_at c.turn.ensures.turns x (c.in-Some.a.rule) (c.in-Some.a.edge) _ _ _ R.sized i.state_after i.value in
    let r : Trace = record { edges = l.edges; rules = l.rules; steps = l.n } in (
      record {
        leads = o.0.leads R.leads;
        late = o.0.lates _ _ y.0;
        sized = sized_next a.g.now.sv a.g.now.st x _ (c.in-Some.a.rule) (c.in-Some.a.edge) R.sized i.state_after;
        sized_n = u.0;
        sized_l = record { surveyors = Z.surveyors; stands = Z.stands; size_l = Z.size_l; size_s = u.0.size_s; size_t = u.0.size_t };
        size_s = u.1;
        size_t = u.2;
      },
      l.invariant.1,
      λ K F.
          let S = l.invariant.2 K F in
          let w = y.1 a.g.now.quota_s a.g.now.quota_t K F l.state.fixed S.stood.k_s S.stood.k_t (seen S) in
          o.1 a.g.now.quota_s a.g.now.quota_t K F r S w.rule_is w.edge_is c.loop-n-test.true,
    )

pub returns-after-loop-n : goal.returns-after-loop-n
returns-after-loop-n c =
    let l = c.loop-n in
    let e : l.n ≡ l.steps = omega (arith, l.invariant.1, c.loop-n-test.false) in
    λ K F. stands_full K l.state (record { edges = l.edges; rules = l.rules; steps = l.steps })
    (subst (λ n. Stands (instance_of K) l.state (record { edges = l.edges; rules = l.rules; steps = n })) e (l.invariant.2 K F).stood)
    (omega (arith, l.invariant.1))

pub returns-in_default : goal.returns-in_default
returns-in_default c =
    let a = c.args in
    let l = c.loop-n in
    let R = l.invariant.0 in
    let r : Trace = record { edges = l.edges; rules = l.rules; steps = l.n } in
    λ K F.
    let S = l.invariant.2 K F in
    let w = (c.in_default.ensures.stepped a.g.now.sv a.g.now.rank_s a.g.now.rank_t c.requires R.leads R.late).1 a.g.now.quota_s a.g.now.quota_t K F l.state.fixed
    S.stood.k_s S.stood.k_t (seen S) in
    stands_end K l.state r S.stood (omega (arith, w.edge_is))
