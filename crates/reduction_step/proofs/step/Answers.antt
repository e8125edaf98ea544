-- Rules 1 and 2, and then the later ones.
use Rattle.std.proofs.Common.{refl, arith}
use Rattle.reduction_nodes.specs.Known.{instance_of, state_of}
use Rattle.reduction_nodes.specs.Numbers.{row}
use Rattle.reduction_nodes.specs.Kept.{looks, node_lists}
use Rattle.reduction_step.specs.RuleChosen.{Quiet, silent_1, passes, says, first_says, second_says, later_named}
use Rattle.reduction_step.proofs.step.Goals.{Start, Else-e1-m, Else-e2-m}
use Rattle.reduction_step.proofs.step.Goals as goal

quiet2 : (c : Else-e1-m) → let a = c.args in Quiet a.g.now.m a.g.now.st (node_lists a.tables.now.surveyors a.tables.now.stands) (looks a.state.now.rem a.arrows.now.surveyors a.arrows.now.stands a.state.now.qs a.state.now.qt) a.lead.now 2
quiet2 c sv rs rt H quota_s quota_t K F fixed k_s k_t S =
    let a = c.args in
    let Z = state_of a.state.now.rem fixed k_s k_t in
    let l = c.least-e1 in
    passes (instance_of K) Z 1 l.result (silent_1 (instance_of K) Z)
    (first_says (looks a.state.now.rem a.arrows.now.surveyors a.arrows.now.stands a.state.now.qs a.state.now.qt) K F fixed k_s k_t S (row a.lead.now 0) (row a.lead.now 1) (row a.lead.now 2) H l.result l.ensures)
    (omega (arith, c.if-e1-m.false))

quiet3 : (c : Else-e2-m) → let a = c.args in Quiet a.g.now.m a.g.now.st (node_lists a.tables.now.surveyors a.tables.now.stands) (looks a.state.now.rem a.arrows.now.surveyors a.arrows.now.stands a.state.now.qs a.state.now.qt) a.lead.now 3
quiet3 c sv rs rt H quota_s quota_t K F fixed k_s k_t S =
    let a = c.args in
    let l = c.min-e2 in
    let l2 = c.least in
    let l3 = c.least-2 in
    passes (instance_of K) (state_of a.state.now.rem fixed k_s k_t) 2 l.result
    (passes (instance_of K) (state_of a.state.now.rem fixed k_s k_t) 1 c.least-e1.result (silent_1 (instance_of K) (state_of a.state.now.rem fixed k_s k_t))
    (first_says (looks a.state.now.rem a.arrows.now.surveyors a.arrows.now.stands a.state.now.qs a.state.now.qt) K F fixed k_s k_t S (row a.lead.now 0) (row a.lead.now 1) (row a.lead.now 2) H c.least-e1.result c.least-e1.ensures)
    (omega (arith, c.if-e1-m.false)))
    (second_says (looks a.state.now.rem a.arrows.now.surveyors a.arrows.now.stands a.state.now.qs a.state.now.qt) K F fixed k_s k_t S (row a.lead.now 0) (row a.lead.now 1) (row a.lead.now 2) H
    l2.result l3.result l.result l2.ensures l3.ensures l.ensures)
    (omega (arith, c.if-e2-m.false))

pub returns-then-e1-m : goal.returns-then-e1-m
returns-then-e1-m c =
    let a = c.args in
    let l = c.least-e1 in record {
      sized_l_2 = c.requires.sized_l;
      inside = c.if-e1-m.true;
      stepped = λ sv rs rt D H N. (
        N,
        λ quota_s quota_t K F fixed k_s k_t S. let Z = state_of a.state.now.rem fixed k_s k_t in
            says (instance_of K) Z 1 l.result (silent_1 (instance_of K) Z) (omega arith)
            (first_says (looks a.state.now.rem a.arrows.now.surveyors a.arrows.now.stands a.state.now.qs a.state.now.qt) K F fixed k_s k_t S (row a.lead.now 0) (row a.lead.now 1) (row a.lead.now 2) H l.result l.ensures)
            (omega (arith, c.if-e1-m.true)),
      );
    }

pub returns-then-e2-m : goal.returns-then-e2-m
returns-then-e2-m c =
    let a = c.args in
    let l = c.min-e2 in
    let l2 = c.least in
    let l3 = c.least-2 in record {
      sized_l_2 = c.requires.sized_l;
      inside = c.if-e2-m.true;
      stepped = λ sv rs rt D H N. (
        N,
        λ quota_s quota_t K F fixed k_s k_t S. says (instance_of K) (state_of a.state.now.rem fixed k_s k_t) 2 l.result
            (quiet2 (goal.at.returns-then-e2-m c).Else-e1-m sv rs rt H quota_s quota_t K F fixed k_s k_t S) (omega arith)
            (second_says (looks a.state.now.rem a.arrows.now.surveyors a.arrows.now.stands a.state.now.qs a.state.now.qt) K F fixed k_s k_t S (row a.lead.now 0) (row a.lead.now 1) (row a.lead.now 2) H
            l2.result l3.result l.result l2.ensures l3.ensures l.ensures)
            (omega (arith, c.if-e2-m.true)),
      );
    }

pub renewed-requires : goal.renewed-requires
renewed-requires c = c.requires

pub returns : goal.returns
returns c =
    let a = c.args in
    let E = c.renewed.ensures in record {
      sized_l_2 = E.sized_l_2;
      inside = c.late.ensures.inside;
      stepped = λ sv rs rt D H N. let R = E.renews sv rs rt D N in (
        R.lates,
        λ quota_s quota_t K F fixed k_s k_t S. c.late.ensures.named (instance_of K) (state_of a.state.now.rem fixed k_s k_t) refl
            (later_named (looks a.state.now.rem a.arrows.now.surveyors a.arrows.now.stands a.state.now.qs a.state.now.qt) K F fixed k_s k_t S _ _ _ _ _ R) (quiet3 (goal.at.returns c).Else-e2-m sv rs rt H quota_s quota_t K F fixed k_s k_t S),
      );
    }
