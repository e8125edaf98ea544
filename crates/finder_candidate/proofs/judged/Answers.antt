-- finder_candidate::judged writes the candidate, weighs it and answers what was found of it.
use Rattle.std.proofs.Common.{sym, ap, w16, to_z-of_z, rules}
use Rattle.finder_candidate.specs.Judging.{answer_on, rivalled_on, few_edges, judged_on}
use Rattle.finder_candidate.proofs.judged.Goals as goal

pub list_edges-l-requires : goal.list_edges-l-requires
list_edges-l-requires c =
    let L = c.requires.0 in
    (L.edges, few_edges c.args.g L c.args.fixed.now c.requires.1)

pub write_plan-requires : goal.write_plan-requires
write_plan-requires c =
    let a = c.args in
    let L = c.requires.0 in (
      (a.g.m, a.fixed.now, record { edges = L.edges; low_sv = λ e h. L.low_sv e; low_st = λ e h. L.low_st e; list = c.list_edges-l.ensures }),
      c.requires.2,
    )

pub weigh-w-requires : goal.weigh-w-requires
weigh-w-requires c =
    (c.requires.0, c.requires.1, c.list_edges-l.ensures, c.requires.3)

pub returns-in-Strong : goal.returns-in-Strong
returns-in-Strong c =
    let a = c.args in
    let w = c.weigh-w in
    judged_on a.g a.fixed.now a.steps a.plan.now a.rival.now _ _ w.result
    (c.write_plan.ensures a.g.m a.fixed.now c.list_edges-l.ensures) w.ensures
    (ap (answer_on a.steps) (sym c.in-Strong.is))

pub returns-in-Popular : goal.returns-in-Popular
returns-in-Popular c =
    let a = c.args in
    let w = c.weigh-w in
    judged_on a.g a.fixed.now a.steps a.plan.now a.rival.now _ _ w.result
    (c.write_plan.ensures a.g.m a.fixed.now c.list_edges-l.ensures) w.ensures
    (rivalled_on a.steps w.result (to_z-of_z {w = w16} {z = c.in-Popular.v} (search rules))
    (ap (answer_on a.steps) c.in-Popular.is))

pub returns-in-Beaten : goal.returns-in-Beaten
returns-in-Beaten c =
    let a = c.args in
    let w = c.weigh-w in
    judged_on a.g a.fixed.now a.steps a.plan.now a.rival.now _ _ w.result
    (c.write_plan.ensures a.g.m a.fixed.now c.list_edges-l.ensures) w.ensures
    (rivalled_on a.steps w.result (to_z-of_z {w = w16} {z = c.in-Beaten.v} (search rules))
    (ap (answer_on a.steps) c.in-Beaten.is))
