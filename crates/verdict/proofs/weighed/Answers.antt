-- `verdict::weighed` meets its contract: strong, or beaten or popular with the rival listed, written and voted on. Assumes nothing.
use Rattle.std.proofs.Common.{ap, ◌∙◌, cond, w16, to_z-of_z, rules}
use Rattle.answers.specs.declared.Verdict.TheVariants.{Popular, Beaten}
use Rattle.plan_lookup.specs.PlanEdges.{lists_are}
use Rattle.rival_verdict.specs.Judged.{verdict_for, is_beaten}
use Rattle.verdict.specs.RivalWritten.{no_rival, some_rival_law, weighed_as_law, plan_within, unrivalled, rivalled}
use Rattle.verdict.specs.RivalWritten as made
use Rattle.verdict.proofs.weighed.Goals as goal

pub judge-j-requires : goal.judge-j-requires
judge-j-requires c =
    let a = c.args in (
      c.requires.0.edges,
      c.requires.2.few,
      λ e h. c.requires.0.low_sv e,
      λ e h. c.requires.0.low_st e,
      lists_are a.g.m a.plan.now a.n a.es.now c.requires.2,
    )

pub returns-in-Strong : goal.returns-in-Strong
returns-in-Strong c =
    let a = c.args in
    let j = c.judge-j in
    let v = verdict_for j.result.standing in
    let e = no_rival c.in-Strong.is in record {
      weighed_for = λ M S. made.strong_weighed a.g c.requires.0 a.plan.now M S v j.result.rival j.ensures a.out.now e;
      rival_for = unrivalled a.g c.requires.0 a.plan.now c.requires.1.0 c.requires.1.1 v j.result.rival j.ensures _ _ e;
    }

pub list_edges-listed-requires : goal.list_edges-listed-requires
list_edges-listed-requires c =
    let a = c.args in
    let j = c.judge-j in
    let b = is_beaten j.result.standing in (
      c.requires.0.edges,
      made.rival_few a.g c.requires.0 a.plan.now c.requires.1.0 c.requires.1.1 (verdict_for j.result.standing) j.result.rival j.ensures b
          (some_rival_law j.result.standing c.in_default.not-Strong),
    )

pub voted-vote-requires : goal.voted-vote-requires
voted-vote-requires c =
    let a = c.args in
    let j = c.judge-j in
    let b = is_beaten j.result.standing in (
      c.requires.0,
      plan_within a.g c.requires.0 a.plan.now c.requires.1.0 c.requires.1.1,
      made.rival_within a.g c.requires.0 a.plan.now c.requires.1.0 c.requires.1.1 (verdict_for j.result.standing) j.result.rival j.ensures b
          (some_rival_law j.result.standing c.in_default.not-Strong),
      c.requires.2,
      c.list_edges-listed.ensures,
      c.requires.3,
    )

pub returns : goal.returns
returns c =
    let a = c.args in
    let j = c.judge-j in
    let b = is_beaten j.result.standing in
    let v = verdict_for j.result.standing in
    let e = some_rival_law j.result.standing c.in_default.not-Strong in
    let w = c.voted-vote in record {
      weighed_for = λ M S. weighed_as_law (c.verdict_with.ensures ∙ ap (λ z. cond b (Beaten z) (Popular z)) (to_z-of_z {w = w16} {z = w.result} (search rules)))
          (made.rival_weighed a.g c.requires.0 a.plan.now M S v j.result.rival j.ensures b e a.out.now w.ensures);
      rival_for = rivalled a.g c.requires.0 a.plan.now c.requires.1.0 c.requires.1.1 v j.result.rival j.ensures b e _ _ c.list_edges-listed.ensures;
    }
