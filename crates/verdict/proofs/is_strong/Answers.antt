-- `verdict::is_strong` meets its contract: it is strong or it is not. Assumes nothing.
use Rattle.std.proofs.Common.{sym, ap}
use Rattle.plan_lookup.specs.PlanEdges.{lists_are}
use Rattle.rival_verdict.specs.Judged.{verdict_for}
use Rattle.rival_verdict.specs.declared.Standing.{Standing}
use Rattle.model.specs.Plans.{is_strong}
use Rattle.verdict.specs.RivalWritten.{strong_is, not_strong_law}
use Rattle.verdict.proofs.is_strong.Goals as goal

pub judge-j-requires : goal.judge-j-requires
judge-j-requires c =
    let a = c.args in (
      c.requires.0.edges,
      c.requires.2.few,
      λ e h. c.requires.0.low_sv e,
      λ e h. c.requires.0.low_st e,
      lists_are a.g.m a.plan.now a.n a.es.now c.requires.2,
    )

pub returns-in-Strong : goal.returns-in-Strong
returns-in-Strong c =
    let a = c.args in
    let j = c.judge-j in
    λ M S. strong_is a.g c.requires.0 a.plan.now M S (verdict_for j.result.standing) j.result.rival j.ensures
    (sym (ap (λ (s : Standing). is_strong (verdict_for s)) c.in-Strong.is))

pub returns-in_default : goal.returns-in_default
returns-in_default c =
    let a = c.args in
    let j = c.judge-j in
    λ M S. strong_is a.g c.requires.0 a.plan.now M S (verdict_for j.result.standing) j.result.rival j.ensures
    (not_strong_law j.result.standing c.in_default.not-Strong)
