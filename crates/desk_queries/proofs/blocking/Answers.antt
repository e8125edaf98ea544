-- `desk_queries::blocking` meets its contract. Assumes nothing.
use Rattle.std.proofs.Common.{◌≡◌, refl, le_refl, sym, subst, Err, true, false, rules}
use Rattle.model_desk.specs.Desk.{blocking}
use Rattle.answers.specs.RefusalCases.{number_some}
use Rattle.answers.specs.BlockedCases.{blocked_shown}
use Rattle.desk_files.specs.Replies.{Replied}
use Rattle.desk_files.specs.State.{by_state, state_refuses, arrays_are}
use Rattle.plan_lookup.specs.PlanEdges.{lists_are}
use Rattle.finder_candidate.specs.Judging.{few_edges}
use Rattle.desk_queries.specs.Calls.{plan_shown, plan_listed, blocking_reply}
use Rattle.desk_queries.proofs.blocking.Goals as goal

pub returns-in_err-l : goal.returns-in_err-l
returns-in_err-l c =
    let d = c.args.files in
    let n = c.in_err-l.field-0.0 in
    let told : c.from_residual.result ≡ Err n = search rules in
    subst (λ a. Replied d blocking (blocked_shown a) blocking d) (sym told)
    (by_state d blocking tt tt (state_refuses d true false c.in_err-l.ensures) (number_some n) refl)

pub blocking-requires : goal.blocking-requires
blocking-requires c =
    let d = c.args.files in
    let F = c.in_ok-l.ensures in
    let L = arrays_are d F (le_refl 0) in
    let l = c.in_ok-l.l in
    (L, few_edges l.g L l.plan.chosen (plan_shown d F), lists_are l.g.m l.plan.chosen l.plan.n l.plan.edges (plan_listed d F))

pub returns : goal.returns
returns c = blocking_reply c.args.files c.in_ok-l.ensures refl c.blocking.ensures
