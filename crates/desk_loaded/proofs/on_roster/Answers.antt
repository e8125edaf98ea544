-- `desk_loaded::on_roster` meets its contract: with a plan where one is needed. Assumes nothing.
use Rattle.std.proofs.Common.{◌≡◌, sym, ap, subst, ◌∙◌, Err, rules}
use Rattle.model.specs.PlanFile.{read_plan}
use Rattle.roster_reading.specs.Place.{bytes_of}
use Rattle.answers.specs.RefusalCases.{code_of}
use Rattle.instance.specs.Decoded.{shown_by}
use Rattle.desk_loaded.specs.Held.{unneeded}
use Rattle.desk_loaded.specs.OnDesk.{OnRosterAs, not_on_roster, unplanned}
use Rattle.desk_loaded.proofs.on_roster.Goals as goal

pub returns-in_err-check_buffers : goal.returns-in_err-check_buffers
returns-in_err-check_buffers c =
    let a = c.args in
    let n = c.in_err-check_buffers.field-0.0 in
    let told : c.from_residual.result ≡ Err n = search rules in
    subst (λ r. OnRosterAs a.g a.plan.now a.needs a.short r) (sym told)
    (subst (λ z. OnRosterAs a.g a.plan.now z a.short (Err n)) (sym c.if-needs.false)
    (not_on_roster a.g a.plan.now (bytes_of a.plan.now (λ i. c.type_inv.plan i)) (λ R.
    sym (ap code_of c.in_err-check_buffers.was) ∙ c.check_buffers.ensures ∙ unneeded R (read_plan (shown_by a.g) a.plan.now) a.short)))

pub returns : goal.returns
returns c =
    let a = c.args in
    unplanned a.g a.plan.now a.short c.if-needs.false _ (sym (ap code_of c.in_ok-check_buffers.was) ∙ c.check_buffers.ensures)

pub returns-then-needs : goal.returns-then-needs
returns-then-needs c =
    let a = c.args in
    subst (λ b. OnRosterAs a.g a.plan.now b a.short c.with_plan.result) (sym c.if-needs.true) c.with_plan.ensures
