-- `desk_loaded::with_plan` meets its contract: a refused plan is no plan held, an accepted one is handed on. Assumes nothing.
use Rattle.std.proofs.Common.{◌≡◌, refl, sym, ap, subst, ◌∙◌, T, Err, true, rules}
use Rattle.theory_files.specs.Reads.{is_bytes}
use Rattle.roster_reading.specs.Place.{bytes_of}
use Rattle.answers.specs.RefusalCases.{code_of}
use Rattle.desk_loaded.specs.OnDesk.{OnRosterAs, not_on_roster, plan_missing, plan_held_short, plan_there}
use Rattle.desk_loaded.proofs.with_plan.Goals as goal

pub returns-in-Err : goal.returns-in-Err
returns-in-Err c =
    let a = c.args in
    let p = c.read_against in
    not_on_roster a.g a.plan.now (bytes_of a.plan.now (λ i. c.type_inv.plan i)) (plan_missing a.g a.plan.now p.result p.ensures c.in-Err.is a.short)

pub returns-in_err-check_buffers-in-Ok : goal.returns-in_err-check_buffers-in-Ok
returns-in_err-check_buffers-in-Ok c =
    let a = c.args in
    let p = c.read_against in
    let n = c.in_err-check_buffers-in-Ok.field-0.0 in
    let told : c.from_residual.result ≡ Err n = search rules in
    subst (λ r. OnRosterAs a.g a.plan.now true a.short r) (sym told)
    (not_on_roster a.g a.plan.now (bytes_of a.plan.now (λ i. c.type_inv.plan i)) (λ R.
    sym (ap code_of c.in_err-check_buffers-in-Ok.was) ∙ c.check_buffers.ensures
    ∙ sym (plan_held_short a.g a.plan.now p.result p.ensures c.in-Ok.is a.short R)))

pub returns-in_ok-check_buffers-in-Ok : goal.returns-in_ok-check_buffers-in-Ok
returns-in_ok-check_buffers-in-Ok c =
    let a = c.args in
    let p = c.read_against in
    let is_b : T (is_bytes a.plan.now) =
    bytes_of a.plan.now (λ i. c.type_inv.plan i) in
    plan_there a.g a.plan.now p.result p.ensures a.short _ refl c.requires is_b c.in-Ok.is
    (sym (ap code_of c.in_ok-check_buffers-in-Ok.was) ∙ c.check_buffers.ensures) refl
