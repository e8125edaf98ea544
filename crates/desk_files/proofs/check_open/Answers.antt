-- `desk_files::check_open` meets its contract. Assumes nothing.
use Rattle.std.proofs.Common.{◌≡◌, le_refl, sym, subst, true, false, rules}
use Rattle.answers.specs.RefusalCases.{number_of, code_of, number_some}
use Rattle.desk_files.specs.State.{state_refuses, arrays_are}
use Rattle.desk_files.specs.Open.{Opened, open_not, open_missing, open_there}
use Rattle.desk_files.proofs.check_open.Goals as goal

pub returns-in_err-here : goal.returns-in_err-here
returns-in_err-here c =
    let a = c.args in
    let n = c.in_err-here.field-0.0 in
    let told : code_of c.from_residual.result ≡ number_of n = search rules in
    subst (Opened a.files a.short) (sym told) (open_not a.files a.short (state_refuses a.files true false c.in_err-here.ensures) (number_some n))

pub with_plan-requires : goal.with_plan-requires
with_plan-requires c = arrays_are c.args.files c.in_ok-here.ensures (le_refl 0)

pub returns-in-Err : goal.returns-in-Err
returns-in-Err c =
    let a = c.args in
    open_missing a.files a.short c.in_ok-here.ensures c.front-file.ensures (number_of c.in-Err.field-0) (number_some c.in-Err.field-0) c.in-Err.ensures.number

pub returns-in-Ok : goal.returns-in-Ok
returns-in-Ok c =
    let a = c.args in
    open_there a.files a.short c.in_ok-here.ensures c.front-file.ensures c.in-Ok.ensures (code_of c.check_buffers.result) c.check_buffers.ensures
