-- `desk_loads::load_plan` meets its contract. Assumes nothing.
use Rattle.std.proofs.Common.{le_refl, refl, T, false}
use Rattle.theory_files.specs.Reads.{is_bytes}
use Rattle.roster_reading.specs.Place.{bytes_of}
use Rattle.answers.specs.RefusalCases.{number_some}
use Rattle.desk_loads.specs.Loads.{plan_small, plan_refused, plan_loaded}
use Rattle.model_desk.specs.Desk.{load_plan}
use Rattle.desk_files.specs.State.{by_state, state_refuses, arrays_are}
use Rattle.desk_loads.proofs.load_plan.Goals as goal

pub returns-in-Err : goal.returns-in-Err
returns-in-Err c =
    let d = c.args in
    by_state d.files (load_plan d.file.now) tt tt (state_refuses d.files false false c.in-Err.ensures) (number_some c.in-Err.refusal) refl

pub read_plan-a-requires : goal.read_plan-a-requires
read_plan-a-requires c = arrays_are c.args.files c.in-Ok.ensures (le_refl 0)

pub with_plan-next-requires : goal.with_plan-next-requires
with_plan-next-requires c =
    let d = c.args in
    let is_b : T (is_bytes d.file.now) = bytes_of d.file.now (λ i. c.type_inv.file i) in
    plan_small d.files d.file.now c.in-Ok.ensures c.in-Ok-a.is c.read_plan-a.ensures is_b

pub returns-in-Err-a : goal.returns-in-Err-a
returns-in-Err-a c =
    let d = c.args in
    plan_refused d.files d.file.now c.in-Ok.ensures c.in-Err-a.is c.read_plan-a.ensures

pub returns-in-Ok-a : goal.returns-in-Ok-a
returns-in-Ok-a c =
    let d = c.args in
    plan_loaded d.files d.file.now c.in-Ok.ensures c.in-Ok-a.is c.read_plan-a.ensures
    c.with_plan-next.result c.with_plan-next.ensures
