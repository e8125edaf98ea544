-- `desk_stored::less` meets its contract: no plan, or its pairs but the leaver's. Assumes nothing.
use Rattle.desk_stored.specs.StoringSteps.{no_plan_law, on_it, plan_few, plan_less}
use Rattle.desk_stored.proofs.less.Goals as goal

pub returns-in-Err : goal.returns-in-Err
returns-in-Err c =
    let a = c.args in
    no_plan_law a.g a.plan.now a.number c.with_plan.ensures c.in-Err.is

pub carried-requires : goal.carried-requires
carried-requires c =
    let a = c.args in
    (c.requires, plan_few a.g a.plan.now (on_it a.g a.plan.now c.with_plan.ensures c.in-Ok.is) c.requires)

pub returns-in-Ok : goal.returns-in-Ok
returns-in-Ok c =
    let a = c.args in
    plan_less a.g a.plan.now (on_it a.g a.plan.now c.with_plan.ensures c.in-Ok.is) c.requires
    a.number c.carried.result c.carried.ensures
