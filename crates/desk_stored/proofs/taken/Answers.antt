-- `desk_stored::taken` meets its contract. Assumes nothing.
use Rattle.std.proofs.Common.{refl}
use Rattle.std.specs.declared.result.Result.TheVariants.{Ok}
use Rattle.desk_stored.specs.StoringSteps.{taken_refused, taken_stored}
use Rattle.desk_stored.proofs.taken.Goals as goal

pub returns-in-Err : goal.returns-in-Err
returns-in-Err c =
    let a = c.args in
    taken_refused a.files a.number c.unchanged.result c.in-Err.is c.unchanged.ensures

pub returns-in-Ok : goal.returns-in-Ok
returns-in-Ok c =
    let a = c.args in
    taken_stored a.files a.number (record { answer = Ok tt; files = c.closed-d.result }) c.in-Ok.is refl
    c.stored-next.result c.stored-next.ensures c.closed-d.ensures
