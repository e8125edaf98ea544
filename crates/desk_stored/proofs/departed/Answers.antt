-- `desk_stored::departed` meets its contract. Assumes nothing.
use Rattle.model_changes.specs.Changes.{leave_on}
use Rattle.desk_stored.specs.ChangeSteps.{roster_here, change_refused, change_taken}
use Rattle.desk_stored.proofs.departed.Goals as goal

pub returns-in-Err : goal.returns-in-Err
returns-in-Err c =
    let a = c.args in
    change_refused a.files a.short (λ R. leave_on R a.number) a.number c.front-file.ensures c.check_roster.ensures
    c.in-Err.is c.unchanged.result c.unchanged.ensures

pub returns-in-Ok : goal.returns-in-Ok
returns-in-Ok c =
    let a = c.args in
    change_taken a.files a.short (λ R. leave_on R a.number) a.number c.front-file.ensures c.check_roster.ensures
    c.in-Ok.is c.leave-c.result c.leave-c.ensures c.taken.result c.taken.ensures

pub leave-c-requires : goal.leave-c-requires
leave-c-requires c = let (R, a, b) = roster_here c.args.files c.front-file.ensures c.check_roster.ensures c.in-Ok.is in (R, a)

pub taken-requires : goal.taken-requires
taken-requires c = let (R, a, b) = roster_here c.args.files c.front-file.ensures c.check_roster.ensures c.in-Ok.is in (R, b)
