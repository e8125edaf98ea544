-- `desk_stored::joined` meets its contract. Assumes nothing.
use Rattle.model_changes.specs.Changes.{join_on}
use Rattle.desk_stored.specs.ChangeSteps.{roster_here, change_refused, change_taken}
use Rattle.desk_stored.proofs.joined.Goals as goal

pub returns-in-Err : goal.returns-in-Err
returns-in-Err c =
    let a = c.args in
    change_refused a.files a.short (λ R. join_on R a.quota a.list.now) 0 c.front-file.ensures c.check_roster.ensures
    c.in-Err.is c.unchanged.result c.unchanged.ensures

pub returns-in-Ok : goal.returns-in-Ok
returns-in-Ok c =
    let a = c.args in
    change_taken a.files a.short (λ R. join_on R a.quota a.list.now) 0 c.front-file.ensures c.check_roster.ensures
    c.in-Ok.is c.join-c.result c.join-c.ensures c.taken.result c.taken.ensures

pub join-c-requires : goal.join-c-requires
join-c-requires c = let (R, a, b) = roster_here c.args.files c.front-file.ensures c.check_roster.ensures c.in-Ok.is in (R, a)

pub taken-requires : goal.taken-requires
taken-requires c = let (R, a, b) = roster_here c.args.files c.front-file.ensures c.check_roster.ensures c.in-Ok.is in (R, b)
