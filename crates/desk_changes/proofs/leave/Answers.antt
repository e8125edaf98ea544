-- `desk_changes::leave` meets its contract. Assumes nothing.
use Rattle.desk_changes.specs.AfterChange.{change_done, leave_settled}
use Rattle.desk_changes.proofs.leave.Goals as goal

pub found_on-requires : goal.found_on-requires
found_on-requires c =
    let a = c.args in
    leave_settled a.files a.number c.departed-c.result a.room a.left.now a.plan.now a.rival.now c.finder_short-short.ensures
    c.departed-c.ensures

pub returns : goal.returns
returns c =
    change_done c.finder_short-short.ensures c.departed-c.ensures c.found_on.ensures
