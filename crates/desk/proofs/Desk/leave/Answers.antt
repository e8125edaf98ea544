-- What the core says bounds the records, and with the filled diary it makes what the call says.
use Rattle.std.proofs.Common.{length}
use Rattle.model_changes.specs.Changes.{leave_on}
use Rattle.desk.specs.Replies.{searched_in}
use Rattle.desk_changes.specs.Changes.{within_change, leaves}
use Rattle.desk.proofs.Desk.leave.Goals as goal

pub fill-requires : goal.fill-requires
fill-requires c =
    let a = c.args in
    within_change a.self.files (λ R. leave_on R a.number) a.number (length a.diary.now) a.left.now a.plan.now a.rival.now
    (searched_in c.leave_core-c.result) _ _ _ c.leave_core-c.ensures

pub returns : goal.returns
returns c =
    let a = c.args in
    leaves a.self.files a.number a.diary.now a.left.now a.plan.now a.rival.now (searched_in c.leave_core-c.result) _ _ _ _
    c.leave_core-c.ensures c.fill.ensures
