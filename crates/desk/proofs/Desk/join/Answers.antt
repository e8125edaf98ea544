-- What the core says bounds the records, and with the filled diary it makes what the call says.
use Rattle.std.proofs.Common.{length}
use Rattle.model_changes.specs.Changes.{join_on}
use Rattle.desk.specs.Replies.{searched_in}
use Rattle.desk_changes.specs.Changes.{within_change, joins}
use Rattle.desk.proofs.Desk.join.Goals as goal

pub fill-requires : goal.fill-requires
fill-requires c =
    let a = c.args in
    within_change a.self.files (λ R. join_on R a.quota a.list.now) 0 (length a.diary.now) a.left.now a.plan.now a.rival.now
    (searched_in c.join_core-c.result) _ _ _ c.join_core-c.ensures.1

pub returns : goal.returns
returns c =
    let a = c.args in
    joins a.self.files a.quota a.list.now a.diary.now a.left.now a.plan.now a.rival.now (searched_in c.join_core-c.result) _ _ _ _
    c.join_core-c.ensures c.fill.ensures
