-- What the core says bounds the records, and with the filled diary it makes what the call says.
use Rattle.std.proofs.Common.{length}
use Rattle.desk.specs.Replies.{searched_in}
use Rattle.desk_find.specs.Finding.{within, found}
use Rattle.desk.proofs.Desk.find.Goals as goal

pub fill-requires : goal.fill-requires
fill-requires c =
    let a = c.args in
    within a.self.files (length a.diary.now) a.left.now a.plan.now a.rival.now (searched_in c.core-c.result) _ _ _ c.core-c.ensures

pub returns : goal.returns
returns c =
    let a = c.args in
    found a.self.files a.diary.now a.left.now a.plan.now a.rival.now (searched_in c.core-c.result) _ _ _ _ c.core-c.ensures c.fill.ensures
