-- The first call's answer has both files where it counts votes; of it, and of the part, the reply is made.
use Rattle.desk_files.specs.Held.{held_of}
use Rattle.desk_queries.specs.Comparing.{counted}
use Rattle.desk.proofs.Desk.compare.Goals as goal

pub part_of-part-requires : goal.part_of-part-requires
part_of-part-requires c =
    let a = c.args in
    let r = c.compare_votes-c in
    counted a.first.now a.second.now a.forward.now a.back.now (held_of a.self.files) r.result.answer r.ensures.answer
