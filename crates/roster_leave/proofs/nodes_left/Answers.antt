-- `roster_leave::nodes_left` meets its contract: the front of the file, with the leaver's quota written anew. Assumes nothing.
use Rattle.std.proofs.Common.{take}
use Rattle.roster_parts.specs.Growth.{holds_all, holds_as, written_set}
use Rattle.roster_leave.proofs.nodes_left.Goals as goal

pub returns : goal.returns
returns c =
    let a = c.args in
    let b = c.append.new.self in
    let front = holds_as c.part.ensures (holds_all c.new-out.ensures c.append.ensures) in
    record { front = written_set (take a.n a.file.now) b.len b.roster a.number 0 front.front }
