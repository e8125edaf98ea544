-- `desk::join_core` meets its contract: what the change says, of the reply made from it. Assumes nothing.
use Rattle.desk.specs.Replies.{change_replied}
use Rattle.desk.proofs.join_core.Goals as goal

pub returns : goal.returns
returns c =
    (c.join-s.ensures.0, change_replied c.replied.result c.replied.ensures c.join-s.ensures.1)
