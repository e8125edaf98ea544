-- `desk::leave_core` meets its contract: what the change says, of the reply made from it. Assumes nothing.
use Rattle.desk.specs.Replies.{change_replied}
use Rattle.desk.proofs.leave_core.Goals as goal

pub returns : goal.returns
returns c =
    change_replied c.replied.result c.replied.ensures c.leave-s.ensures
