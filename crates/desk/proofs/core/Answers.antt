-- `desk::core` meets its contract: what the search says, of the reply made from it. Assumes nothing.
use Rattle.desk.specs.Replies.{done_replied}
use Rattle.desk.proofs.core.Goals as goal

pub returns : goal.returns
returns c =
    done_replied c.replied.result c.replied.ensures c.search-s.ensures
