-- `roster_with::asks` meets its contract: the mark stands at the entry's place in the row. Assumes nothing.
use Rattle.std.proofs.Common.{ap, false, get_or}
use Rattle.roster_with.proofs.asks.Goals as goal

pub returns : goal.returns
returns c = ap (λ k. get_or c.args.row.now k false) c.slot-k.ensures
