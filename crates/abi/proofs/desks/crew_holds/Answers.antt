-- The numbers of the desk's answer.
use Rattle.abi.specs.Desks.{held_for}
use Rattle.abi.proofs.desks.crew_holds.Goals as goal

pub returns : goal.returns
returns c = held_for c.holds-r.ensures c.holding_number-n.ensures
