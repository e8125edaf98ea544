-- `roster_parts::RosterBytes::push_entry` meets its contract: one byte behind the other. Assumes nothing.
use Rattle.roster_parts.specs.Growth.{grown_then}
use Rattle.roster_parts.proofs.RosterBytes.push_entry.Goals as goal

pub returns : goal.returns
returns c = grown_then c.push.ensures c.push-2.ensures
