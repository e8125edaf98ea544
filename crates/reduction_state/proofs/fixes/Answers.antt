-- Rules 1, 3, 6 and 7 fix.
use Rattle.reduction_state.proofs.Flags.{fixes_is}
use Rattle.reduction_state.proofs.fixes.Goals as goal

pub returns : goal.returns
returns c = fixes_is c.args.rule
