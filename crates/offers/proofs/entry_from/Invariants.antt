use Rattle.std.proofs.Common.{◌≤◌}
use Rattle.offers.specs.NextEntry.{holds, Missed}
use Rattle.offers.proofs.entry_from.Given as goal

abbrev pub invariant-loop-r : goal.invariant-loop-r
invariant-loop-r l = (l.from ≤ l.r) × Missed (holds l.m l.cell l.s l.from) l.r
