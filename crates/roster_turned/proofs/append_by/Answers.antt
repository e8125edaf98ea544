-- `roster_turned::append_by` meets its contract: with shifts two bytes, without them one. Assumes nothing.
use Rattle.std.proofs.Common.{sym, ap}
use Rattle.roster_reading.specs.Layout.{entry_of, layout_of}
use Rattle.roster_parts.specs.Growth.{grown_as}
use Rattle.roster_turned.proofs.append_by.Goals as goal

pub returns-then-shifts : goal.returns-then-shifts
returns-then-shifts c =
    grown_as (ap (λ b. (layout_of b).bytes (entry_of c.args.x)) (sym c.if-shifts.true)) c.push_entry.ensures

pub returns-else-shifts : goal.returns-else-shifts
returns-else-shifts c =
    grown_as (ap (λ b. (layout_of b).bytes (entry_of c.args.x)) (sym c.if-shifts.false)) c.push.ensures
