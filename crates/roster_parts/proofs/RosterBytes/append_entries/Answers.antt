-- `roster_parts::RosterBytes::append_entries` meets its contract: the entries from i on are left. Assumes nothing.
use Rattle.std.proofs.Common.{◌*◌, zero-le, arith}
use Rattle.model.specs.Limits.{entry_width}
use Rattle.roster_positions.specs.Rows.{bytes_of}
use Rattle.roster_parts.specs.Growth.{going_starts, going_on, going_ends}
use Rattle.roster_parts.specs.Mapped.{entries_from, entry_turn, entry_done}
use Rattle.roster_parts.proofs.RosterBytes.append_entries.Goals as goal

pub loop-i-init : goal.loop-i-init
loop-i-init c =
    let a = c.args in
    (zero-le, going_starts (bytes_of (entries_from a.table.now a.list.now 0)) a.self.now)

-- the number of a turn's entry is a byte
pub overflow_cast-x : goal.overflow_cast-x
overflow_cast-x c = omega (arith, c.type_inv.list (entry_width * c.loop-i.i))

pub loop-i-preserved : goal.loop-i-preserved
loop-i-preserved c =
    let a = c.args in (
      omega arith,
      going_on (entry_turn a.table.now a.list.now c.loop-i.i c.loop-i-test.true c.byte_at-number.result
          c.byte_at-number.ensures) c.loop-i.invariant.1 c.push_entry.ensures,
    )

pub returns : goal.returns
returns c =
    let a = c.args in
    going_ends (entry_done a.table.now a.list.now c.loop-i.i c.loop-i-test.false) c.loop-i.invariant.1
