-- `roster_leave::append_others` meets its contract: the entries from i on are left. Assumes nothing.
use Rattle.std.proofs.Common.{zero-le, arith, ap}
use Rattle.roster_positions.specs.Rows.{bytes_of}
use Rattle.roster_parts.specs.Growth.{going_starts, going_on, going_past, going_ends}
use Rattle.roster_leave.specs.Others.{others_from, other_not, other_one, other_none}
use Rattle.roster_leave.proofs.append_others.Goals as goal

pub loop-i-init : goal.loop-i-init
loop-i-init c =
    let a = c.args in
    (zero-le, going_starts (bytes_of (others_from a.number a.list.now 0)) a.out.now)

pub loop-i-preserved-then-number-x : goal.loop-i-preserved-then-number-x
loop-i-preserved-then-number-x c =
    let a = c.args in (
      omega arith,
      going_past (ap bytes_of (other_not a.number a.list.now c.loop-i.i c.loop-i-test.true c.if-number-x.true))
          c.loop-i.invariant.1,
    )

pub loop-i-preserved : goal.loop-i-preserved
loop-i-preserved c =
    let a = c.args in (
      omega arith,
      going_on (ap bytes_of (other_one a.number a.list.now c.loop-i.i c.loop-i-test.true
          c.if-number-x.false)) c.loop-i.invariant.1 c.push_entry.ensures,
    )

pub returns : goal.returns
returns c =
    let a = c.args in
    going_ends (ap bytes_of (other_none a.number a.list.now c.loop-i.i c.loop-i-test.false)) c.loop-i.invariant.1
