-- `roster_leave::others` meets its contract: the entries counted and those to come are all. Assumes nothing.
use Rattle.std.proofs.Common.{zero-le, arith, ap, length}
use Rattle.roster_leave.specs.Others.{other_not, other_one, other_none}
use Rattle.roster_leave.proofs.others.Goals as goal

pub loop-i-init : goal.loop-i-init
loop-i-init c = (zero-le, zero-le, omega arith)

pub loop-i-preserved-then-number-list : goal.loop-i-preserved-then-number-list
loop-i-preserved-then-number-list c =
    let a = c.args in
    let e = other_not a.number a.list.now c.loop-i.i c.loop-i-test.true c.if-number-list.true in
    (omega arith, omega arith, omega (arith, ap length e))

pub loop-i-preserved : goal.loop-i-preserved
loop-i-preserved c =
    let a = c.args in
    let e = other_one a.number a.list.now c.loop-i.i c.loop-i-test.true c.if-number-list.false in
    (omega arith, omega arith, omega (arith, ap length e))

pub returns : goal.returns
returns c =
    let a = c.args in
    (omega (arith, ap length (other_none a.number a.list.now c.loop-i.i c.loop-i-test.false)), omega arith)
