-- One rule after the other.
use Rattle.std.proofs.Common.{arith}
use Rattle.reduction_step.specs.RuleChosen.{quiet_3, quiet_next, says_37, says_8, least_3, least_4, least_5, least_6, least_7}
use Rattle.reduction_step.proofs.late.Goals.{Start, Else-e3-m, Else-e4-m, Else-e5-m, Else-e6-m, Else-e7-m}
use Rattle.reduction_step.proofs.late.Goals as goal

pub returns-then-e3-m : goal.returns-then-e3-m
returns-then-e3-m c = record { inside = c.if-e3-m.true; named = says_37 (omega arith) quiet_3 (least_3 c.least-e3.ensures) c.if-e3-m.true }

pub returns-then-e4-m : goal.returns-then-e4-m
returns-then-e4-m c = record { inside = c.if-e4-m.true; named = says_37 (omega arith) (quiet_next quiet_3 (least_3 c.least-e3.ensures) c.if-e3-m.false) (least_4 c.least-e4.ensures) c.if-e4-m.true }

pub returns-then-e5-m : goal.returns-then-e5-m
returns-then-e5-m c = record { inside = c.if-e5-m.true; named = says_37 (omega arith) (quiet_next (quiet_next quiet_3 (least_3 c.least-e3.ensures) c.if-e3-m.false) (least_4 c.least-e4.ensures) c.if-e4-m.false) (least_5 c.least-e5.ensures) c.if-e5-m.true }

pub returns-then-e6-m : goal.returns-then-e6-m
returns-then-e6-m c = record { inside = c.if-e6-m.true; named = says_37 (omega arith) (quiet_next (quiet_next (quiet_next quiet_3 (least_3 c.least-e3.ensures) c.if-e3-m.false) (least_4 c.least-e4.ensures) c.if-e4-m.false) (least_5 c.least-e5.ensures) c.if-e5-m.false) (least_6 c.least-e6.ensures) c.if-e6-m.true }

pub returns-then-e7-m : goal.returns-then-e7-m
returns-then-e7-m c = record { inside = c.if-e7-m.true; named = says_37 (omega arith) (quiet_next (quiet_next (quiet_next (quiet_next quiet_3 (least_3 c.least-e3.ensures) c.if-e3-m.false) (least_4 c.least-e4.ensures) c.if-e4-m.false) (least_5 c.least-e5.ensures) c.if-e5-m.false) (least_6 c.least-e6.ensures) c.if-e6-m.false) (least_7 c.least-e7.ensures) c.if-e7-m.true }

pub returns : goal.returns
returns c = record { inside = tt; named = says_8 (quiet_next (quiet_next (quiet_next (quiet_next (quiet_next quiet_3 (least_3 c.least-e3.ensures) c.if-e3-m.false) (least_4 c.least-e4.ensures) c.if-e4-m.false) (least_5 c.least-e5.ensures) c.if-e5-m.false) (least_6 c.least-e6.ensures) c.if-e6-m.false) (least_7 c.least-e7.ensures) c.if-e7-m.false) }
