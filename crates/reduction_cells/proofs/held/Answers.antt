-- An edge below m is in p or not; there is none at m or behind.
use Rattle.std.proofs.Common.{sym, ap, ◌&&◌, arith, lt-ltb, le-ltb}
use Rattle.arrays.specs.ArrayInstance.{flag}
use Rattle.reduction_cells.proofs.held.Goals as goal

pub bounds-p-e : goal.bounds-p-e
bounds-p-e c = omega (arith, c.requires)

pub returns-then-e-m : goal.returns-then-e-m
returns-then-e-m c = let a = c.args in sym (ap (λ b. b && flag a.p.now a.e) (lt-ltb a.e a.m c.if-e-m.true))

pub returns : goal.returns
returns c = let a = c.args in sym (ap (λ b. b && flag a.p.now a.e) (le-ltb a.e a.m c.if-e-m.false))
