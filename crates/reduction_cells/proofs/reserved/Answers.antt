-- An edge of N(s).
use Rattle.std.proofs.Common.{sym, ap, ◌&&◌, ◌||◌, arith, lt-ltb, le-ltb}
use Rattle.arrays.specs.ArrayInstance.{at, flag}
use Rattle.reduction_cells.proofs.reserved.Goals as goal

pub overflow_cast-w : goal.overflow_cast-w
overflow_cast-w c =
    let a = c.args in
    omega (arith, c.requires.1 a.e (omega arith))

pub bounds-lo-w : goal.bounds-lo-w
bounds-lo-w c =
    let a = c.args in
    omega (arith, c.requires.1 a.e (omega arith))

pub returns-then-e-m : goal.returns-then-e-m
returns-then-e-m c =
    let a = c.args in
    sym (ap (λ x. x && (flag a.rem.now a.e && (flag a.lo.now (at a.other.now a.e) || flag a.f.now a.e)))
    (lt-ltb a.e a.m (omega arith)))

pub returns : goal.returns
returns c =
    let a = c.args in
    sym (ap (λ x. x && (flag a.rem.now a.e && (flag a.lo.now (at a.other.now a.e) || flag a.f.now a.e)))
    (le-ltb a.e a.m (omega arith)))
