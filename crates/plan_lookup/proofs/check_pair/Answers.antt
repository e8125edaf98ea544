-- `plan_lookup::check_pair` meets its contract.
use Rattle.std.proofs.Common.{true, false, arith}
use Rattle.plan_lookup.specs.PairRefusal.{not_there, not_ascending, by_quota}
use Rattle.plan_lookup.proofs.check_pair.Goals as goal

pub returns-then-m-e : goal.returns-then-m-e
returns-then-m-e c = let a = c.args in not_there a.m a.e a.from _ _ c.if-m-e.true

pub returns-then-e-from : goal.returns-then-e-from
returns-then-e-from c = let a = c.args in not_ascending a.m a.e a.from _ _ (omega arith) c.if-e-from.true

pub overflow_cast-i : goal.overflow_cast-i
overflow_cast-i c = omega (arith, c.requires.1 c.args.e (omega arith))

pub overflow_cast-j : goal.overflow_cast-j
overflow_cast-j c = omega (arith, c.requires.2 c.args.e (omega arith))

pub bounds-qs-i : goal.bounds-qs-i
bounds-qs-i c = omega (arith, c.requires.1 c.args.e (omega arith))

pub bounds-us-i : goal.bounds-us-i
bounds-us-i c = omega (arith, c.requires.1 c.args.e (omega arith))

pub bounds-qt-j : goal.bounds-qt-j
bounds-qt-j c = omega (arith, c.requires.2 c.args.e (omega arith))

pub bounds-ut-j : goal.bounds-ut-j
bounds-ut-j c = omega (arith, c.requires.2 c.args.e (omega arith))

pub returns : goal.returns
returns c =
    let a = c.args in
    by_quota a.m a.e a.from _ _ (omega arith) (omega arith) false c.if-qs-i.false

pub returns-then-qs-i : goal.returns-then-qs-i
returns-then-qs-i c =
    let a = c.args in
    by_quota a.m a.e a.from _ _ (omega arith) (omega arith) true c.if-qs-i.true
