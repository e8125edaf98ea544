-- `roster_entries::ascends` meets its contract, by the numbers, and where these are equal by the shifts. Assumes nothing.
use Rattle.std.proofs.Common.{eq-eqb, ne_eqb, lt-ltb, le-ltb}
use Rattle.roster_entries.proofs.ascends.Goals as goal

pub returns-then-x-y : goal.returns-then-x-y
returns-then-x-y c = simp (lt-ltb _ _ c.if-x-y.true)

pub returns-then-x-y-2 : goal.returns-then-x-y-2
returns-then-x-y-2 c =
    simp (le-ltb _ _ c.if-x-y.false, eq-eqb _ _ c.if-x-y-2.true)

pub returns : goal.returns
returns c = simp (le-ltb _ _ c.if-x-y.false, ne_eqb _ _ c.if-x-y-2.false)
