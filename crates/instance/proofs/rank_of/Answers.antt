-- `instance::rank_of` meets its contract. Assumes nothing.
use Rattle.std.proofs.Common.{eq-eqb, ne_eqb}
use Rattle.instance.proofs.rank_of.Goals as goal

pub returns-then-position-eq0 : goal.returns-then-position-eq0
returns-then-position-eq0 c = simp (eq-eqb _ _ c.if-position-eq0.true)

pub returns : goal.returns
returns c = simp (ne_eqb _ _ c.if-position-eq0.false)
