-- vote_ranks::wrapped answers a place in a ring. Assumes nothing.
use Rattle.std.proofs.Common.{lt-ltb, le-ltb}
use Rattle.vote_ranks.proofs.wrapped.Goals as goal

pub returns-then-p-k : goal.returns-then-p-k
returns-then-p-k c = simp (lt-ltb _ _ c.if-p-k.true)

pub returns : goal.returns
returns c = simp (le-ltb _ _ c.if-p-k.false)
