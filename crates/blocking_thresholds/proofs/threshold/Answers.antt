-- blocking_thresholds::threshold answers the rank of a worst place. Assumes nothing.
use Rattle.std.proofs.Common.{lt-ltb, le-ltb}
use Rattle.blocking_thresholds.proofs.threshold.Goals as goal

pub returns-then-count-q : goal.returns-then-count-q
returns-then-count-q c = simp (lt-ltb _ _ c.if-count-q.true)

pub returns : goal.returns
returns c = simp (le-ltb _ _ c.if-count-q.false)
