-- `desk_stored::closed` meets its contract. Assumes nothing.
use Rattle.std.proofs.Common.{refl}
use Rattle.desk_stored.specs.StoringSteps.{open_still, open_no_more}
use Rattle.desk_stored.proofs.closed.Goals as goal

pub returns-then-same : goal.returns-then-same
returns-then-same c =
    (refl, refl, open_still c.front-a.ensures c.front-b.ensures c.same.ensures c.if-same.true)

pub returns : goal.returns
returns c =
    (refl, refl, open_no_more c.front-a.ensures c.front-b.ensures c.same.ensures c.if-same.false)
