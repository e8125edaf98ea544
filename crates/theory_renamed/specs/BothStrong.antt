-- Two instances beside each other: a plan is one of the first followed by one of the second, it is strongly popular exactly if both parts are,
-- and the lists of strongly popular plans follow.
use Rattle.std.specs.Prelude.{List, ◌++◌, map}
use Rattle.lists.specs.Keep.{gather}
use Rattle.model.specs.Plans.{Plan}

-- every plan of the first with every plan of the second
abbrev pub all_beside : List Plan → List Plan → List Plan
all_beside gs hs = gather (λ M. map (λ N. M ++ N) hs) gs
