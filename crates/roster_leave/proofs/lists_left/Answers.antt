-- `roster_leave::lists_left` meets its contract: the lists before the leaver's, its length 0, and those behind it. Assumes nothing.
use Rattle.std.proofs.Common.{ap₂, [], ◌∷◌, ◌++◌}
use Rattle.roster_parts.specs.Growth.{holds_all, holds_then, holds_as}
use Rattle.roster_leave.proofs.lists_left.Goals as goal

pub returns : goal.returns
returns c =
    holds_as (ap₂ (λ x y. (x ++ 0 ∷ []) ++ y) c.part-before.ensures c.part-behind.ensures)
    (holds_then (holds_then (holds_all c.new-out.ensures c.append.ensures) c.push.ensures) c.append-2.ensures)
