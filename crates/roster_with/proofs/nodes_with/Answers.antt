-- `roster_with::nodes_with` meets its contract: the count, the quotas, the joiner's, and the stands'. Assumes nothing.
use Rattle.std.proofs.Common.{◌+◌, ap₂, [], ◌∷◌, ◌++◌}
use Rattle.roster_parts.specs.Growth.{holds_all, holds_then, holds_as}
use Rattle.roster_with.proofs.nodes_with.Goals as goal

pub returns : goal.returns
returns c =
    let a = c.args in
    holds_as (ap₂ (λ x y. ((((a.ns + 1) ∷ []) ++ x) ++ a.quota ∷ []) ++ y) c.part-quotas.ensures c.part-stands.ensures)
    (holds_then (holds_then (holds_then (holds_all c.new-out.ensures c.push.ensures) c.append.ensures) c.push-2.ensures) c.append-2.ensures)
