-- `roster_with::lists_with` meets its contract: the lists that are there, then the joiner's. Assumes nothing.
use Rattle.std.proofs.Common.{ap, ◌++◌}
use Rattle.roster_parts.specs.Growth.{holds_all, holds_then, holds_as}
use Rattle.roster_with.proofs.lists_with.Goals as goal

pub returns : goal.returns
returns c =
    let a = c.args in
    holds_as (ap (λ x. x ++ a.list.now) c.part-lists.ensures)
    (holds_then (holds_all c.new-out.ensures c.append.ensures) c.append-2.ensures)
