-- `roster_districts::nodes_beside` meets its contract: both counts, each before the quotas of the first and of the second. Assumes nothing.
use Rattle.std.proofs.Common.{◌+◌, [], ◌∷◌, ◌++◌}
use Rattle.roster_parts.specs.Growth.{holds_all, holds_then, holds_as}
use Rattle.roster_districts.proofs.nodes_beside.Goals as goal

pub returns : goal.returns
returns c =
    let a = c.args in
    holds_as (λ i. ((((((a.ns + a.ms) ∷ []) ++ c.part-s.ensures i) ++ c.part-s2.ensures i)
    ++ (a.nt + a.mt) ∷ []) ++ c.part-t.ensures i) ++ c.part-t2.ensures i)
    (holds_then (holds_then (holds_then (holds_then (holds_then (holds_all c.new-out.ensures c.push.ensures) c.append.ensures) c.append-2.ensures)
    c.push-2.ensures) c.append-3.ensures) c.append-4.ensures)
