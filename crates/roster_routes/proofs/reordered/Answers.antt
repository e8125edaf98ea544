-- `roster_routes::reordered` meets its contract: the nodes, then both sections. Assumes nothing.
use Rattle.std.proofs.Common.{refl, ◌+◌, ap, ◌++◌}
use Rattle.roster_parts.specs.Growth.{holds_all, holds_then, holds_as}
use Rattle.roster_parts.specs.Gives.{held}
use Rattle.roster_routes.specs.Reordered.{quotas_in_order, rankings_in_order, nodes_in_order}
use Rattle.roster_routes.proofs.reordered.Goals as goal

pub returns : goal.returns
returns c =
    let a = c.args in
    let end = c.lists_end-end.ensures.0 in
    held a.ns a.nt {nodes = nodes_in_order a.file.now a.ns a.nt a.order.now}
    (holds_as (ap (λ x. x ++ quotas_in_order a.file.now (a.ns + 1) a.order.now 0 a.nt) c.part-nodes.ensures)
    (holds_then (holds_all c.new-out.ensures c.append.ensures) c.append_quotas.ensures))
    (holds_all c.new-part.ensures c.append_lists.ensures)
    c.append_section.ensures
    (holds_as (ap (λ k. rankings_in_order a.file.now (k + 2) a.order.now 0 a.nt) end)
    (holds_all (record { front = refl }) c.append_rankings_in_order.ensures))
    c.append_section-2.ensures
