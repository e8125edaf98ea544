-- `roster_districts::beside` meets its contract: the nodes, then both sections. Assumes nothing.
use Rattle.std.proofs.Common.{refl, ◌+◌}
use Rattle.roster_parts.specs.Growth.{holds_all, holds_as}
use Rattle.roster_parts.specs.Gives.{held}
use Rattle.roster_districts.specs.Beside.{nodes_beside, lists_beside, rankings_beside}
use Rattle.roster_districts.proofs.beside.Goals as goal

pub returns : goal.returns
returns c =
    let a = c.args in
    let end = c.lists_end-end.ensures.0 in
    let end2 = c.lists_end-end2.ensures.0 in
    held (a.ns + a.ms) (a.nt + a.mt) {nodes = nodes_beside a.first.now a.ns a.nt a.second.now a.ms a.mt} c.nodes_beside-out.ensures
    (holds_as (λ i. lists_beside a.first.now (a.ns + a.nt + 4) (end i) a.second.now (a.ms + a.mt + 4) a.ms (c.moved_up-stands.ensures i))
    (holds_all c.new-part.ensures c.append_lists_beside.ensures))
    c.append_section.ensures
    (holds_as (λ i. rankings_beside a.first.now (end i + 2) a.second.now (end2 i + 2) a.mt (c.moved_up-surveyors.ensures i))
    (holds_all (record { front = refl }) c.append_rankings_beside.ensures))
    c.append_section-2.ensures
