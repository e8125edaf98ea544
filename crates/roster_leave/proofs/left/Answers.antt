-- `roster_leave::left` meets its contract: the nodes, then both sections. Assumes nothing.
use Rattle.std.proofs.Common.{◌+◌, ◌-◌, ap, ◌∙◌}
use Rattle.roster_positions.specs.Tables.{lists_end}
use Rattle.roster_parts.specs.Growth.{holds_as}
use Rattle.roster_parts.specs.Gives.{held}
use Rattle.roster_leave.specs.LeftParts.{lists_left}
use Rattle.roster_leave.specs.Left.{rankings_left}
use Rattle.roster_leave.proofs.left.Goals as goal

pub returns : goal.returns
returns c =
    let a = c.args in
    let f = a.file.now in
    let mine = c.lists_end-mine.ensures.0 in
    let next = c.lists_end-next.ensures.0
    ∙ ap (lists_end f 1) mine in
    let end = c.lists_end-end.ensures.0
    ∙ ap (lists_end f (a.ns - a.number)) next in
    held a.ns a.nt c.nodes_left-out.ensures (holds_as (λ k. lists_left f (a.ns + a.nt + 4) (mine k) (next k) (end k)) c.lists_left-lists.ensures)
    c.append_section.ensures (holds_as (ap (λ k. rankings_left f (k + 2) a.nt a.number) end) c.rankings_left-rankings.ensures) c.append_section-2.ensures
