-- `roster_with::joined` meets its contract: the nodes, then both sections. Assumes nothing.
use Rattle.std.proofs.Common.{◌+◌}
use Rattle.roster_parts.specs.Gives.{held}
use Rattle.roster_with.specs.WithJoiner.{nodes_with}
use Rattle.roster_with.proofs.joined.Goals as goal

pub returns : goal.returns
returns c =
    let a = c.args in
    held (a.ns + 1) a.nt {nodes = nodes_with a.file.now a.ns a.nt a.quota}
    c.nodes_with-out.ensures c.lists_with-lists.ensures c.append_section.ensures c.rankings_with-rankings.ensures c.append_section-2.ensures
