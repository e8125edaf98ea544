-- `roster_districts::append_rankings_beside` meets its contract: the first's lists, then the second's under the table's numbers. Assumes nothing.
use Rattle.std.proofs.Common.{ap, ◌++◌}
use Rattle.roster_parts.specs.Growth.{grown_then, grown_as}
use Rattle.roster_parts.specs.Mapped.{rankings_under}
use Rattle.roster_districts.proofs.append_rankings_beside.Goals as goal

pub returns : goal.returns
returns c =
    let a = c.args in
    grown_as (ap (λ x. x ++ rankings_under a.table.now a.second.now a.mt a.place) c.part-lists.ensures)
    (grown_then c.append.ensures c.append_rankings.ensures)
