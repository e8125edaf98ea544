-- `roster_leave::append_ranking` meets its contract: both lengths, then both parts without the number. Assumes nothing.
use Rattle.model_changes.specs.Changes.{without}
use Rattle.roster_positions.specs.Tables.{entries_in}
use Rattle.roster_parts.specs.Growth.{grown_then, grown_as}
use Rattle.roster_parts.specs.Rankings.{ranking_written}
use Rattle.roster_leave.proofs.append_ranking.Goals as goal

pub returns : goal.returns
returns c =
    let a = c.args in
    let x = c.others-a in
    let y = c.others-b in
    grown_as (ranking_written (record { strict = without a.number (entries_in a.strict.now); tied = without a.number (entries_in a.tied.now) })
    x.result y.result x.ensures.0 y.ensures.0)
    (grown_then (grown_then (grown_then c.push.ensures c.push-2.ensures) c.append_others.ensures) c.append_others-2.ensures)
