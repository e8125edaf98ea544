-- `roster_with::append_ranking` meets its contract: both lengths, both parts, and what comes behind them. Assumes nothing.
use Rattle.roster_parts.specs.Growth.{grown_then, grown_as}
use Rattle.roster_with.specs.Entering.{marks_in, entering_written}
use Rattle.roster_with.proofs.append_ranking.Goals as goal

pub returns : goal.returns
returns c =
    let n = c.shift_count-more in
    let a = c.args in
    grown_as (entering_written a.joiner (marks_in a.row.now) a.stand a.strict.now a.tied.now n.result n.ensures.0)
    (grown_then (grown_then (grown_then (grown_then c.push.ensures c.push-2.ensures) c.append.ensures) c.append-2.ensures) c.append_joiner.ensures)
