-- `blocking_thresholds::side_thresholds`: an edge is better than its node's worst place exactly if the node yields to it. Assumes nothing.
use Rattle.blocking_thresholds.specs.Threshold.{thresholds_yield}
use Rattle.blocking_thresholds.specs.PlanList.{tally_listed, worst_listed}
use Rattle.blocking_thresholds.proofs.side_thresholds.Goals as goal

pub returns : goal.returns
returns c =
    let a = c.args in
    let h = c.held-d in
    let w = c.worst-w in
    λ m p E l. thresholds_yield m a.end.now a.rank.now a.quota.now p h.result w.result c.thresholds.result E
    (tally_listed m a.n p a.es.now a.end.now l h.result h.ensures)
    (worst_listed m a.n p a.es.now a.end.now l a.rank.now w.result w.ensures) c.thresholds.ensures

pub held-d-requires : goal.held-d-requires
held-d-requires c = c.requires

pub worst-w-requires : goal.worst-w-requires
worst-w-requires c = c.requires
