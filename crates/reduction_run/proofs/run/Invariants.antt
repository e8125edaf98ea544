use Rattle.std.proofs.Common.{◌≡◌}
use Rattle.reduction_nodes.specs.Known.{Known, instance_of}
use Rattle.reduction_nodes.specs.Kept.{Filled, tables_of}
use Rattle.reduction_state.specs.Lent.{edges_of}
use Rattle.reduction_state.specs.RunArrows.{Shown}
use Rattle.reduction_run.specs.Running.{Running}
use Rattle.reduction_run.proofs.run.Given as goal

abbrev pub invariant-loop-n : goal.invariant-loop-n
invariant-loop-n l =
    Running (edges_of l.g) (tables_of l.tables) l.state l.arrows.surveyors l.arrows.stands l.lead l.later.surveyors l.later.stands
    l.later.loose l.later.due.surveyors l.later.due.stands
    × (l.steps ≡ l.g.m) × ((K : Known (edges_of l.g) l.g.quota_s l.g.quota_t) → Filled (edges_of l.g) K.tied (tables_of l.tables)
    → Shown (instance_of K) l.state l.arrows.surveyors l.arrows.stands (record { edges = l.edges; rules = l.rules; steps = l.n }))
