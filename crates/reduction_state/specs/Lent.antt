-- What a run is lent, as the laws speak of it: the edges of the instance, and what the rules look at.
use Rattle.instance.specs.declared.Instance.{Instance}
use Rattle.reduction_nodes.specs.Known.{Edges}
use Rattle.reduction_nodes.specs.Kept.{Looks, edges, looks}
use Rattle.reduction_state.specs.declared.State.{State}
use Rattle.reduction_state.specs.declared.Arrows.{Arrows}

-- the edges of the instance
abbrev pub edges_of : Instance → Edges
edges_of g = edges g.m g.sv g.st g.rank_s g.rank_t

-- what the rules look at
abbrev pub looks_of : State → Arrows → Looks
looks_of x a = looks x.rem a.surveyors a.stands x.qs x.qt
