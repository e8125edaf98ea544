use Rattle.std.proofs.Common.{◌≡◌, ◌≤◌, ◌<◌, length}
use Rattle.rival_walk.specs.Edges.{arc_edge}
use Rattle.rival_walk.specs.Walks.{Read}
use Rattle.rival_walk.proofs.walk.Given as goal

abbrev pub invariant-loop-k : goal.invariant-loop-k
invariant-loop-k l =
    (l.k ≤ l.l) × (l.c < l.plan.n) × (length l.gone ≡ 1024) × (length l.come ≡ 1024) × Read (arc_edge l.g.m l.g.sv l.g.st l.g.rank_s l.g.rank_t l.plan.has.now) l.plan.edges.now l.arcs l.plan.n l.j l.l l.i l.initial.gone l.initial.come l.gone l.come l.k l.c
