use Rattle.std.proofs.Common.{◌≡◌, List, Bool, ℕ, ◌-◌, ◌<◌}
use Rattle.arrays.specs.ArrayInstance.{at}
use Rattle.rival_tables.specs.Visits.{Visit}
use Rattle.rival_walk.specs.Edges.{edge_rest, arc_edge}
use Rattle.rival_walk.proofs.arc_edge.Given as goal

abbrev pub Held : (m : ℕ) (sv st rs rt : List ℕ) (plan : List Bool) (x z v o : ℕ) → ℕ → Type 0
Held m sv st rs rt plan x z v o f = (edge_rest m sv st rs rt plan x z (v, o) f).1 ≡ arc_edge m sv st rs rt plan x z

abbrev pub invariant-loop-f : goal.invariant-loop-f
invariant-loop-f l =
    (l.o < 1024) × Visit l.g.m l.g.st (at l.g.st l.x) (Held l.g.m l.g.sv l.g.st l.g.rank_s l.g.rank_t l.plan l.x l.z l.v l.o) l.f

abbrev pub decreases-loop-f : goal.decreases-loop-f
decreases-loop-f l = l.g.m - l.f
