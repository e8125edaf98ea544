use Rattle.std.proofs.Common.{◌≡◌, List, Bool, ℕ, ◌-◌}
use Rattle.theory_verdict.specs.Ends.{Way}
use Rattle.arrays.specs.ArrayInstance.{at}
use Rattle.rival_tables.specs.Visits.{Visit}
use Rattle.rival_exchange.specs.Ways.{way_of, told, Begun, round_rest}
use Rattle.rival_exchange.proofs.round.Given as goal

-- what is held at edge g leads to what is held at the first, `whole`
abbrev pub Held : (m : ℕ) (sv st rs rt : List ℕ) (x y : ℕ) (plan fs : List Bool) (s : Way) (held whole : ℕ × (Way × Way)) → ℕ → Type 0
Held m sv st rs rt x y plan fs s held whole g = round_rest m sv st rs rt x y plan fs s held g ≡ whole

abbrev pub invariant-loop-d : goal.invariant-loop-d
invariant-loop-d l =
    (rs : List ℕ) → Begun l.g.m l.g.sv l.g.st rs l.g.rank_t l.x l.y l.start l.a l.free → Visit l.g.m l.g.st (at l.g.st l.y)
    (Held l.g.m l.g.sv l.g.st rs l.g.rank_t l.x l.y l.plan l.room.s (way_of l.g.m l.start) (told l.g.m l.o) (round_rest l.g.m l.g.sv l.g.st rs l.g.rank_t l.x l.y l.plan l.room.s (way_of l.g.m l.start) (told l.g.m l.initial.o) 0)) l.d

abbrev pub decreases-loop-d : goal.decreases-loop-d
decreases-loop-d l = l.g.m - l.d
