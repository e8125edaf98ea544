use Rattle.std.proofs.Common.{◌≡◌, List, Bool, ℕ, ◌-◌}
use Rattle.theory_verdict.specs.Ends.{Way}
use Rattle.arrays.specs.ArrayInstance.{at}
use Rattle.rival_tables.specs.Visits.{Visit}
use Rattle.rival_exchange.specs.Ways.{told, terminal_rest, terminal_by}
use Rattle.rival_exchange.proofs.terminal.Given as goal

abbrev pub Held : (m : ℕ) (sv st rs rt : List ℕ) (x y : ℕ) (plan fs ft : List Bool) (held : ℕ × (Way × Way)) → ℕ → Type 0
Held m sv st rs rt x y plan fs ft held f = terminal_rest m sv st rs rt x y plan fs ft held f ≡ terminal_by m sv st rs rt x y plan fs ft

abbrev pub invariant-loop-f : goal.invariant-loop-f
invariant-loop-f l =
    Visit l.g.m l.g.sv (at l.g.sv l.x) (Held l.g.m l.g.sv l.g.st l.g.rank_s l.g.rank_t l.x l.y l.plan l.room.s l.room.t (told l.g.m l.o)) l.f

abbrev pub decreases-loop-f : goal.decreases-loop-f
decreases-loop-f l = l.g.m - l.f
