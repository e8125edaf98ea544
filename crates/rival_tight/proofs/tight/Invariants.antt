use Rattle.std.proofs.Common.{◌≡◌}
use Rattle.rival_tables.specs.Filled.{Written}
use Rattle.rival_tight.specs.Tight.{tight_price}
use Rattle.rival_tight.proofs.tight.Given as goal

abbrev pub invariant-loop-i : goal.invariant-loop-i
invariant-loop-i l = Written l.n (λ i j v. v ≡ tight_price l.arcs l.costs l.k i j) l.o l.i
