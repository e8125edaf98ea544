use Rattle.std.proofs.Common.{◌≡◌, ◌≤◌, length}
use Rattle.arrays.specs.Filled.{Made}
use Rattle.rival_tight.specs.Tight.{tight_price}
use Rattle.rival_tight.proofs.tight_row.Given as goal

abbrev pub invariant-loop-j : goal.invariant-loop-j
invariant-loop-j l = (l.j ≤ 64) × (length l.o ≡ 64) × Made 0 l.o (tight_price l.arcs l.costs l.k l.i) l.j
