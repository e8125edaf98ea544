use Rattle.std.proofs.Common.{◌≡◌, ◌≤◌, length}
use Rattle.rival_walk.specs.Leads.{Column}
use Rattle.rival_walk.proofs.columns.Given as goal

abbrev pub invariant-loop-k : goal.invariant-loop-k
invariant-loop-k l = (l.k ≤ l.l) × (length l.o ≡ 4096) × Column l.arcs l.n l.j l.k l.o
