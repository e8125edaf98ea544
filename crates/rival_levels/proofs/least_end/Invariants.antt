use Rattle.std.proofs.Common.{ℕ, ◌+◌, ◌≤◌, ◌<◌}
use Rattle.arrays.specs.ArrayInstance.{at}
use Rattle.rival_levels.proofs.least_end.Given as goal

abbrev pub invariant-loop-j : goal.invariant-loop-j
invariant-loop-j l = (l.j ≤ l.n) × ((e : ℕ) → e < l.j → l.v ≤ at l.d (l.b + e) + at l.terminals (l.b + e))
