use Rattle.std.proofs.Common.{◌≡◌, not, ◌&&◌, ◌≤◌}
use Rattle.arrays.specs.ArrayInstance.{at, flag}
use Rattle.lists.specs.Search.{low}
use Rattle.rival_tables.proofs.direct.Given as goal

abbrev pub invariant-loop-f : goal.invariant-loop-f
invariant-loop-f l = (l.f ≤ l.g.m) × (low (λ f. not (flag l.plan f) && (flag l.room.s (at l.g.sv f) && flag l.room.t (at l.g.st f))) l.f ≡ l.f)
