use Rattle.std.proofs.Common.{◌≡◌, ◌≤◌}
use Rattle.rival_search.specs.SearchView.{alone_at}
use Rattle.rival_search.proofs.alone.Given as goal

abbrev pub invariant-loop-i : goal.invariant-loop-i
invariant-loop-i l = (l.i ≤ l.plan.n) × (alone_at l.g.m l.g.sv l.g.st l.g.rank_s l.g.rank_t l.plan.has.now l.room.s l.room.t l.plan.edges.now l.i ≡ l.i)
