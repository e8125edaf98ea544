use Rattle.std.proofs.Common.{◌≤◌, ◌<◌}
use Rattle.std.specs.Option.{IfSome}
use Rattle.arrays.specs.ArrayInstance.{at}
use Rattle.blocking_search.specs.Wanted.{wanted, edge_or}
use Rattle.blocking_search.specs.TopSearch.{Seen}
use Rattle.blocking_search.proofs.top_wanted.Given as goal

abbrev pub invariant-loop-i : goal.invariant-loop-i
invariant-loop-i l = (l.i ≤ l.g.m) × Seen (at l.g.sv) (at l.g.rank_s) l.g.m (wanted l.g.sv l.g.st l.g.rank_s l.g.rank_t l.ls l.lt l.p) l.i (edge_or l.g.m l.top) l.key
    × IfSome l.top (λ e. e < l.g.m)
