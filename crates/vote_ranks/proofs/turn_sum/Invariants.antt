use Rattle.std.proofs.Common.{◌+◌, ◌*◌, ◌≤◌, ◌≡◌, take}
use Rattle.vote_ranks.specs.Turn.{turn_sum}
use Rattle.vote_ranks.proofs.TurnSums.{rest_sum}
use Rattle.vote_ranks.proofs.turn_sum.Given as goal

abbrev pub invariant-loop-i : goal.invariant-loop-i
invariant-loop-i l = (l.i ≤ l.k) × (l.sum + rest_sum l.i l.j (take l.k l.a) (take l.k l.b) ≡ turn_sum l.j (take l.k l.a) (take l.k l.b)) × (l.sum ≤ 2 * l.i)
