use Rattle.std.proofs.Common.{ℕ, ◌*◌, ◌≤◌, ◌<◌, take}
use Rattle.theory_votes.specs.Least.{least_sum}
use Rattle.vote_ranks.specs.Turn.{turn_sum}
use Rattle.vote_ranks.proofs.least_sum.Given as goal

abbrev pub invariant-loop-j : goal.invariant-loop-j
invariant-loop-j l = (least_sum (take l.k l.a) (take l.k l.b) ≤ l.least) × (l.least ≤ 2 * l.k) × ((i : ℕ) → i < l.j → l.least ≤ turn_sum i (take l.k l.a) (take l.k l.b))
