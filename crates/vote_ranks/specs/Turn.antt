-- Turns of a list of ranks that is written in an array, and the sum of votes, counted from one up, of each.
use Rattle.std.specs.Prelude.{ℕ, ◌-◌, cond, List, ltb}
use Rattle.theory_votes.specs.Rotation.{against, turned, cost}

-- place p of k places in a ring, for p below 2 k
abbrev pub wrap : ℕ → ℕ → ℕ
wrap k p = cond (ltb p k) p (p - k)

-- the sum over the couples of ys with xs turned by j
unfoldable pub turn_sum : ℕ → List ℕ → List ℕ → ℕ
turn_sum j xs ys = cost (λ a. a) (against (turned j xs) ys)
