-- The vote of two ranks and its rate at the edges, run by the checker: the first and the last rank, the numbers next to them, which are no
-- ranks, and the last number of a byte. The pairs of ranks between are tried on rosters (rust/planner/tests/votes.rs).
use Rattle.std.specs.Prelude.{ℕ, ◌≡◌, refl, List, [], ◌∷◌, map, ℤ, pos, negsuc}
use Rattle.model.specs.Vote.{rank_vote}
use Rattle.theory_votes.specs.Score.{rate}

abbrev edges : List ℕ
edges = 0 ∷ 1 ∷ 33 ∷ 34 ∷ 255 ∷ []

-- a vote with its rate
abbrev won : ℤ × ℕ
won = (pos 1, 2)

abbrev drawn : ℤ × ℕ
drawn = (pos 0, 1)

abbrev lost : ℤ × ℕ
lost = (negsuc 0, 0)

pub cases : map (λ a. map (λ b. (rank_vote a b, rate a b)) edges) edges
    ≡ (drawn ∷ won ∷ won ∷ won ∷ won ∷ [])
    ∷ (lost ∷ drawn ∷ won ∷ won ∷ won ∷ [])
    ∷ (lost ∷ lost ∷ drawn ∷ won ∷ won ∷ [])
    ∷ (lost ∷ lost ∷ lost ∷ drawn ∷ won ∷ [])
    ∷ (lost ∷ lost ∷ lost ∷ lost ∷ drawn ∷ []) ∷ []
cases = refl
