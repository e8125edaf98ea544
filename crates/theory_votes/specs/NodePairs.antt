-- A node's rank pairs in the model (Facing) are the pairs that every valid pairing has, shared edges against themselves and empty places
-- against empty ones, with the greedy list of the others, in order.
use Prim.Native.Nat.{ℕ, ◌≤◌, ◌<◌}
use Rattle.std.specs.Prelude.{◌≡◌, Bool, List, ◌++◌}
use Rattle.lists.specs.Sum.{sum}
use Rattle.model.specs.Limits.{empty_rank}
use Rattle.model.specs.Instance.{Side, deg}
use Rattle.theory_votes.specs.Attained.{alone}
use Rattle.theory_votes.specs.Sorted.{Sorted}
use Rattle.theory_votes.specs.NodeByRotation.{fill}
use Rattle.theory_votes.specs.NodeByRotation.{most}
use Rattle.theory_votes.specs.RankPairs.{by_key}
use Rattle.theory_votes.specs.Greedy.{greedy}
use Rattle.theory_votes.specs.PairingPairs as P

module _ (K : Side) (M N : ℕ → Bool) (v : ℕ) (placed : (e : ℕ) → e < K.m → K.rank e < empty_rank) (hM : deg K M v ≤ K.quota v)
    (hN : deg K N v ≤ K.quota v) where
  abbrev k : ℕ
  k = most K M N v

  abbrev fixed : List (ℕ × ℕ)
  fixed = P.fixed K M N v

  module _ (xs ys : List ℕ) (hx : (φ : ℕ → ℕ) → sum φ xs ≡ sum (λ e. φ (K.rank e)) (alone K v M N))
      (hy : (φ : ℕ → ℕ) → sum φ ys ≡ sum (λ e. φ (K.rank e)) (alone K v N M))
      (sx : Sorted (λ a. a) (fill k xs)) (sy : Sorted (λ a. a) (fill k ys)) where
    abbrev chosen : List (ℕ × ℕ)
    chosen = greedy (fill k xs) (fill k ys)

    abbrev pub given : List (ℕ × ℕ)
    given = by_key (fixed ++ chosen)
