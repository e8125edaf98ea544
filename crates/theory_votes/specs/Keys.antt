-- The rank pairs of a node as numbers in order, which is how the code has them: the keys of the pairs, own rank first. They are the keys of the
-- shared ranks against themselves and of the greedy pairs, in order, filled up with the key of two empty places.
use Rattle.std.specs.Prelude.{ℕ, ◌+◌, ◌-◌, ◌/◌, ◌%◌, ◌≤◌, ◌<◌, max, ◌≡◌, refl, Bool, List, [], ◌∷◌, ◌++◌, map, length, replicate}
use native.Mathlib.Omega.{arith}
use Rattle.std.proofs.Common.{ap₂}
use mathlib.Core.List.Memᴰ
use Rattle.lists.specs.Sum.{◌∈◌, sum}
use Rattle.lists.specs.Keep.{gather}
use Rattle.model.specs.Limits.{empty_rank}
use Rattle.model.specs.Instance.{Side, deg}
use Rattle.model.specs.Facing.{facing_bytes}
use Rattle.theory_votes.specs.Attained.{common, alone}
use Rattle.theory_votes.specs.Sorted.{Sorted}
use Rattle.theory_votes.specs.NodeByRotation.{fill}
use Rattle.theory_votes.specs.RankPairs.{key}
use Rattle.theory_votes.specs.Greedy.{greedy}
use Rattle.theory_votes.specs.PairOrder.{Low}

-- the key of two empty places, the greatest of all
abbrev pub empty_key : ℕ
empty_key = 2145

-- keys and those of empty places, b in all
abbrev pub fill_keys : ℕ → List ℕ → List ℕ
fill_keys b ws = ws ++ replicate (b - length ws) empty_key

-- the two ranks of a key
abbrev pub key_bytes : List ℕ → List ℕ
key_bytes ws = gather (λ w. w / 64 ∷ w % 64 ∷ []) ws

pub key_bytes_law : (cs : List (ℕ × ℕ)) → Low cs → key_bytes (map key cs) ≡ facing_bytes cs
key_bytes_law [] l = refl
key_bytes_law (c ∷ cs) l =
    let h : c.1 < 64 = l c (Memᴰ.head refl) in
    let p : key c / 64 ≡ c.0 = omega arith in
    let q : key c % 64 ≡ c.1 = omega arith in
    ap₂ (λ a t. a ∷ t) p (ap₂ (λ b t. b ∷ t) q (key_bytes_law cs (λ d m. l d (Memᴰ.tail m))))

module _ (K : Side) (M N : ℕ → Bool) (v : ℕ) (placed : (e : ℕ) → e < K.m → K.rank e < empty_rank) (hM : deg K M v ≤ K.quota v)
    (hN : deg K N v ≤ K.quota v) where
  -- the ranks that M has alone, that N has alone, that both have
  module _ (xs ys zs : List ℕ) (hx : (φ : ℕ → ℕ) → sum φ xs ≡ sum (λ e. φ (K.rank e)) (alone K v M N))
      (hy : (φ : ℕ → ℕ) → sum φ ys ≡ sum (λ e. φ (K.rank e)) (alone K v N M))
      (hz : (φ : ℕ → ℕ) → sum φ zs ≡ sum (λ e. φ (K.rank e)) (common K v M N))
      (sx : Sorted (λ a. a) xs) (sy : Sorted (λ a. a) ys) (lx : (a : ℕ) → a ∈ xs → a ≤ empty_rank) (ly : (a : ℕ) → a ∈ ys → a ≤ empty_rank) where
    abbrev k : ℕ
    k = max (length xs) (length ys)

    abbrev chosen : List (ℕ × ℕ)
    chosen = greedy (fill k xs) (fill k ys)

    -- any list of keys in order with those of the shared ranks and of the greedy pairs
    module _ (ws : List ℕ) (sw : Sorted (λ a. a) ws) (lw : (a : ℕ) → a ∈ ws → a ≤ empty_key)
        (hw : (φ : ℕ → ℕ) → sum φ ws ≡ sum (λ a. φ (key (a, a))) zs + sum (λ c. φ (key c)) chosen) where
      abbrev b : ℕ
      b = K.quota v
