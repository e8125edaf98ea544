-- The theorems that rest on specs/Keys.antt. They stand here so that a wrong definition there is refused by a proof.
use Rattle.std.specs.Prelude.{ℕ, ◌+◌, ◌-◌, ◌*◌, ◌≤◌, ◌<◌, max, ◌≡◌, Bool, List, [], ◌∷◌, ◌++◌, map, length, replicate}
use native.Mathlib.Omega.{arith}
use Rattle.std.proofs.Common.{sym, ap, ◌∙◌, subst}
use mathlib.Core.List.Memᴰ
use Rattle.lists.specs.Sum.{◌∈◌, sum, sum_append, sum_map, sum_length, sum_replicate}
use Rattle.model.specs.Limits.{empty_rank}
use Rattle.model.specs.Instance.{Side, deg}
use Rattle.model.specs.Facing.{facing, facing_bytes}
use Rattle.theory_votes.specs.Attained.{common, alone}
use Rattle.theory_votes.specs.Sorted.{Sorted, sorted_filled, sorted_same}
use Rattle.theory_votes.specs.NodeByRotation.{fill, most}
use Rattle.theory_votes.specs.RankPairs.{key, by_key}
use Rattle.theory_votes.specs.Greedy.{greedy}
use Rattle.theory_votes.specs.PairOrder.{sum_by_key, sorted_by_key}
use Rattle.theory_votes.specs.PairingPairs.{fixed, fixed_sum}
use Rattle.theory_votes.specs.Reaching.{facing_fits}
use Rattle.theory_votes.specs.FacingLaws.{facing_length}
use Rattle.theory_votes.proofs.NodePairs.{facing_is}
use Rattle.theory_votes.specs.Keys.{empty_key, fill_keys, key_bytes, key_bytes_law}

sorted_keys : (cs : List (ℕ × ℕ)) → Sorted key cs → Sorted (λ z. z) (map key cs)
sorted_keys [] s = tt
sorted_keys (c ∷ cs) s = (λ z m. let (d, k, e) = Memᴰ.of_map key cs m in omega (arith, s.0 d k), sorted_keys cs s.1)

module _ (K : Side) (M N : ℕ → Bool) (v : ℕ) (placed : (e : ℕ) → e < K.m → K.rank e < empty_rank) (hM : deg K M v ≤ K.quota v)
    (hN : deg K N v ≤ K.quota v) where
  module _ (xs ys zs : List ℕ) (hx : (φ : ℕ → ℕ) → sum φ xs ≡ sum (λ e. φ (K.rank e)) (alone K v M N))
      (hy : (φ : ℕ → ℕ) → sum φ ys ≡ sum (λ e. φ (K.rank e)) (alone K v N M))
      (hz : (φ : ℕ → ℕ) → sum φ zs ≡ sum (λ e. φ (K.rank e)) (common K v M N))
      (sx : Sorted (λ a. a) xs) (sy : Sorted (λ a. a) ys) (lx : (a : ℕ) → a ∈ xs → a ≤ empty_rank) (ly : (a : ℕ) → a ∈ ys → a ≤ empty_rank) where
    abbrev k : ℕ
    k = max (length xs) (length ys)

    abbrev chosen : List (ℕ × ℕ)
    chosen = greedy (fill k xs) (fill k ys)

    width : k ≡ most K M N v
    unfolding most
    width = omega (
      arith,
      hx (λ a. 1),
      hy (λ a. 1),
      sum_length xs,
      sum_length ys,
      sum_length (alone K v M N),
      sum_length (alone K v N M),
    )

    module _ (ws : List ℕ) (sw : Sorted (λ a. a) ws) (lw : (a : ℕ) → a ∈ ws → a ≤ empty_key)
        (hw : (φ : ℕ → ℕ) → sum φ ws ≡ sum (λ a. φ (key (a, a))) zs + sum (λ c. φ (key c)) chosen) where
      abbrev b : ℕ
      b = K.quota v

      pub facing_keys : map key (facing K M N v) ≡ fill_keys b ws
      facing_keys = sorted_same (map key (facing K M N v)) (fill_keys b ws)
          (subst (λ l. Sorted (λ a. a) (map key l)) (sym is) (sorted_keys (by_key all) (sorted_by_key all)))
          (sorted_filled ws (b - length ws) empty_key sw lw) sums
        where
          all : List (ℕ × ℕ)
          all = fixed K M N v ++ chosen

          is : facing K M N v ≡ by_key all
          is = facing_is K M N v placed hM hN xs ys hx hy
              (subst (λ n. Sorted (λ a. a) (fill n xs)) width (sorted_filled xs (k - length xs) empty_rank sx lx))
              (subst (λ n. Sorted (λ a. a) (fill n ys)) width (sorted_filled ys (k - length ys) empty_rank sy ly))
              ∙ ap (λ n. by_key (fixed K M N v ++ greedy (fill n xs) (fill n ys))) (sym width)

          of_all : (ψ : ℕ × ℕ → ℕ) → sum ψ (facing K M N v) ≡ sum (λ e. ψ (K.rank e, K.rank e)) (common K v M N)
              + (b - (length (common K v M N) + most K M N v)) * ψ (empty_rank, empty_rank) + sum ψ chosen
          of_all ψ = ap (sum ψ) is ∙ sum_by_key ψ all ∙ sum_append ψ (fixed K M N v) chosen ∙ ap (λ z. z + sum ψ chosen) (fixed_sum K M N v ψ)

          -- how many places are empty in both
          spare : b - (length (common K v M N) + most K M N v) ≡ b - length ws
          spare = omega (
            arith,
            of_all (λ c. 1),
            sum_length (facing K M N v),
            facing_length K M N v placed hM hN,
            sum_length (common K v M N),
            hw (λ a. 1),
            hz (λ a. 1),
            sum_length ws,
          )

          sums : (φ : ℕ → ℕ) → sum φ (map key (facing K M N v)) ≡ sum φ (fill_keys b ws)
          sums φ = omega (
            arith,
            sum_map φ key (facing K M N v),
            of_all (λ c. φ (key c)),
            hz (λ a. φ (key (a, a))),
            hw φ,
            sum_append φ ws (replicate (b - length ws) empty_key),
            sum_replicate φ (b - length ws) empty_key,
            ap (λ n. n * φ empty_key) spare,
          )

      -- the ranks of these keys, filled up to the quota, are the bytes of the node's pairing
      pub facing_key_bytes : key_bytes (fill_keys b ws) ≡ facing_bytes (facing K M N v)
      facing_key_bytes = ap key_bytes (sym facing_keys) ∙ key_bytes_law (facing K M N v) (facing_fits K M N v placed hM hN).1
