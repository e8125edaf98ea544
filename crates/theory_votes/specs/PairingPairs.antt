-- The rank pairs of a valid pairing at a node. Some every one of them has: shared edges against themselves, empty places against empty ones. The
-- others, of the edges that only one of the sets has, stand in two columns: the ranks of those edges, the shorter list filled up.
use Rattle.std.specs.Prelude.{ℕ, ◌+◌, ◌-◌, ◌*◌, ◌≤◌, ◌<◌, ◌≡◌, Bool, not, List, ◌++◌, map, replicate}
use native.Mathlib.Omega.{arith}
use Rattle.std.proofs.Math.Path.{refl, sym}
use Rattle.std.proofs.Common.{subst}
use Rattle.std.proofs.Math.Bool.{◌&&◌}
use mathlib.Core.List.Memᴰ
use Rattle.std.proofs.Math.ListN.{length}
use Rattle.lists.specs.Sum.{◌∈◌, sum, sum_append, sum_map, sum_replicate}
use Rattle.lists.specs.Keep.{keep}
use Rattle.model.specs.Limits.{empty_rank}
use Rattle.model.specs.Instance.{Side, deg}
use Rattle.model.specs.Vote.{Place, edge, empty, same, place_rank, places_at, Pairing, pairings, shared}
use Rattle.model.specs.Facing.{rank_pair}
use Rattle.theory_votes.specs.Fair.{Fair, right_here}
use Rattle.theory_votes.specs.Attained.{common}
use Rattle.theory_votes.specs.NodeByRotation.{most}
use Rattle.theory_votes.specs.PairOrder.{Low}

module _ (K : Side) (M N : ℕ → Bool) (v : ℕ) where
  abbrev pub pairs_of : Pairing → List (ℕ × ℕ)
  pairs_of r = map (rank_pair K.rank) r

  abbrev pub k : ℕ
  k = most K M N v

  abbrev pub d : ℕ
  d = K.quota v - (length (common K v M N) + k)

  -- what every valid pairing has
  abbrev pub fixed : List (ℕ × ℕ)
  fixed = map (λ e. (K.rank e, K.rank e)) (common K v M N) ++ replicate d (empty_rank, empty_rank)

  pub fixed_sum : (φ : ℕ × ℕ → ℕ) → sum φ fixed ≡ sum (λ e. φ (K.rank e, K.rank e)) (common K v M N) + d * φ (empty_rank, empty_rank)
  fixed_sum φ = omega (
    arith,
    sum_append φ (map (λ e. (K.rank e, K.rank e)) (common K v M N)) (replicate d (empty_rank, empty_rank)),
    sum_map φ (λ e. (K.rank e, K.rank e)) (common K v M N),
    sum_replicate φ d (empty_rank, empty_rank),
  )

  unfoldable pub plain : Place × Place → Bool
  plain c = not (shared M N c.0) && not (same c.0 empty && same c.1 empty)

  module _ (placed : (e : ℕ) → e < K.m → K.rank e < empty_rank) (hM : deg K M v ≤ K.quota v) (hN : deg K N v ≤ K.quota v) where
    -- ---- every valid pairing
    module _ (r : Pairing) (m : r ∈ pairings (places_at K M v) (places_at K N v)) (f : Fair M N (places_at K M v) (places_at K N v) r) where
      unfoldable pub u : List (ℕ × ℕ)
      u = pairs_of (keep plain r)

    -- ---- ranks are low, lists have the quota's length
    pub low_rank : (r : Pairing) → Fair M N (places_at K M v) (places_at K N v) r → Low (pairs_of r)
    low_rank r f c i = let (p, j, e) = Memᴰ.of_map (rank_pair K.rank) r i in subst (λ z. z.1 < 64) e (at p j p.1 refl)
      where
        at : (p : Place × Place) → p ∈ r → (q : Place) → p.1 ≡ q → place_rank K.rank p.1 < 64
        at p j (edge b) e = subst (λ z. place_rank K.rank z < 64) (sym e) (omega (arith, placed b (right_here K M N v r f p j b e).2))
        at p j empty e = subst (λ z. place_rank K.rank z < 64) (sym e) (omega arith)
