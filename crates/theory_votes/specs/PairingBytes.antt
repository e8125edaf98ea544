-- How many bytes the pairings of a vote have, and that each is a rank.
use Rattle.std.specs.Prelude.{ℕ, ◌+◌, ◌*◌, ◌≤◌, ◌<◌, ◌≡◌, refl, Bool, List, [], ◌∷◌, length}
use native.Mathlib.Omega.{arith}
use Rattle.std.proofs.Common.{sym, ap, ◌∙◌, subst}
use Rattle.std.proofs.Math.Logic.{⊎_elim}
use mathlib.Core.List.Memᴰ
use Rattle.std.proofs.Math.ListN.{length-append}
use Rattle.lists.specs.Sum.{◌∈◌, sum, sum_cong, sum_length, range, sum_range, up_to}
use Rattle.lists.specs.Keep.{gather_∈, sum_gather}
use Rattle.model.specs.Limits.{empty_rank, pairing_size, quota_sum_limit}
use Rattle.model.specs.Instance.{Instance, Side, surveyors, stands}
use Rattle.model.specs.Facing.{facing, facing_bytes, side_bytes, pairing_bytes}
use Rattle.theory_instance.specs.Lawful.{Lawful, Within, Matching}
use Rattle.theory_votes.specs.FacingLaws.{facing_length, facing_ranks}

pub facing_bytes_length : (cs : List (ℕ × ℕ)) → length (facing_bytes cs) ≡ 2 * length cs
facing_bytes_length [] = refl
facing_bytes_length (c ∷ cs) = omega (arith, facing_bytes_length cs)

module _ (K : Side) (M N : ℕ → Bool) (placed : (e : ℕ) → e < K.m → K.rank e < empty_rank) (hM : Within K M) (hN : Within K N) where
  -- the pairings of one side take two bytes for each place of its quotas
  pub side_bytes_length : length (side_bytes K M N) ≡ 2 * sum K.quota (up_to K.n)
  side_bytes_length = sum_length (side_bytes K M N) ∙ sum_gather (λ b. 1) (λ v. facing_bytes (facing K M N v)) (range 0 K.n)
      ∙ sum_cong (λ v. sum (λ b. 1) (facing_bytes (facing K M N v))) (λ v. 2 * K.quota v) (range 0 K.n) (λ v m. node v)
      ∙ twice (range 0 K.n) ∙ ap (λ z. 2 * z) (sum_range K.quota K.n)
    where
      node : (v : ℕ) → sum (λ b. 1) (facing_bytes (facing K M N v)) ≡ 2 * K.quota v
      node v = omega (
        arith,
        sum_length (facing_bytes (facing K M N v)),
        facing_bytes_length (facing K M N v),
        facing_length K M N v placed (hM v) (hN v),
      )

      twice : (vs : List ℕ) → sum (λ v. 2 * K.quota v) vs ≡ 2 * sum K.quota vs
      twice [] = refl
      twice (v ∷ vs) = omega (arith, twice vs)

  module _ (from-1 : (e : ℕ) → e < K.m → 0 < K.rank e) where
    pub side_bytes_ranks : (b : ℕ) → b ∈ side_bytes K M N → (0 < b) × (b ≤ empty_rank)
    side_bytes_ranks b m =
        let (v, i, h) = gather_∈ (λ v. facing_bytes (facing K M N v)) (range 0 K.n) m in
        let (c, j, k) = gather_∈ (λ c. c.0 ∷ c.1 ∷ []) (facing K M N v) h in
        of c (facing_ranks K M N v placed (hM v) (hN v) from-1 c j) k
      where
        of : (c : ℕ × ℕ) → ((0 < c.0) × (c.0 ≤ empty_rank)) × ((0 < c.1) × (c.1 ≤ empty_rank)) → b ∈ (c.0 ∷ c.1 ∷ []) → (0 < b) × (b ≤ empty_rank)
        of c (l, r) (Memᴰ.head e) = subst (λ z. (0 < z) × (z ≤ empty_rank)) (sym e) l
        of c (l, r) (Memᴰ.tail (Memᴰ.head e)) = subst (λ z. (0 < z) × (z ≤ empty_rank)) (sym e) r
        of c (l, r) (Memᴰ.tail (Memᴰ.tail k)) = absurd (Memᴰ.not-nil k)

-- ---- both sides
module _ (G : Instance) (M N : ℕ → Bool) (L : Lawful G) (pM : Matching G M) (pN : Matching G N) where
  pub pairing_bytes_length : length (pairing_bytes G M N) ≡ 2 * (sum G.quota_s (up_to G.ns) + sum G.quota_t (up_to G.nt))
  unfolding pairing_bytes
  pairing_bytes_length = omega (
    arith,
    length-append (side_bytes (surveyors G) M N) (side_bytes (stands G) M N),
    side_bytes_length (surveyors G) M N L.at_s.placed pM.at_s pN.at_s,
    side_bytes_length (stands G) M N L.at_t.placed pM.at_t pN.at_t,
  )

  -- "a buffer of 256 bytes"
  pub pairing_bytes_fit : sum G.quota_s (up_to G.ns) ≤ quota_sum_limit → sum G.quota_t (up_to G.nt) ≤ quota_sum_limit
      → length (pairing_bytes G M N) ≤ pairing_size
  pairing_bytes_fit h k = omega (arith, pairing_bytes_length)

  -- where ranks count from 1, each byte is a rank, from 1 to that of an empty place
  pub pairing_bytes_ranks : ((e : ℕ) → e < G.m → (0 < G.rank_s e) × (0 < G.rank_t e)) → (b : ℕ) → b ∈ pairing_bytes G M N → (0 < b) × (b ≤ empty_rank)
  unfolding pairing_bytes
  pairing_bytes_ranks from-1 b m = ⊎_elim
      (side_bytes_ranks (surveyors G) M N L.at_s.placed pM.at_s pN.at_s (λ e h. (from-1 e h).0) b)
      (side_bytes_ranks (stands G) M N L.at_t.placed pM.at_t pN.at_t (λ e h. (from-1 e h).1) b)
      (Memᴰ.append_cases (side_bytes (surveyors G) M N) m)
