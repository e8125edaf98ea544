-- What the list of a node's rank pairs is (W-208), for readers: as many pairs as the node has places; their votes are the node's vote; a valid
-- pairing that reaches the vote has this list, and none that does has a smaller one; ranks are those of edges or of empty places.
use Rattle.std.specs.Prelude.{ℕ, ◌≤◌, ◌<◌, ◌≡◌, refl, Bool, not, length, T, ◌≤ℤ◌}
use Rattle.std.proofs.Common.{arith, ◌∙◌, subst}
use Rattle.std.proofs.Math.Path.{sym, ap, ap₂}
use mathlib.Core.List.Memᴰ
use mathlib.Core.List.{map}
use Rattle.std.proofs.Math.IntN.{sub_ℕ}
use Rattle.std.specs.Int.Signed.{≤ℤ_refl}
use Rattle.lists.specs.Sum.{◌∈◌, sum, sum_map, sum_length}
use Rattle.lists.specs.Integer.{≤_sub}
use Rattle.model.specs.Limits.{empty_rank}
use Rattle.model.specs.Instance.{Side, deg}
use Rattle.model.specs.Vote.{Place, edge, empty, rank_vote, place_rank, places_at, Pairing, valid_pairings, sumℤ, place_vote, node_vote}
use Rattle.model.specs.Facing.{rank_pair, rank_pairs, smaller, reaching, facing}
use Rattle.theory_votes.specs.Score.{rate, mark, score}
use Rattle.theory_votes.specs.Fair.{Fair, left_here, right_here, score_≤}
use Rattle.theory_votes.specs.Signed.{node_vote_score, sum_sub, rank_vote_rate}
use Rattle.theory_votes.specs.PairOrder.{sum_by_key, by_key_∈, order_is, never_smaller}
use Rattle.theory_votes.specs.Reaching.{signed, among, fair, low_pairs, reaches, fits, is_valid, most_score, facing_of, facing_fits, facing_≤}

module _ (K : Side) (M N : ℕ → Bool) (v : ℕ) (placed : (e : ℕ) → e < K.m → K.rank e < empty_rank) (hM : deg K M v ≤ K.quota v)
    (hN : deg K N v ≤ K.quota v) where
  -- "for each place"
  pub facing_length : length (facing K M N v) ≡ K.quota v
  facing_length = (facing_fits K M N v placed hM hN).0

  -- the sum of a pairing that reaches the vote, counted from one up
  reached_score : (r : Pairing) (i : r ∈ reaching K M N v) → sum (mark K.rank) r ≡ score K M N v
  reached_score r i = omega (
    arith,
    most_score K M N v placed hM hN r i,
    score_≤ K M N v r (fair K M N v placed hM hN r (is_valid K M N v placed hM hN r i)),
  )

  -- "a pairing that reaches it"
  abbrev Reaching : Pairing → Type 0
  Reaching r = (r ∈ valid_pairings K M N v) × (sumℤ (place_vote K.rank) r ≡ node_vote K M N v)

  pub facing_reaches : (r : Pairing) × Reaching r × (rank_pairs K.rank r ≡ facing K M N v)
  facing_reaches =
      let (r, i, e) = facing_of K M N v placed hM hN in
      let m = is_valid K M N v placed hM hN r i in (
        r,
        (
          m,
          signed K M N v placed hM hN r (among K M N v placed hM hN r m) ∙ ap (λ z. sub_ℕ z (K.quota v)) (reached_score r i)
              ∙ sym (node_vote_score K M N v hM hN),
        ),
        e,
      )

  -- "smallest entry by entry"
  pub facing_smallest : (r : Pairing) → Reaching r → T (not (smaller (rank_pairs K.rank r) (facing K M N v)))
  facing_smallest r (m, e) = never_smaller (rank_pairs K.rank r) (facing K M N v) (fits K M N v placed hM hN r m).1
      (facing_fits K M N v placed hM hN).1 (facing_≤ K M N v placed hM hN r (reaches K M N v placed hM hN r m below))
    where
      same : sub_ℕ (sum (mark K.rank) r) (K.quota v) ≡ sub_ℕ (score K M N v) (K.quota v)
      same = sym (signed K M N v placed hM hN r (among K M N v placed hM hN r m)) ∙ e ∙ node_vote_score K M N v hM hN

      below : sum (mark K.rank) r ≤ score K M N v
      below = omega (
        arith,
        ≤_sub (sum (mark K.rank) r) (K.quota v) (score K M N v) (K.quota v)
            (subst (λ z. sub_ℕ (sum (mark K.rank) r) (K.quota v) ≤ℤ z) same (≤ℤ_refl (sub_ℕ (sum (mark K.rank) r) (K.quota v)))),
      )

  pub facing_votes : sumℤ (λ c. rank_vote c.0 c.1) (facing K M N v) ≡ node_vote K M N v
  unfolding mark
  facing_votes =
      let (r, i, e) = facing_of K M N v placed hM hN in
      let pairs = map (rank_pair K.rank) r in
      let low = low_pairs K M N v placed hM hN r (is_valid K M N v placed hM hN r i) in
      let s : sum (λ c. rate c.0 c.1) (facing K M N v) ≡ score K M N v =
      ap (sum (λ c. rate c.0 c.1)) (sym e ∙ order_is pairs low) ∙ sum_by_key (λ c. rate c.0 c.1) pairs
      ∙ sum_map (λ c. rate c.0 c.1) (rank_pair K.rank) r ∙ reached_score r i in
      sum_sub (λ c. rank_vote c.0 c.1) (λ c. rate c.0 c.1) (λ c. 1) (facing K M N v) (λ c j. rank_vote_rate c.0 c.1)
      ∙ ap₂ sub_ℕ s (sym (sum_length (facing K M N v)) ∙ facing_length) ∙ sym (node_vote_score K M N v hM hN)

  -- a rank counts from 1; that of an empty place is the last
  module _ (from-1 : (e : ℕ) → e < K.m → 0 < K.rank e) where
    abbrev Rank : ℕ → Type 0
    Rank a = (0 < a) × (a ≤ empty_rank)

    pub facing_ranks : (c : ℕ × ℕ) → c ∈ facing K M N v → Rank c.0 × Rank c.1
    facing_ranks c j =
        let (r, i, e) = facing_of K M N v placed hM hN in
        let m = is_valid K M N v placed hM hN r i in
        let k = by_key_∈ c (map (rank_pair K.rank) r)
        (subst (λ z. c ∈ z) (sym e ∙ order_is (map (rank_pair K.rank) r) (low_pairs K M N v placed hM hN r m)) j) in
        let (p, h, q) = Memᴰ.of_map (rank_pair K.rank) r k in
        subst (λ c. Rank c.0 × Rank c.1) q (on_left r (fair K M N v placed hM hN r m) p h, on_right r (fair K M N v placed hM hN r m) p h)
      where
        of : (p : Place) → ((d : ℕ) → p ≡ edge d → d < K.m) → Rank (place_rank K.rank p)
        of (edge d) h = (from-1 d (h d refl), omega (arith, placed d (h d refl)))
        of empty h = (omega arith, omega arith)

        on_left : (r : Pairing) → Fair M N (places_at K M v) (places_at K N v) r → (p : Place × Place) → p ∈ r → Rank (place_rank K.rank p.0)
        on_left r f p h = of p.0 (λ d e. (left_here K M N v r f p h d e).2)

        on_right : (r : Pairing) → Fair M N (places_at K M v) (places_at K N v) r → (p : Place × Place) → p ∈ r → Rank (place_rank K.rank p.1)
        on_right r f p h = of p.1 (λ d e. (right_here K M N v r f p h d e).2)
