-- The pairings that reach a node's vote, and the list that the model gives of them: it is the list of one of them, has as many pairs as the node
-- has places, and none of them has a smaller one.
use Rattle.std.specs.Prelude.{ℕ, ◌≤◌, ◌<◌, ◌≡◌, Bool, List, [], ◌∷◌, map, length, T, ◌≤ℤ◌}
use Rattle.std.proofs.Common.{arith, sym, ap, ◌∙◌, subst}
use mathlib.Core.List.Memᴰ
use Rattle.std.proofs.Math.IntN.{sub_ℕ}
use Rattle.std.specs.Int.Signed.{le_z, le_z_yes}
use Rattle.lists.specs.Sum.{◌∈◌, sum, sum_map, sum_length}
use Rattle.lists.specs.Keep.{keep_∈, ∈_keep}
use Rattle.lists.specs.Integer.{≤_sub, sub_≤}
use Rattle.model.specs.Limits.{empty_rank}
use Rattle.model.specs.Instance.{Side, deg}
use Rattle.model.specs.Vote.{places_at, Pairing, pairings, valid, valid_pairings, sumℤ, place_vote, node_vote}
use Rattle.model.specs.Facing.{rank_pair, rank_pairs, smallest_of, reaching, facing}
use Rattle.theory_votes.specs.Score.{mark, score}
use Rattle.theory_votes.specs.Places.{pairing_length, node_places}
use Rattle.theory_votes.specs.Fair.{Fair, valid_fair, fair_valid}
use Rattle.theory_votes.specs.Attained.{attained}
use Rattle.theory_votes.specs.Signed.{node_vote_score, sum_sub, place_vote_mark}
use Rattle.theory_votes.specs.RankPairs.{LexLe}
use Rattle.theory_votes.specs.PairOrder.{Low, by_key_length, by_key_∈, order_is, smallest_ok}
use Rattle.theory_votes.specs.PairingPairs.{low_rank}

abbrev Fit : ℕ → List (ℕ × ℕ) → Type 0
Fit n z = (length z ≡ n) × Low z

smallest_of_ok : (n : ℕ) (ls : List (List (ℕ × ℕ))) → ((z : List (ℕ × ℕ)) → z ∈ ls → Fit n z) → (y : List (ℕ × ℕ)) → y ∈ ls
    → (smallest_of ls ∈ ls) × ((z : List (ℕ × ℕ)) → z ∈ ls → LexLe (smallest_of ls) z)
smallest_of_ok n [] f y m = absurd (Memᴰ.not-nil m)
smallest_of_ok n (l ∷ ls) f y m = smallest_ok n l ls f

module _ (K : Side) (M N : ℕ → Bool) (v : ℕ) (placed : (e : ℕ) → e < K.m → K.rank e < empty_rank) (hM : deg K M v ≤ K.quota v)
    (hN : deg K N v ≤ K.quota v) where
  abbrev Listed : Pairing → Type 0
  Listed r = r ∈ pairings (places_at K M v) (places_at K N v)

  -- the signed sum of a pairing, counted from one up
  pub signed : (r : Pairing) → Listed r → sumℤ (place_vote K.rank) r ≡ sub_ℕ (sum (mark K.rank) r) (K.quota v)
  signed r m = sum_sub (place_vote K.rank) (mark K.rank) (λ c. 1) r (λ c i. place_vote_mark K.rank c)
      ∙ ap (λ z. sub_ℕ (sum (mark K.rank) r) z) (pairing_length (places_at K M v) (places_at K N v) r m ∙ node_places K M v hM)

  -- ---- a valid pairing
  module _ (r : Pairing) (i : r ∈ valid_pairings K M N v) where
    pub among : Listed r
    among = (∈_keep (valid M N) (pairings (places_at K M v) (places_at K N v)) i).0

    pub fair : Fair M N (places_at K M v) (places_at K N v) r
    fair = valid_fair M N (places_at K M v) (places_at K N v) r (node_places K M v hM ∙ sym (node_places K N v hN)) among
        (∈_keep (valid M N) (pairings (places_at K M v) (places_at K N v)) i).1

    pub low_pairs : Low (map (rank_pair K.rank) r)
    low_pairs = low_rank K M N v placed hM hN r fair

    -- with no more than the score it reaches the vote
    pub reaches : sum (mark K.rank) r ≤ score K M N v → r ∈ reaching K M N v
    reaches h = keep_∈ (λ r. le_z (sumℤ (place_vote K.rank) r) (node_vote K M N v)) (valid_pairings K M N v) i
        (subst (λ z. T (le_z z (node_vote K M N v))) (sym (signed r among))
        (subst (λ z. T (le_z (sub_ℕ (sum (mark K.rank) r) (K.quota v)) z)) (sym (node_vote_score K M N v hM hN))
        (sub_≤ (sum (mark K.rank) r) (K.quota v) (score K M N v) (K.quota v) (omega arith)).le))

    pub fits : Fit (K.quota v) (rank_pairs K.rank r)
    fits =
        let pairs = map (rank_pair K.rank) r in (
          ap length (order_is pairs low_pairs) ∙ by_key_length pairs ∙ sum_length pairs ∙ sum_map (λ c. 1) (rank_pair K.rank) r
              ∙ pairing_length (places_at K M v) (places_at K N v) r among ∙ node_places K M v hM,
          subst Low (sym (order_is pairs low_pairs)) (λ c j. low_pairs c (by_key_∈ c pairs j)),
        )

  -- ---- one that reaches the vote
  module _ (r : Pairing) (i : r ∈ reaching K M N v) where
    pub is_valid : r ∈ valid_pairings K M N v
    is_valid = (∈_keep (λ r. le_z (sumℤ (place_vote K.rank) r) (node_vote K M N v)) (valid_pairings K M N v) i).0

    pub most_score : sum (mark K.rank) r ≤ score K M N v
    most_score =
        let below = (∈_keep (λ r. le_z (sumℤ (place_vote K.rank) r) (node_vote K M N v)) (valid_pairings K M N v) i).1 in
        omega (
          arith,
          ≤_sub (sum (mark K.rank) r) (K.quota v) (score K M N v) (K.quota v)
              (subst (λ z. z ≤ℤ sub_ℕ (score K M N v) (K.quota v)) (signed r (among r is_valid))
              (subst (λ z. sumℤ (place_vote K.rank) r ≤ℤ z) (node_vote_score K M N v hM hN) (le_z_yes below))),
        )

  some_reaches : (r : Pairing) × (r ∈ reaching K M N v)
  some_reaches =
      let (r, m, f, e) = attained K M N v hM hN in
      let (t, i, q) = fair_valid M N (places_at K M v) (places_at K N v) r f in
      (t, reaches t i (omega (arith, q (mark K.rank))))

  -- ---- the list that is given
  lists_fit_law : (z : List (ℕ × ℕ)) → z ∈ map (rank_pairs K.rank) (reaching K M N v) → Fit (K.quota v) z
  lists_fit_law z j =
      let (r, i, e) = Memᴰ.of_map (rank_pairs K.rank) (reaching K M N v) j in
      subst (Fit (K.quota v)) e (fits r (is_valid r i))

  chosen : (facing K M N v ∈ map (rank_pairs K.rank) (reaching K M N v))
      × ((z : List (ℕ × ℕ)) → z ∈ map (rank_pairs K.rank) (reaching K M N v) → LexLe (facing K M N v) z)
  unfolding facing
  chosen =
      let (r, i) = some_reaches in
      smallest_of_ok (K.quota v) (map (rank_pairs K.rank) (reaching K M N v)) lists_fit_law (rank_pairs K.rank r) (Memᴰ.map (rank_pairs K.rank) i)

  pub facing_of : (r : Pairing) × (r ∈ reaching K M N v) × (rank_pairs K.rank r ≡ facing K M N v)
  facing_of = Memᴰ.of_map (rank_pairs K.rank) (reaching K M N v) chosen.0

  pub facing_fits : Fit (K.quota v) (facing K M N v)
  facing_fits = lists_fit_law (facing K M N v) chosen.0

  pub facing_≤ : (r : Pairing) → r ∈ reaching K M N v → LexLe (facing K M N v) (rank_pairs K.rank r)
  facing_≤ r i = chosen.1 (rank_pairs K.rank r) (Memᴰ.map (rank_pairs K.rank) i)
