-- The theorems that rest on specs/NodePairs.antt. They stand here so that a wrong definition there is refused by a proof.
use Prim.Native.Nat.{ℕ, ◌+◌, ◌-◌, ◌*◌, ◌≤◌, ◌<◌, max}
use native.Mathlib.Omega.{arith}
use Rattle.std.proofs.Math.Decide.{dec_lt}
use Rattle.std.specs.Prelude.{◌≡◌, Bool, not, ◌&&◌, List, [], ◌∷◌, ◌++◌, map, length, eqb, leb, ◌≤ℤ◌}
use Rattle.std.proofs.Math.Path.{refl, sym, ap, ap₂, subst}
use Rattle.std.proofs.Common.{◌∙◌, le-leb}
use Rattle.std.proofs.Math.Logic.{by_cases}
use Rattle.std.proofs.lemmas.Bool.{lt-leb}
use Rattle.std.proofs.Math.IntN.{sub_ℕ}
use Rattle.std.specs.Int.Signed.{≤ℤ_refl}
use Rattle.lists.specs.Test.{bit, eqb_yes, eqb_no}
use Rattle.lists.specs.Sum.{◌∈◌, sum, sum_append, sum_map, sum_cong, sum_mem, sum_length, sum_zeros, up_to, up_to_<}
use Rattle.lists.specs.Keep.{keep, ∈_keep}
use Rattle.lists.specs.Integer.{≤_sub}
use Rattle.model.specs.Limits.{empty_rank}
use Rattle.model.specs.Instance.{Side, deg}
use Rattle.model.specs.Vote.{Place, place_rank, places_at, Pairing, pairings, valid, node_vote}
use Rattle.model.specs.Facing.{rank_pair, in_order, reaching, facing}
use Rattle.theory_votes.specs.Score.{rate, mark, score}
use Rattle.theory_votes.specs.Fair.{Fair, fair_valid}
use Rattle.theory_votes.specs.Attained.{common, alone}
use Rattle.theory_votes.specs.Signed.{node_vote_score}
use Rattle.theory_votes.specs.Rate.{rate_same}
use Rattle.theory_votes.specs.Sorted.{Sorted}
use Rattle.theory_votes.specs.Rotation.{cost, Columns}
use Rattle.theory_votes.specs.Least.{least_sum}
use Rattle.theory_votes.specs.NodeByRotation.{fill, least_vote, filled_sum, fill_sum}
use Rattle.theory_votes.proofs.NodeByRotation.{node_vote_least}
use Rattle.theory_votes.specs.NodeByRotation.{most, filled_m, filled_n, room, whole, whole_sum, whole_fair}
use Rattle.theory_votes.specs.RankPairs.{by_key, LexLe, lex_trans, put_mono, by_key_≤}
use Rattle.theory_votes.specs.Greedy.{greedy}
use Rattle.theory_votes.proofs.Greedy.{greedy_reaches, greedy_least}
use Rattle.theory_votes.specs.PairOrder.{Low, sum_by_key, by_key_length, by_key_∈, order_is, sorted_by_key, sorted_same, lex_same}
use Rattle.theory_votes.specs.PairingPairs as P
use Rattle.theory_votes.proofs.PairingPairs as PLaws
use Rattle.theory_votes.specs.Lift.{lift}
use Rattle.theory_votes.specs.Reaching as R

-- ---- pairs that both lists have
with_all : (cs xs ys : List (ℕ × ℕ)) → length xs ≡ length ys → LexLe (by_key xs) (by_key ys) → LexLe (by_key (cs ++ xs)) (by_key (cs ++ ys))
with_all [] xs ys l h = h
with_all (c ∷ cs) xs ys l h = put_mono c (by_key (cs ++ xs)) (by_key (cs ++ ys))
    (omega (
      arith,
      by_key_length (cs ++ xs),
      by_key_length (cs ++ ys),
      sum_length (cs ++ xs),
      sum_length (cs ++ ys),
      sum_append (λ c. 1) cs xs,
      sum_append
          (λ c. 1) cs ys,
      sum_length xs,
      sum_length ys,
    )) (with_all cs xs ys l h)

module _ (K : Side) (M N : ℕ → Bool) (v : ℕ) (placed : (e : ℕ) → e < K.m → K.rank e < empty_rank) (hM : deg K M v ≤ K.quota v)
    (hN : deg K N v ≤ K.quota v) where
  -- as in PairingPairs, at this node
  abbrev pairs_of : Pairing → List (ℕ × ℕ)
  pairs_of r = map (rank_pair K.rank) r

  abbrev k : ℕ
  k = most K M N v

  abbrev d : ℕ
  d = P.d K M N v

  abbrev fixed : List (ℕ × ℕ)
  fixed = P.fixed K M N v

  module _ (xs ys : List ℕ) (hx : (φ : ℕ → ℕ) → sum φ xs ≡ sum (λ e. φ (K.rank e)) (alone K v M N))
      (hy : (φ : ℕ → ℕ) → sum φ ys ≡ sum (λ e. φ (K.rank e)) (alone K v N M))
      (sx : Sorted (λ a. a) (fill k xs)) (sy : Sorted (λ a. a) (fill k ys)) where
    abbrev chosen : List (ℕ × ℕ)
    chosen = greedy (fill k xs) (fill k ys)

    abbrev given : List (ℕ × ℕ)
    given = by_key (fixed ++ chosen)

    lengths : (length xs ≡ length (alone K v M N)) × (length ys ≡ length (alone K v N M))
    lengths = (omega (arith, hx (λ a. 1), sum_length xs, sum_length (alone K v M N)), omega (arith, hy (λ a. 1), sum_length ys, sum_length (alone K v N M)))

    full : (length (fill k xs) ≡ k) × (length (fill k ys) ≡ k)
    unfolding most
    full = (
      omega (arith, sum_length (fill k xs), fill_sum (λ a. 1) k xs, sum_length xs, lengths),
      omega (arith, sum_length (fill k ys), fill_sum (λ a. 1) k ys, sum_length ys, lengths),
    )

    alone_low : (A B : ℕ → Bool) (e : ℕ) → e ∈ alone K v A B → K.rank e < empty_rank
    alone_low A B e i = placed e (up_to_< K.m (∈_keep (λ d. (A d && not (B d)) && eqb (K.end d) v) (up_to K.m) i).0)

    -- all ranks on the right are below 64
    small : (y : ℕ) → y ∈ fill k ys → y < 64
    small y i = by_cases (dec_lt y 64) (λ l. l) (λ n. absurd (omega (
      arith,
      sum_mem (λ a. bit (eqb a y)) i,
      ap bit (eqb_yes y y refl),
      fill_sum (λ a. bit (eqb a y)) k ys,
      hy (λ a. bit (eqb a y)),
      sum_zeros (λ e. bit (eqb (K.rank e) y)) (alone K v N M) (λ e j. ap bit (eqb_no (K.rank e) y (omega (arith, alone_low N M e j)))),
      ap (λ b. (k - length ys) * bit b) (eqb_no empty_rank y (omega arith)),
    )))

    -- the score is the least sum and what is empty on both sides or shared
    score_least : score K M N v + k ≡ least_sum (fill k xs) (fill k ys) + K.quota v
    unfolding least_vote most
    score_least =
        let e : node_vote K M N v ≡ sub_ℕ (least_sum (fill k xs) (fill k ys)) k = node_vote_least K M N v placed hM hN xs ys hx hy
        ∙ ap (λ n. sub_ℕ (least_sum (fill n xs) (fill n ys)) n) (ap₂ max lengths.0 lengths.1) in
        let s : sub_ℕ (score K M N v) (K.quota v) ≡ sub_ℕ (least_sum (fill k xs) (fill k ys)) k = sym (node_vote_score K M N v hM hN) ∙ e in
        omega (
          arith,
          ≤_sub (score K M N v) (K.quota v) (least_sum (fill k xs) (fill k ys)) k
              (subst (λ z. sub_ℕ (score K M N v) (K.quota v) ≤ℤ z) s (≤ℤ_refl (sub_ℕ (score K M N v) (K.quota v)))),
          ≤_sub (least_sum (fill k xs) (fill k ys)) k (score K M N v) (K.quota v)
              (subst (λ z. z ≤ℤ sub_ℕ (score K M N v) (K.quota v)) s (≤ℤ_refl (sub_ℕ (score K M N v) (K.quota v)))),
        )

    fixed_cost : sum (λ c. rate c.0 c.1) fixed ≡ length (common K v M N) + d
    fixed_cost = omega (
      arith,
      P.fixed_sum K M N v (λ c. rate c.0 c.1),
      sum_cong (λ e. rate (K.rank e) (K.rank e)) (λ e. 1) (common K v M N) (λ e i. rate_same (K.rank e) (K.rank e) refl),
      sum_length (common K v M N),
      ap (λ z. d * z) (rate_same empty_rank empty_rank refl),
    )

    marks : (r : Pairing) → sum (mark K.rank) r ≡ sum (λ c. rate c.0 c.1) (pairs_of r)
    unfolding mark
    marks r = sym (sum_map (λ c. rate c.0 c.1) (rank_pair K.rank) r)

    -- ---- a pairing that reaches the vote
    module _ (r : Pairing) (i : r ∈ reaching K M N v) where
      among : r ∈ pairings (places_at K M v) (places_at K N v)
      among = R.among K M N v placed hM hN r (R.is_valid K M N v placed hM hN r i)

      fair : Fair M N (places_at K M v) (places_at K N v) r
      fair = R.fair K M N v placed hM hN r (R.is_valid K M N v placed hM hN r i)

      low : Low (pairs_of r)
      low = R.low_pairs K M N v placed hM hN r (R.is_valid K M N v placed hM hN r i)

      -- its pairs but for the fixed ones
      others : List (ℕ × ℕ)
      others = P.u K M N v placed hM hN r among fair

      -- the given list is not greater
      not_greater : LexLe given (in_order (pairs_of r))
      unfolding others
      not_greater = subst (LexLe given) (sym (order_is (pairs_of r) low ∙ whole_order))
          (with_all fixed chosen others sizes_same
          (lex_trans (by_key chosen) chosen (by_key others) (by_key_≤ chosen)
          (greedy_least (fill k xs) (fill k ys) sx sy small (full.0 ∙ sym full.1) (by_key others)
          (sorted_by_key others) cols dear)))
        where
          shares : (φ : ℕ × ℕ → ℕ) → sum φ (pairs_of r) ≡ sum φ fixed + sum φ others
          shares = PLaws.split K M N v placed hM hN r among fair

          C : Columns (λ a. a) (fill k xs) (fill k ys) others
          C = PLaws.columns K M N v placed hM hN r among fair xs ys hx hy

          cols : Columns (λ a. a) (fill k xs) (fill k ys) (by_key others)
          cols = record {
            on_left = λ φ. sum_by_key (λ c. φ c.0) others ∙ C.on_left φ;
            on_right = λ φ. sum_by_key (λ c. φ c.1) others ∙ C.on_right φ;
          }

          dear : cost (λ a. a) (by_key others) ≤ least_sum (fill k xs) (fill k ys)
          dear = omega (
            arith,
            sum_by_key (λ c. rate c.0 c.1) others,
            shares (λ c. rate c.0 c.1),
            marks r,
            fixed_cost,
            R.most_score K M N v placed hM hN r i,
            score_least,
            room K M N v placed hM hN,
          )

          sizes_same : length chosen ≡ length others
          sizes_same = omega (
            arith,
            sum_length chosen,
            sum_length others,
            C.on_left (λ a. 1),
            (greedy_reaches
                (fill k xs) (fill k ys) (full.0 ∙ sym full.1)).0.on_left (λ a. 1),
          )

          low_all : Low (fixed ++ others)
          low_all c j = by_cases (dec_lt c.1 64) (λ l. l) (λ n. absurd (omega (
            arith,
            sum_mem high j,
            high_yes c n,
            sum_append high fixed others,
            shares high,
            sum_zeros high (pairs_of r) (λ b i. high_no b (low b i)),
          )))
            where
              high : ℕ × ℕ → ℕ
              high c = bit (leb 64 c.1)

              high_yes : (c : ℕ × ℕ) → ¬ (c.1 < 64) → high c ≡ 1
              high_yes c n = ap bit (le-leb 64 c.1 (omega arith))

              high_no : (c : ℕ × ℕ) → c.1 < 64 → high c ≡ 0
              high_no c l = ap bit (lt-leb 64 c.1 l)

          whole_order : by_key (pairs_of r) ≡ by_key (fixed ++ others)
          whole_order = sorted_same (by_key (pairs_of r)) (by_key (fixed ++ others))
              (λ c j. low c (by_key_∈ c (pairs_of r) j))
              (λ c j. low_all c (by_key_∈ c (fixed ++ others) j))
              (sorted_by_key (pairs_of r)) (sorted_by_key (fixed ++ others))
              (λ φ. sum_by_key φ (pairs_of r) ∙ shares φ
              ∙ sym (sum_append φ fixed others)
              ∙ sym (sum_by_key φ (fixed ++ others)))

    -- and it is the list of one of them
    reached : (t : Pairing) × (t ∈ reaching K M N v) × (in_order (pairs_of t) ≡ given)
    unfolding filled_m filled_n whole
    reached =
        let g = greedy_reaches (fill k xs) (fill k ys) (full.0 ∙ sym full.1) in
        let (r, h, s) = lift K.rank (filled_m K M N v) (filled_n K M N v) chosen
        (λ φ. g.0.on_left φ ∙ fill_sum φ k xs ∙ ap₂ (λ a n. a + (k - n) * φ empty_rank) (hx φ) lengths.0 ∙ sym (filled_sum K.rank φ k (alone K v M N)))
        (λ φ. g.0.on_right φ ∙ fill_sum φ k ys ∙ ap₂ (λ a n. a + (k - n) * φ empty_rank) (hy φ) lengths.1
        ∙ sym (filled_sum K.rank φ k (alone K v N M))) in
        let w = whole K M N v placed hM hN r h in
        let (t, i, q) = fair_valid M N (places_at K M v) (places_at K N v) w (whole_fair K M N v placed hM hN r h) in
        finish r h s w refl t i q g.1
      where
        finish : (r : Pairing) (h : Columns (place_rank K.rank) (filled_m K M N v) (filled_n K M N v) r) → ((φ : ℕ × ℕ → ℕ) → sum φ (pairs_of r) ≡ sum φ chosen)
            → (w : Pairing) → w ≡ whole K M N v placed hM hN r h → (t : Pairing) → t ∈ keep (valid M N) (pairings (places_at K M v) (places_at K N v))
            → ((g : Place × Place → ℕ) → sum g t ≡ sum g w)
            → cost (λ a. a) chosen ≤ least_sum (fill k xs) (fill k ys) → (t : Pairing) × (t ∈ reaching K M N v) × (in_order (pairs_of t) ≡ given)
        finish r h s w e t i q c = (t, in_reaching, order)
          where
            low : Low (pairs_of t)
            low = R.low_pairs K M N v placed hM hN t i

            sums : (φ : ℕ × ℕ → ℕ) → sum φ (pairs_of t) ≡ sum φ fixed + sum φ chosen
            sums φ = omega (
              arith,
              sum_map φ (rank_pair K.rank) t,
              sum_map φ (rank_pair K.rank) r,
              q (λ c. φ (rank_pair K.rank c)),
              ap (sum (λ c. φ (rank_pair K.rank c))) e,
              whole_sum K M N v placed hM hN r h (λ c. φ (rank_pair K.rank c)),
              s φ,
              P.fixed_sum K M N v φ,
            )

            in_reaching : t ∈ reaching K M N v
            in_reaching = R.reaches K M N v placed hM hN t i
                (omega (arith, marks t, sums (λ c. rate c.0 c.1), fixed_cost, score_least, room K M N v placed hM hN))

            order : in_order (pairs_of t) ≡ given
            order = order_is (pairs_of t) low
                ∙ sorted_same (by_key (pairs_of t)) given (λ c j. low c (by_key_∈ c (pairs_of t) j)) low_given
                (sorted_by_key (pairs_of t)) (sorted_by_key (fixed ++ chosen))
                (λ φ. sum_by_key φ (pairs_of t) ∙ sums φ ∙ sym (sum_append φ fixed chosen) ∙ sym (sum_by_key φ (fixed ++ chosen)))
              where
                high : ℕ × ℕ → ℕ
                high c = bit (leb 64 c.1)

                high_yes : (c : ℕ × ℕ) → ¬ (c.1 < 64) → high c ≡ 1
                high_yes c n = ap bit (le-leb 64 c.1 (omega arith))

                high_no : (c : ℕ × ℕ) → c.1 < 64 → high c ≡ 0
                high_no c l = ap bit (lt-leb 64 c.1 l)

                low_given : Low given
                low_given c j = by_cases (dec_lt c.1 64) (λ l. l) (λ n. absurd (omega (
                  arith,
                  sum_mem high j,
                  high_yes c n,
                  sum_by_key high (fixed ++ chosen),
                  sum_append high fixed chosen,
                  sums high,
                  sum_zeros high (pairs_of t) (λ b i. high_no b (low b i)),
                )))

    pub facing_is : facing K M N v ≡ given
    facing_is = go (R.facing_of K M N v placed hM hN) reached
      where
        go : (r : Pairing) × (r ∈ reaching K M N v) × (in_order (pairs_of r) ≡ facing K M N v)
            → (t : Pairing) × (t ∈ reaching K M N v) × (in_order (pairs_of t) ≡ given) → facing K M N v ≡ given
        go (r, j, q) (t, i, e) =
            let fs = R.facing_fits K M N v placed hM hN in
            let ft = subst (λ z. (length z ≡ K.quota v) × Low z) e (R.fits K M N v placed hM hN t (R.is_valid K M N v placed hM hN t i)) in
            lex_same (facing K M N v) given fs.1 ft.1 (fs.0 ∙ sym ft.0)
            (subst (LexLe (facing K M N v)) e (R.facing_≤ K M N v placed hM hN t i)) (subst (LexLe given) q (not_greater r j))
