-- The theorems that rest on specs/NodeByRotation.antt. They stand here so that a wrong definition there is refused by a proof.
use Rattle.std.specs.Prelude.{ℕ, ◌+◌, ◌-◌, ◌*◌, ◌≤◌, ◌<◌, max, ◌≡◌, Bool, ◌&&◌, leb, ◌+ℤ◌}
use native.Mathlib.Omega.{arith}
use Rattle.std.proofs.Math.Decide.{dec_lt}
use Rattle.std.proofs.Math.Path.{sym, ap, ap₂, subst}
use Rattle.std.proofs.Common.{◌∙◌}
use Rattle.std.proofs.Math.Logic.{by_cases}
use Rattle.std.proofs.Math.Bool.{not}
use mathlib.Core.List.{List}
use Rattle.std.proofs.Math.ListN.{length}
use Rattle.std.proofs.Math.Dec.{eqb}
use Rattle.std.proofs.Math.IntN.{sub_ℕ, +ℤ_idr}
use Rattle.lists.specs.Test.{bit_one}
use Rattle.lists.specs.Sum.{◌∈◌, sum, sum_add, sum_cong, sum_zero, sum_zeros, sum_length, up_to, up_to_<}
use Rattle.lists.specs.Keep.{∈_keep}
use Rattle.lists.specs.Integer.{sub_add, sub_self}
use Rattle.model.specs.Limits.{empty_rank}
use Rattle.model.specs.Instance.{Side, deg}
use Rattle.model.specs.Vote.{Place, edge, empty, place_rank, places, Pairing}
use Rattle.model.specs.Vote.{node_vote}
use Rattle.theory_votes.specs.Score.{mark, mark_same, score}
use Rattle.theory_votes.specs.Fair.{score_≤}
use Rattle.theory_votes.specs.Attained.{common, alone}
use Rattle.theory_votes.specs.Signed.{node_vote_score}
use Rattle.theory_votes.specs.Two.{two, both_≤}
use Rattle.theory_votes.specs.Rate.{upto, under, upto_yes, upto_no, under_yes, under_no, bar, bars}
use Rattle.theory_votes.specs.Sorted.{uptos, unders}
use Rattle.theory_votes.specs.Rotation.{lead, cost, Columns, below_none}
use Rattle.theory_votes.proofs.Rotation.{reach}
use Rattle.theory_votes.specs.Least.{least_sum, Below}
use Rattle.theory_votes.proofs.Least.{least_two}
use Rattle.theory_votes.specs.NodeByRotation.{fill, fill_sum, filled_m, filled_n, filled_sum, least_vote, most, room, t, under_score, whole, whole_fair, whole_sum}

two_cut : (a b d e c : ℕ) → a - b ≤ c → d - e ≤ c → a + d ≤ c + (b + e) → (a - b) + (d - e) ≤ c
two_cut a b d e c h k l = omega arith

module _ (K : Side) (M N : ℕ → Bool) (v : ℕ) where
  module _ (placed : (e : ℕ) → e < K.m → K.rank e < empty_rank) (hM : deg K M v ≤ K.quota v) (hN : deg K N v ≤ K.quota v) where
    module _ (r : Pairing) (h : Columns (place_rank K.rank) (filled_m K M N v) (filled_n K M N v) r) where
      over_score : score K M N v ≤ cost (place_rank K.rank) r + (K.quota v - (most K M N v))
      unfolding mark
      over_score = omega (
        arith,
        score_≤ K M N v (whole K M N v placed hM hN r h) (whole_fair K M N v placed hM hN r h),
        (whole_sum K M N v placed hM hN r h) (mark K.rank),
        sum_cong (λ e. mark K.rank (edge e, edge e)) (λ e. 1) (common K v M N) (λ e k. mark_same K.rank (edge e)),
        sum_length (common K v M N),
        mark_same K.rank empty,
        (room K M N v placed hM hN),
      )

    alone_placed : (A B : ℕ → Bool) (e : ℕ) → e ∈ alone K v A B → K.rank e < empty_rank
    alone_placed A B e k = placed e (up_to_< K.m (∈_keep (λ d. (A d && not (B d)) && eqb (K.end d) v) (up_to K.m) k).0)

    -- ---- the leads of the filled lists are those of the unshared edges
    leads : (x : ℕ) → x < 34 → lead (place_rank K.rank) (filled_m K M N v) (filled_n K M N v) x
        ≡ sum (λ e. upto x (K.rank e)) (alone K v M N) - sum (λ e. under x (K.rank e)) (alone K v N M)
    unfolding most filled_m filled_n
    leads x h = by_cases (dec_lt x empty_rank)
        (λ l. omega (arith, up, down, none (most K M N v - length (alone K v M N)) (upto_no x empty_rank l), last))
        (λ l. omega (
          arith,
          up,
          down,
          one (most K M N v - length (alone K v M N)) (upto_yes x empty_rank (omega arith)),
          last,
          all_up (omega arith),
          all_down
              (omega arith),
        ))
      where
        none : (n : ℕ) {u : ℕ} → u ≡ 0 → n * u ≡ 0
        none n e = let z : n * 0 ≡ 0 = omega arith in ap (λ u. n * u) e ∙ z

        one : (n : ℕ) {u : ℕ} → u ≡ 1 → n * u ≡ n
        one n e = let z : n * 1 ≡ n = omega arith in ap (λ u. n * u) e ∙ z

        up : uptos (place_rank K.rank) (filled_m K M N v) x ≡ sum (λ e. upto x (K.rank e)) (alone K v M N) + (most K M N v - length (alone K v M N)) * upto x empty_rank
        up = filled_sum K.rank (upto x) (most K M N v) (alone K v M N)

        down : unders (place_rank K.rank) (filled_n K M N v) x ≡ sum (λ e. under x (K.rank e)) (alone K v N M) + (most K M N v - length (alone K v N M)) * under x empty_rank
        down = filled_sum K.rank (under x) (most K M N v) (alone K v N M)

        last : (most K M N v - length (alone K v N M)) * under x empty_rank ≡ 0
        last = none (most K M N v - length (alone K v N M)) (under_no x empty_rank (omega arith))

        all_up : x ≡ 33 → sum (λ e. upto x (K.rank e)) (alone K v M N) ≡ length (alone K v M N)
        all_up q = sum_cong (λ e. upto x (K.rank e)) (λ e. 1) (alone K v M N) (λ e k. upto_yes x (K.rank e) (omega (arith, alone_placed M N e k)))
            ∙ sym (sum_length (alone K v M N))

        all_down : x ≡ 33 → sum (λ e. under x (K.rank e)) (alone K v N M) ≡ length (alone K v N M)
        all_down q = sum_cong (λ e. under x (K.rank e)) (λ e. 1) (alone K v N M)
            (λ e k. under_yes x (K.rank e) (omega (arith, alone_placed N M e k))) ∙ sym (sum_length (alone K v N M))

    -- ---- the score, and the vote
    filled_length : (k : ℕ) (es : List ℕ) → length es ≤ k → length (places k es) ≡ k
    filled_length k es h = omega (arith, sum_length (places k es), filled_sum K.rank (λ a. 1) k es, sum_length es)

    under_most : K.quota v - (most K M N v) ≤ score K M N v
    unfolding most
    under_most = omega (arith, under_score K M N v placed hM hN (λ a. 0) (λ b. 0) (λ a b. omega arith) (λ a. omega arith), sum_zero (alone K v M N), sum_zero (alone K v N M))

    one_lead : (x : ℕ) → x < 34 → lead (place_rank K.rank) (filled_m K M N v) (filled_n K M N v) x ≤ score K M N v - (K.quota v - (most K M N v))
    unfolding most
    one_lead x h = omega (arith, leads x h, under_most, under_score K M N v placed hM hN (upto x) (under x) (bar x) (λ a. omega (arith, bit_one (leb a x))))

    two_leads : (x y : ℕ) → x < y → y < 34
        → lead (place_rank K.rank) (filled_m K M N v) (filled_n K M N v) x + lead (place_rank K.rank) (filled_m K M N v) (filled_n K M N v) y ≤ score K M N v - (K.quota v - (most K M N v))
    unfolding most
    two_leads x y l h = rw (leads x (omega arith), leads y h) (two_cut
        (sum (λ e. upto x (K.rank e)) (alone K v M N)) (sum (λ e. under x (K.rank e)) (alone K v N M))
        (sum (λ e. upto y (K.rank e)) (alone K v M N)) (sum (λ e. under y (K.rank e)) (alone K v N M)) (score K M N v - (K.quota v - (most K M N v)))
        (rw (← leads x (omega arith)) (one_lead x (omega arith))) (rw (← leads y h) (one_lead y h)) crossed)
      where
        crossed : sum (λ e. upto x (K.rank e)) (alone K v M N) + sum (λ e. upto y (K.rank e)) (alone K v M N)
            ≤ score K M N v - (K.quota v - (most K M N v)) + (sum (λ e. under x (K.rank e)) (alone K v N M) + sum (λ e. under y (K.rank e)) (alone K v N M))
        crossed = omega (
          arith,
          under_most,
          (under_score K M N v placed hM hN) (λ a. upto x a + upto y a) (λ b. under x b + under y b) (λ a b. bars x y a b l)
              (λ a. omega (arith, bit_one (leb a x), bit_one (leb a y))),
          sum_add (λ e. upto x (K.rank e)) (λ e. upto y (K.rank e)) (alone K v M N),
          sum_add (λ e. under x (K.rank e)) (λ e. under y (K.rank e)) (alone K v N M),
        )

    score_two : score K M N v ≡ (t K M N v placed hM hN).first + (t K M N v placed hM hN).second + (K.quota v - (most K M N v))
    unfolding most filled_m filled_n
    score_two =
        let (r, c, h) = reach (place_rank K.rank) 34 (filled_m K M N v) (filled_n K M N v)
        (filled_length (most K M N v) (alone K v M N) (omega arith) ∙ sym (filled_length (most K M N v) (alone K v N M) (omega arith))) below (t K M N v placed hM hN) in
        omega (arith, over_score r c, under_most, (t K M N v placed hM hN).both (score K M N v - (K.quota v - (most K M N v))) one_lead two_leads)
      where
        below : (q : Place) → q ∈ (filled_n K M N v) → place_rank K.rank q < 34
        below = below_none (place_rank K.rank) 34 (filled_n K M N v) (omega (
          arith,
          filled_sum K.rank (λ a. upto a 34) (most K M N v) (alone K v N M),
          sum_zeros (λ e. upto (K.rank e) 34) (alone K v N M) (λ e k. upto_no (K.rank e) 34 (omega (arith, alone_placed N M e k))),
        ))

    module _ (xs ys : List ℕ) (hx : (φ : ℕ → ℕ) → sum φ xs ≡ sum (λ e. φ (K.rank e)) (alone K v M N))
        (hy : (φ : ℕ → ℕ) → sum φ ys ≡ sum (λ e. φ (K.rank e)) (alone K v N M)) where
      sizes : (length xs ≡ length (alone K v M N)) × (length ys ≡ length (alone K v N M))
      sizes = (omega (arith, hx (λ a. 1), sum_length xs, sum_length (alone K v M N)), omega (arith, hy (λ a. 1), sum_length ys, sum_length (alone K v N M)))

      size : max (length xs) (length ys) ≡ most K M N v
      unfolding most
      size = omega (arith, sizes)

      fill_lead : (x : ℕ) → lead (λ a. a) (fill (most K M N v) xs) (fill (most K M N v) ys) x ≡ lead (place_rank K.rank) (filled_m K M N v) (filled_n K M N v) x
      unfolding filled_m filled_n
      fill_lead x = omega (
        arith,
        fill_sum (upto x) (most K M N v) xs,
        fill_sum (under x) (most K M N v) ys,
        filled_sum K.rank (upto x) (most K M N v) (alone K v M N),
        filled_sum K.rank (under x) (most K M N v) (alone K v N M),
        hx (upto x),
        hy (under x),
        ap (λ z. (most K M N v - z) * upto x empty_rank) sizes.0,
        ap (λ z. (most K M N v - z) * under x empty_rank) sizes.1,
      )

      fill_least : least_sum (fill (most K M N v) xs) (fill (most K M N v) ys) ≡ (t K M N v placed hM hN).first + (t K M N v placed hM hN).second
      unfolding most
      fill_least =
          let s = two (lead (λ a. a) (fill (most K M N v) xs) (fill (most K M N v) ys)) 34 in
          omega (
            arith,
            least_two 34 (fill (most K M N v) xs) (fill (most K M N v) ys) (filled xs (omega (arith, sizes)) ∙ sym (filled ys (omega (arith, sizes)))) below s,
            both_≤ (lead (λ a. a) (fill (most K M N v) xs) (fill (most K M N v) ys)) (lead (place_rank K.rank) (filled_m K M N v) (filled_n K M N v)) 34 s (t K M N v placed hM hN) (λ x k. fill_lead x),
            both_≤ (lead (place_rank K.rank) (filled_m K M N v) (filled_n K M N v)) (lead (λ a. a) (fill (most K M N v) xs) (fill (most K M N v) ys)) 34 (t K M N v placed hM hN) s (λ x k. sym (fill_lead x)),
          )
        where
          filled : (zs : List ℕ) → length zs ≤ most K M N v → length (fill (most K M N v) zs) ≡ most K M N v
          filled zs h = omega (arith, sum_length (fill (most K M N v) zs), fill_sum (λ a. 1) (most K M N v) zs, sum_length zs)

          below : Below 34 (fill (most K M N v) ys)
          below = below_none (λ a. a) 34 (fill (most K M N v) ys) (omega (
            arith,
            fill_sum (λ a. upto a 34) (most K M N v) ys,
            hy (λ a. upto a 34),
            sum_zeros (λ e. upto (K.rank e) 34) (alone K v N M) (λ e k. upto_no (K.rank e) 34 (omega (arith, alone_placed N M e k))),
          ))

      -- the node's vote is the least sum of votes between the ranks that M has alone there and those that N has alone
      pub node_vote_least : node_vote K M N v ≡ least_vote xs ys
      unfolding least_vote
      node_vote_least =
          let d = K.quota v - (most K M N v) in
          let S : score K M N v ≡ least_sum (fill (most K M N v) xs) (fill (most K M N v) ys) + d = omega (arith, score_two, fill_least) in
          let Q : K.quota v ≡ most K M N v + d = omega (arith, room K M N v placed hM hN) in
          subst (λ k. node_vote K M N v ≡ sub_ℕ (least_sum (fill k xs) (fill k ys)) k) (sym size)
          (node_vote_score K M N v hM hN ∙ ap₂ sub_ℕ S Q ∙ sym (sub_add (least_sum (fill (most K M N v) xs) (fill (most K M N v) ys)) (most K M N v) d d)
          ∙ ap (λ z. sub_ℕ (least_sum (fill (most K M N v) xs) (fill (most K M N v) ys)) (most K M N v) +ℤ z) (sub_self d) ∙ +ℤ_idr (sub_ℕ (least_sum (fill (most K M N v) xs) (fill (most K M N v) ys)) (most K M N v)))
