-- Two lists of equal length, set against each other after the first is turned by j places: b_i faces a_{i + j}. If both are in the order
-- of ranks, one of these turns has the least sum of votes of all ways to set them against each other. The sum is that of the two greatest
-- leads: the lead at x is how many more on the left have a rank of at most x than on the right a rank below x.
-- Why: a couple that crosses one bar counts 1, one that crosses two counts 2 (Rate), so no sum is below two leads. And if the second lead is
-- l, let the l best of the left face the l worst of the right: at most 2 each, and every lead falls by l, so that only one is left. Then, in
-- order, the best of both face each other: that costs nothing, or 1 if they are equal, and then the one lead falls by 1.
use Rattle.std.specs.Prelude.{ℕ, ◌+◌, ◌-◌, ◌*◌, ◌≤◌, ◌<◌, min, ◌≡◌, refl, List, [], ◌∷◌, ◌++◌, length, take, drop, leb}
use Rattle.std.proofs.Common.{zero-le, arith, ap, ◌∙◌, length-take, length-drop, take-append-drop}
use Rattle.std.proofs.Math.Decide.{dec_le, dec_lt}
use Rattle.std.proofs.Math.Logic.{by_cases}
use mathlib.Core.List.Memᴰ
use Rattle.lists.specs.Test.{bit_one}
use Rattle.lists.specs.Sum.{◌∈◌, sum, sum_append, sum_add, sum_mono, sum_length, sum_mem}
use Rattle.theory_votes.specs.Score.{rate}
use Rattle.theory_votes.specs.Two.{Two}
use Rattle.theory_votes.specs.Rate.{upto, under, upto_yes, upto_no, under_yes, under_no, rate_worse, rate_same, rate_≤, bar, bars}
use Rattle.theory_votes.specs.Sorted.{Sorted, uptos, unders, uptos_none, unders_none, uptos_drop, unders_take, ∈_take, sorted_take}
use Rattle.theory_votes.specs.Sorted.{sorted_drop}

-- what falls below both falls to nothing in one
min_falls : {a c : ℕ} (b d s : ℕ) → a ≤ b - s → c ≤ d - s → min b d ≤ s → min a c ≡ 0
min_falls b d s h k m = omega arith

-- ---- two lists, one against the other
module _ {A : Type 0} where
  -- two lists set against each other place by place, as far as both go
  abbrev pub against : List A → List A → List (A × A)
  against [] qs = []
  against (p ∷ ps) [] = []
  against (p ∷ ps) (q ∷ qs) = (p, q) ∷ against ps qs

  pub against_left : (φ : A → ℕ) (ps qs : List A) → length ps ≡ length qs → sum (λ c. φ c.0) (against ps qs) ≡ sum φ ps
  against_left φ [] qs l = refl
  against_left φ (p ∷ ps) [] l = absurd (omega arith)
  against_left φ (p ∷ ps) (q ∷ qs) l = ap (λ z. φ p + z) (against_left φ ps qs (omega arith))

  pub against_right : (φ : A → ℕ) (ps qs : List A) → length ps ≡ length qs → sum (λ c. φ c.1) (against ps qs) ≡ sum φ qs
  against_right φ [] [] l = refl
  against_right φ [] (q ∷ qs) l = absurd (omega arith)
  against_right φ (p ∷ ps) [] l = absurd (omega arith)
  against_right φ (p ∷ ps) (q ∷ qs) l = ap (λ z. φ q + z) (against_right φ ps qs (omega arith))

  pub against_≤ : (ps qs : List A) → length (against ps qs) ≤ length ps
  against_≤ [] qs = zero-le
  against_≤ (p ∷ ps) [] = zero-le
  against_≤ (p ∷ ps) (q ∷ qs) = omega (arith, against_≤ ps qs)

  against_append : (f : A × A → ℕ) (xs ys qs : List A)
      → sum f (against (xs ++ ys) qs) ≡ sum f (against xs (take (length xs) qs)) + sum f (against ys (drop (length xs) qs))
  against_append f [] ys qs = omega arith
  against_append f (x ∷ xs) [] [] = refl
  against_append f (x ∷ xs) (y ∷ ys) [] = refl
  against_append f (x ∷ xs) ys (q ∷ qs) = omega (arith, against_append f xs ys qs)

  -- the first list turned by j
  abbrev pub turned : ℕ → List A → List A
  turned j ps = drop j ps ++ take j ps

  pub turned_sum : (φ : A → ℕ) (j : ℕ) (ps : List A) → sum φ (turned j ps) ≡ sum φ ps
  turned_sum φ j ps = omega (arith, sum_append φ (drop j ps) (take j ps), sum_append φ (take j ps) (drop j ps), ap (sum φ) (take-append-drop j ps))

  -- a turn keeps the list's length
  pub turned_length : (j : ℕ) (ps : List A) → length (turned j ps) ≡ length ps
  turned_length j ps = omega (arith, turned_sum (λ p. 1) j ps, sum_length ps, sum_length (turned j ps))

module _ {A : Type 0} (rank : A → ℕ) where
  -- what some couples come to: the sum of their votes, each counted from one up
  abbrev pub cost : List (A × A) → ℕ
  cost r = sum (λ c. rate (rank c.0) (rank c.1)) r

  abbrev pub lead : List A → List A → ℕ → ℕ
  lead ps qs x = uptos rank ps x - unders rank qs x

  pub cost_≤ : (r : List (A × A)) → cost r ≤ 2 * length r
  cost_≤ [] = omega arith
  cost_≤ (c ∷ r) = omega (arith, cost_≤ r, rate_≤ (rank c.0) (rank c.1))

  -- couples have these lists for columns
  pub record Columns (ps qs : List A) (r : List (A × A)) : Type 0 where
    pub on_left : (φ : A → ℕ) → sum (λ c. φ c.0) r ≡ sum φ ps
    pub on_right : (φ : A → ℕ) → sum (λ c. φ c.1) r ≡ sum φ qs

  pub turned_columns : (j : ℕ) (ps qs : List A) → length ps ≡ length qs → Columns ps qs (against (turned j ps) qs)
  turned_columns j ps qs l =
      let e : length (turned j ps) ≡ length qs = turned_length j ps ∙ l in
      record { on_left = λ φ. against_left φ (turned j ps) qs e ∙ turned_sum φ j ps; on_right = λ φ. against_right φ (turned j ps) qs e }

  -- no sum is below one lead, nor below two
  module _ (ps qs : List A) (r : List (A × A)) (h : Columns ps qs r) where
    over_one : (x : ℕ) → lead ps qs x ≤ cost r
    over_one x = omega (
      arith,
      h.on_left (λ p. upto x (rank p)),
      h.on_right (λ q. under x (rank q)),
      sum_mono (λ c. upto x (rank c.0)) (λ c. rate (rank c.0) (rank c.1) + under x (rank c.1)) r (λ c k. bar x (rank c.0) (rank c.1)),
      sum_add (λ c. rate (rank c.0) (rank c.1)) (λ c. under x (rank c.1)) r,
    )

    over_two : (x y : ℕ) → x < y → lead ps qs x + lead ps qs y ≤ cost r
    over_two x y l = omega (
      arith,
      over_one x,
      over_one y,
      h.on_left (λ p. upto x (rank p)),
      h.on_right (λ q. under x (rank q)),
      h.on_left (λ p. upto y (rank p)),
      h.on_right (λ q. under y (rank q)),
      sum_add (λ c. upto x (rank c.0)) (λ c. upto y (rank c.0)) r,
      sum_mono (λ c. upto x (rank c.0) + upto y (rank c.0))
          (λ c. rate (rank c.0) (rank c.1) + (under x (rank c.1) + under y (rank c.1))) r (λ c k. bars x y (rank c.0) (rank c.1) l),
      sum_add (λ c. rate (rank c.0) (rank c.1)) (λ c. under x (rank c.1) + under y (rank c.1)) r,
      sum_add (λ c. under x (rank c.1)) (λ c. under y (rank c.1)) r,
    )

    pub over : (n : ℕ) (t : Two (lead ps qs) n) → t.first + t.second ≤ cost r
    over n t = t.both (cost r) (λ x k. over_one x) (λ x y l k. over_two x y l)

  -- ---- in order, if only one lead is above 0
  abbrev OneLead : (n c : ℕ) (ps qs : List A) → Type 0
  OneLead n c ps qs = ((x : ℕ) → x < n → lead ps qs x ≤ c) → ((x y : ℕ) → x < y → y < n → min (lead ps qs x) (lead ps qs y) ≡ 0) → cost (against ps qs) ≤ c

  in_order_law : (n c : ℕ) (ps qs : List A) → Sorted rank ps → Sorted rank qs → length ps ≡ length qs → ((q : A) → q ∈ qs → rank q < n) → OneLead n c ps qs
  in_order_law n c [] qs sp sq l u each alone = zero-le
  in_order_law n c (p ∷ ps) [] sp sq l u each alone = absurd (omega arith)
  in_order_law n c (p ∷ ps) (q ∷ qs) sp sq l u each alone =
      let rest : (c : ℕ) → OneLead n c ps qs = (λ c. in_order_law n c ps qs sp.1 sq.1 (omega arith) (λ r k. u r (Memᴰ.tail k))) in
      by_cases (dec_lt (rank q) (rank p)) (worse (rest c)) (better (rest (c - 1)))
    where
      -- below the first of each list nothing is counted
      before_p : (x : ℕ) → x < rank p → uptos rank ps x ≡ 0
      before_p x h = uptos_none rank ps x (λ r k. omega (arith, sp.0 r k))

      before_q : (x : ℕ) → x ≤ rank q → unders rank qs x ≡ 0
      before_q x h = unders_none rank qs x (λ r k. omega (arith, sq.0 r k))

      -- p faces a better q: no lead changes
      worse : OneLead n c ps qs → rank q < rank p → cost (against (p ∷ ps) (q ∷ qs)) ≤ c
      worse ih h = omega (
        arith,
        rate_worse (rank p) (rank q) h,
        ih (λ x k. omega (arith, same x, each x k)) (λ x y k m. omega (arith, same x, same y, alone x y k m)),
      )
        where
          same : (x : ℕ) → lead ps qs x ≡ lead (p ∷ ps) (q ∷ qs) x
          same x = by_cases (dec_le (rank p) x)
              (λ k. omega (arith, upto_yes x (rank p) k, under_yes x (rank q) (omega arith)))
              (λ k. omega (arith, upto_no x (rank p) (omega arith), before_p x (omega arith)))

      -- p faces a q that is no better: it is equal, or there would be two leads
      better : OneLead n (c - 1) ps qs → ¬ (rank q < rank p) → cost (against (p ∷ ps) (q ∷ qs)) ≤ c
      better ih h = omega (
        arith,
        rate_same (rank p) (rank q) equal,
        own,
        each (rank p) inside,
        ih (λ x k. omega (arith, falls x k, each x k))
            (λ x y k m. min_falls (lead (p ∷ ps) (q ∷ qs) x) (lead (p ∷ ps) (q ∷ qs) y) 1 (falls x (omega arith)) (falls y m) (omega (arith, alone x y k m))),
      )
        where
          inside : rank p < n
          inside = omega (arith, u q (Memᴰ.head refl))

          own : 1 ≤ lead (p ∷ ps) (q ∷ qs) (rank p)
          own = omega (arith, upto_yes (rank p) (rank p) (omega arith), under_no (rank p) (rank q) (omega arith), before_q (rank p) (omega arith))

          next : rank p < rank q → 1 ≤ lead (p ∷ ps) (q ∷ qs) (rank p + 1)
          next k = omega (
            arith,
            upto_yes (rank p + 1) (rank p) (omega arith),
            under_no (rank p + 1) (rank q) (omega arith),
            before_q (rank p + 1)
                (omega arith),
          )

          equal : rank p ≡ rank q
          equal = by_cases (dec_lt (rank p) (rank q))
              (λ k. absurd (omega (arith, own, next k, alone (rank p) (rank p + 1) (omega arith) (omega (arith, u q (Memᴰ.head refl))))))
              (λ k. omega arith)

          falls : (x : ℕ) → x < n → lead ps qs x ≤ lead (p ∷ ps) (q ∷ qs) x - 1
          falls x k = by_cases (dec_lt x (rank p))
              (λ m. omega (arith, before_p x m))
              (λ m. by_cases (dec_lt (rank p) x)
              (λ j. omega (arith, upto_yes x (rank p) (omega arith), under_yes x (rank q) (omega (arith, equal)), own, alone (rank p) x j k))
              (λ j. omega (arith, upto_yes x (rank p) (omega arith), under_no x (rank q) (omega (arith, equal)), before_q x (omega (arith, equal)))))

  -- ---- the turn by the second lead
  module _ (n : ℕ) (ps qs : List A) (sp : Sorted rank ps) (sq : Sorted rank qs) (l : length ps ≡ length qs) (u : (q : A) → q ∈ qs → rank q < n)
      (t : Two (lead ps qs) n) where
    some : (x : ℕ) → uptos rank ps x ≤ length ps
    some x = omega (arith, sum_mono (λ p. upto x (rank p)) (λ p. 1) ps (λ p k. bit_one (leb (rank p) x)), sum_length ps)

    pub second_≤ : t.second ≤ length ps
    second_≤ = omega (arith, t.order, t.most (length ps) (λ x k. omega (arith, some x)))

    pub turn_≤ : cost (against (turned t.second ps) qs) ≤ t.first + t.second
    turn_≤ = omega (
      arith,
      t.order,
      against_append (λ c. rate (rank c.0) (rank c.1)) back front qs,
      cost_≤ (against front (drop (length back) qs)),
      few,
      in_order_law n (t.first - t.second) back low (sorted_drop rank t.second ps sp) (sorted_take rank (length back) qs sq)
          (omega (arith, length-take (length back) qs, length-drop t.second ps)) (λ q k. u q (∈_take rank (length back) qs q k))
          (λ x k. omega (arith, lowered x, t.each x k))
          (λ x y k m. min_falls (lead ps qs x) (lead ps qs y) t.second (lowered x) (lowered y) (t.pair x y k m)),
    )
      where
        back : List A
        back = drop t.second ps

        front : List A
        front = take t.second ps

        low : List A
        low = take (length back) qs

        few : length (against front (drop (length back) qs)) ≤ t.second
        few = omega (arith, against_≤ front (drop (length back) qs), length-take t.second ps)

        lowered : (x : ℕ) → lead back low x ≤ lead ps qs x - t.second
        lowered x = omega (arith, uptos_drop rank ps t.second x sp, unders_take rank qs (length back) x sq, length-drop t.second ps, second_≤, some x)

  -- ---- whatever the order of the lists, some couples come to no more than the two greatest leads
  -- all ranks are below n if none is counted from n on
  pub below_none : (n : ℕ) (qs : List A) → sum (λ p. upto (rank p) n) qs ≡ 0 → (q : A) → q ∈ qs → rank q < n
  below_none n qs h q k = by_cases (dec_lt (rank q) n) (λ l. l)
      (λ l. absurd (omega (arith, sum_mem (λ p. upto (rank p) n) k, upto_yes (rank q) n (omega arith))))
