-- The first element that passes a test, by its place: in a range, in a list given by its places, and in all couples of such a list.
use Prim.Native.Nat.{ℕ, zero, suc, ◌+◌, ◌≤◌, ◌<◌, zero-le}
use Rattle.std.proofs.Common.{arith, sym, ◌∙◌, subst}
use Rattle.std.specs.Prelude.{◌≡◌, Bool, not, T, ltb}
use Rattle.std.proofs.Math.Path.{refl, ap}
use Rattle.std.proofs.Math.Bool.{true, false, cond}
use Rattle.std.proofs.Math.Option.{none, some, or_else}
use mathlib.Core.List.Memᴰ
use mathlib.Core.List.{List, [], ◌∷◌, ◌++◌, map}
use borrow.Author.Tests.{ltb-true, ltb-false}
use Rattle.lists.specs.Test.{by_bool, T_true, T_false}
use Rattle.lists.specs.Sum.{◌∈◌, range, range_∈, ∈_range}
use Rattle.lists.specs.Keep.{gather, product, all?, all_∈, ∈_all, product_∈, ∈_product}
use Rattle.lists.specs.Search.{low, low_is}
use Rattle.lists.specs.First.{first}

module _ {A B : Type 0} where
  pub first_map : {C : Type 0} (p : A → Bool) (make : A → B) (g : C → A) (xs : List C) → first p make (map g xs) ≡ first (λ x. p (g x)) (λ x. make (g x)) xs
  unfolding first
  first_map p make g [] = refl
  first_map p make g (x ∷ xs) = ap (cond (p (g x)) (some (make (g x)))) (first_map p make g xs)

  first_append : (p : A → Bool) (make : A → B) (xs ys : List A) → first p make (xs ++ ys) ≡ or_else (first p make xs) (first p make ys)
  unfolding first or_else
  first_append p make [] ys = refl
  first_append p make (x ∷ xs) ys = go (p x) (first_append p make xs ys)
    where
      go : (b : Bool) → first p make (xs ++ ys) ≡ or_else (first p make xs) (first p make ys)
          → cond b (some (make x)) (first p make (xs ++ ys)) ≡ or_else (cond b (some (make x)) (first p make xs)) (first p make ys)
      go true e = refl
      go false e = e

-- ---- in a range
module _ {B : Type 0} (p : ℕ → Bool) (make : ℕ → B) where
  first_at : (i n k : ℕ) → i ≤ k → k < i + n → ((e : ℕ) → i ≤ e → e < k → p e ≡ false) → p k ≡ true → first p make (range i n) ≡ some (make k)
  unfolding first
  first_at i zero k l h f t = absurd (omega arith)
  first_at i (suc n) k l h f t = by_bool (ltb i k)
      (λ e. ap (λ b. cond b (some (make i)) (first p make (range (suc i) n))) (f i (omega arith) (ltb-true i k e))
      ∙ first_at (suc i) n k (ltb-true i k e) (omega arith) (λ d q r. f d (omega arith) r) t)
      (λ e. let q : i ≡ k = omega (arith, ltb-false i k e) in
      ap (λ b. cond b (some (make i)) (first p make (range (suc i) n))) (ap p q ∙ t) ∙ ap (λ z. some (make z)) q)

  first_past : (i n : ℕ) → ((e : ℕ) → i ≤ e → e < i + n → p e ≡ false) → first p make (range i n) ≡ none
  unfolding first
  first_past i zero f = refl
  first_past i (suc n) f =
      ap (λ b. cond b (some (make i)) (first p make (range (suc i) n))) (f i (omega arith) (omega arith))
      ∙ first_past (suc i) n (λ e q r. f e (omega arith) (omega arith))

  pub first_hit : (n : ℕ) → low p n < n → first p make (range 0 n) ≡ some (make (low p n))
  first_hit n h = let (a, b, c) = low_is p n in first_at 0 n (low p n) zero-le (omega arith) (λ e q r. T_false (b e r)) (T_true (c h))

  pub first_miss : (n : ℕ) → n ≤ low p n → first p make (range 0 n) ≡ none
  first_miss n h = let (a, b, c) = low_is p n in first_past 0 n (λ e q r. T_false (b e (omega arith)))

-- ---- in all couples of a list that is given by its places
module _ {B : Type 0} (p : ℕ × ℕ → Bool) (make : ℕ × ℕ → B) (g : ℕ → ℕ) (w : ℕ) where
  abbrev columns : List ℕ
  columns = map g (range 0 w)

  abbrev row_of : ℕ → List (ℕ × ℕ)
  row_of x = map (λ y. (x, y)) columns

  abbrev test : ℕ → ℕ → Bool
  test i j = p (g i, g j)

  row_first : (i : ℕ) → first p make (row_of (g i)) ≡ first (test i) (λ j. make (g i, g j)) (range 0 w)
  row_first i = first_map p make (λ y. (g i, y)) columns ∙ first_map (λ y. p (g i, y)) (λ y. make (g i, y)) g (range 0 w)

  rows_at : (i n k : ℕ) (h : B) → i ≤ k → k < i + n → ((e : ℕ) → i ≤ e → e < k → first p make (row_of (g e)) ≡ none)
      → first p make (row_of (g k)) ≡ some h → first p make (gather row_of (map g (range i n))) ≡ some h
  unfolding or_else
  rows_at i zero k h l m f t = absurd (omega arith)
  rows_at i (suc n) k h l m f t = first_append p make (row_of (g i)) (gather row_of (map g (range (suc i) n))) ∙ by_bool (ltb i k)
      (λ e. ap (λ o. or_else o (first p make (gather row_of (map g (range (suc i) n))))) (f i (omega arith) (ltb-true i k e))
      ∙ rows_at (suc i) n k h (ltb-true i k e) (omega arith) (λ d q r. f d (omega arith) r) t)
      (λ e. let q : i ≡ k = omega (arith, ltb-false i k e) in
      ap (λ o. or_else o (first p make (gather row_of (map g (range (suc i) n))))) (ap (λ z. first p make (row_of (g z))) q ∙ t))

  rows_past : (i n : ℕ) → ((e : ℕ) → i ≤ e → e < i + n → first p make (row_of (g e)) ≡ none) → first p make (gather row_of (map g (range i n))) ≡ none
  unfolding first or_else
  rows_past i zero f = refl
  rows_past i (suc n) f = first_append p make (row_of (g i)) (gather row_of (map g (range (suc i) n)))
      ∙ ap (λ o. or_else o (first p make (gather row_of (map g (range (suc i) n))))) (f i (omega arith) (omega arith))
      ∙ rows_past (suc i) n (λ e q r. f e (omega arith) (omega arith))

  -- the first row that has a column, and the column
  abbrev column : ℕ → ℕ
  column i = low (test i) w

  abbrev row : ℕ
  row = low (λ i. ltb (column i) w) w

  quiet : (e : ℕ) → ltb (column e) w ≡ false → first p make (row_of (g e)) ≡ none
  quiet e q = row_first e ∙ first_miss (test e) (λ j. make (g e, g j)) w (ltb-false (column e) w q)

  pub couple_hit : row < w → first p make (product (map g (range 0 w)) (map g (range 0 w))) ≡ some (make (g row, g (column row)))
  couple_hit h = let (a, b, c) = low_is (λ i. ltb (column i) w) w in
      rows_at 0 w row (make (g row, g (column row))) zero-le (omega arith) (λ e q r. quiet e (T_false (b e r)))
      (row_first row ∙ first_hit (test row) (λ j. make (g row, g j)) w (ltb-true (column row) w (T_true (c h))))

  pub couple_miss : w ≤ row → first p make (product (map g (range 0 w)) (map g (range 0 w))) ≡ none
  couple_miss h = let (a, b, c) = low_is (λ i. ltb (column i) w) w in rows_past 0 w (λ e q r. quiet e (T_false (b e (omega arith))))

-- all couples pass, or some row has one that does not
module _ (p : ℕ × ℕ → Bool) (g : ℕ → ℕ) (w : ℕ) where
  abbrev fails : ℕ → ℕ
  fails i = low (λ j. not (p (g i, g j))) w

  abbrev failing : ℕ
  failing = low (λ i. ltb (fails i) w) w

  member : (i : ℕ) → i < w → g i ∈ map g (range 0 w)
  member i h = Memᴰ.map g (range_∈ w 0 i zero-le (omega arith))

  pub all_miss : failing < w → all? p (product (map g (range 0 w)) (map g (range 0 w))) ≡ false
  all_miss h = by_bool (all? p (product (map g (range 0 w)) (map g (range 0 w))))
      (λ e. absurd (bad (subst T (sym e) tt)))
      (λ e. e)
    where
      bad : T (all? p (product (map g (range 0 w)) (map g (range 0 w)))) → ⊥
      bad t =
          let (a, b, c) = low_is (λ i. ltb (fails i) w) w in
          let l : fails failing < w = ltb-true (fails failing) w (T_true (c h)) in
          let (x, y, z) = low_is (λ j. not (p (g failing, g j))) w in
          clash (p (g failing, g (fails failing))) (z l)
          (all_∈ p (product (map g (range 0 w)) (map g (range 0 w))) t (g failing, g (fails failing))
          (product_∈ (map g (range 0 w)) (map g (range 0 w)) (member failing h) (member (fails failing) l)))
        where
          clash : (b : Bool) → T (not b) → T b → ⊥
          clash true n y = n
          clash false n y = y

  pub all_hit : w ≤ failing → all? p (product (map g (range 0 w)) (map g (range 0 w))) ≡ true
  all_hit h = T_true (∈_all p (product (map g (range 0 w)) (map g (range 0 w))) every)
    where
      passes : (i j : ℕ) → i < w → j < w → T (p (g i, g j))
      passes i j il jl =
          let (a, b, c) = low_is (λ i. ltb (fails i) w) w in
          let (x, y, z) = low_is (λ j. not (p (g i, g j))) w in
          twice (p (g i, g j)) (y j (omega (arith, ltb-false (fails i) w (T_false (b i (omega arith))))))
        where
          twice : (b : Bool) → T (not (not b)) → T b
          twice true t = tt
          twice false t = t

      every : (x : ℕ × ℕ) → x ∈ product (map g (range 0 w)) (map g (range 0 w)) → T (p x)
      every x m =
          let (s, t) = ∈_product x (map g (range 0 w)) (map g (range 0 w)) m in
          let (i, k, e) = Memᴰ.of_map g (range 0 w) s in
          let (j, l, d) = Memᴰ.of_map g (range 0 w) t in
          let (u, v) = ∈_range w 0 k in
          let (q, r) = ∈_range w 0 l in
          subst (λ z. T (p (z, x.1))) e (subst (λ z. T (p (g i, z))) d (passes i j (omega arith) (omega arith)))
