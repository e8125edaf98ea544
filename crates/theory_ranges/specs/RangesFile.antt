-- The ranges' file, range by range: the refusal that it meets, 0 for none, and the ranges that it holds.
use Prim.Native.Nat.{ℕ, zero, suc, ◌+◌, ◌-◌, ◌*◌, ◌≤◌, ◌<◌}
use native.Mathlib.Omega.{arith}
use Rattle.std.proofs.Math.Decide.{ℕ_discrete}
use Rattle.std.specs.Prelude.{◌≡◌, cond, ◌||◌, drop, T, eqb, ltb}
use Rattle.std.proofs.Math.Path.{refl, ap, ap₂}
use Rattle.std.proofs.Common.{sym, ◌∙◌, subst, drop_of_length-le, drop-cons, T_not, nltb→le}
use Rattle.std.proofs.Math.Logic.{by_cases}
use mathlib.Core.List.{List, [], ◌∷◌, map}
use Rattle.std.proofs.Math.ListN.{length, get_or, length-drop}
use Rattle.lists.specs.Test.{by_bool, false_t, nor_l, nor_r, eq→eqb}
use Rattle.model.specs.Reading.{Reading, accepted, refused, ◌then◌, refuse_by, two_bytes, read_each, whole}
use Rattle.model.specs.Roster.{Roster}
use Rattle.model.specs.Limits.{rank_limit}
use Rattle.model.specs.Ranges.{Range, range_of, ranges_in, range_at, range_check, entry_count, read_ranges}
use Rattle.theory_files.specs.Reads.{accepted_value, refused-not, refused_number}
use Rattle.theory_ranges.specs.Worst.{Fit}

-- the first refusal of two, 0 for none
abbrev pub or_else : ℕ → ℕ → ℕ
or_else zero n = n
or_else (suc m) n = suc m

-- n ranges, and nothing after them
unfoldable pub ranges_refusal : ℕ → List ℕ → ℕ
ranges_refusal zero [] = 0
ranges_refusal zero (x ∷ bs) = 9
ranges_refusal (suc n) [] = 1
ranges_refusal (suc n) (x ∷ []) = 1
ranges_refusal (suc n) (x ∷ y ∷ bs) = or_else (range_check (x, y)) (ranges_refusal n bs)

-- the ranges of n in front
unfoldable pub pairs_in : ℕ → List ℕ → List (ℕ × ℕ)
pairs_in zero bs = []
pairs_in (suc n) [] = []
pairs_in (suc n) (x ∷ []) = []
pairs_in (suc n) (x ∷ y ∷ bs) = (x, y) ∷ pairs_in n bs

abbrev read_in : ℕ → List ℕ → Reading (List (ℕ × ℕ) × List ℕ)
read_in n bs = read_each {S = Unit {0}} two_bytes (λ s w. range_check w) (λ s w. s) n tt bs

-- read with this refusal, 0 for none
abbrev pub reading_by : {A : Type 0} → ℕ → A → Reading A
reading_by zero a = accepted a
reading_by (suc n) a = refused (suc n)

more : (w : ℕ × ℕ) (r : Reading (List (ℕ × ℕ) × List ℕ)) (n : ℕ) (ps : List (ℕ × ℕ)) → whole r ≡ reading_by n ps
    → whole (r then (λ xs rest. accepted (w ∷ xs, rest))) ≡ reading_by n (w ∷ ps)
more w (accepted (xs, [])) zero ps e = ap (λ z. accepted (w ∷ z)) (accepted_value e)
more w (accepted (xs, [])) (suc n) ps e = refused-not (sym e)
more w (accepted (xs, x ∷ rest)) zero ps e = refused-not e
more w (accepted (xs, x ∷ rest)) (suc n) ps e = ap refused (refused_number e)
more w (refused k) zero ps e = refused-not e
more w (refused k) (suc n) ps e = ap refused (refused_number e)

-- what is read is settled by the refusal
ranges_read_law : (n : ℕ) (bs : List ℕ) → whole (read_in n bs) ≡ reading_by (ranges_refusal n bs) (pairs_in n bs)
unfolding read_each ranges_refusal pairs_in
ranges_read_law zero [] = refl
ranges_read_law zero (x ∷ bs) = refl
ranges_read_law (suc n) [] = refl
ranges_read_law (suc n) (x ∷ []) = refl
ranges_read_law (suc n) (x ∷ y ∷ bs) = go (range_check (x, y)) (ranges_read_law n bs)
  where
    go : (c : ℕ) → whole (read_in n bs) ≡ reading_by (ranges_refusal n bs) (pairs_in n bs)
        → whole (refuse_by c (read_in n bs then (λ xs rest. accepted ((x, y) ∷ xs, rest)))) ≡ reading_by (or_else c (ranges_refusal n bs)) ((x, y) ∷ pairs_in n bs)
    go zero ih = more (x, y) (read_in n bs) (ranges_refusal n bs) (pairs_in n bs) ih
    go (suc c) ih = refl

-- the n ranges in front of the file, low and high
abbrev pub ranges_of : ℕ → List ℕ → List Range
ranges_of n bs = map range_of (pairs_in n bs)

-- the model's reading of the file: that refusal, or those ranges where it is 0
pub read_is : (r : Roster) (bs : List ℕ) → read_ranges r bs ≡ reading_by (ranges_refusal (entry_count r) bs) (ranges_of (entry_count r) bs)
unfolding read_ranges
read_is r bs = ap ranges_in (ranges_read_law (entry_count r) bs) ∙ go (ranges_refusal (entry_count r) bs)
  where
    go : (c : ℕ) → ranges_in (reading_by c (pairs_in (entry_count r) bs)) ≡ reading_by c (ranges_of (entry_count r) bs)
    go zero = refl
    go (suc c) = refl

-- ---- a file that meets no refusal: so many ranges, byte by byte, each of them within the limits
pub record Taken (n : ℕ) (bs : List ℕ) : Type 0 where
  pub size : length bs ≡ 2 * n
  pub each : length (ranges_of n bs) ≡ n
  pub low : (k : ℕ) → k < n → (range_at (ranges_of n bs) k).low ≡ get_or bs (2 * k) 0
  pub high : (k : ℕ) → k < n → (range_at (ranges_of n bs) k).high ≡ get_or bs (2 * k + 1) 0
  pub from : (k : ℕ) → k < n → 1 ≤ get_or bs (2 * k) 0
  pub fits : (k : ℕ) → k < n → get_or bs (2 * k) 0 ≤ get_or bs (2 * k + 1) 0
  pub top : (k : ℕ) → k < n → get_or bs (2 * k + 1) 0 ≤ rank_limit

checked : (x y : ℕ) → range_check (x, y) ≡ 0 → (1 ≤ x) × (x ≤ y) × (y ≤ rank_limit)
checked x y e = by_bool (eqb x 0 || (ltb y x || ltb rank_limit y))
    (λ t. absurd (omega (arith, sym e ∙ ap (λ b. cond b 21 0) t)))
    (λ t. let n = false_t t in (
      nonzero x (T_not (eqb x 0) (nor_l (eqb x 0) (ltb y x || ltb rank_limit y) n)),
      nltb→le y x (nor_l (ltb y x) (ltb rank_limit y) (nor_r (eqb x 0) (ltb y x || ltb rank_limit y) n)),
      nltb→le rank_limit y (nor_r (ltb y x) (ltb rank_limit y) (nor_r (eqb x 0) (ltb y x || ltb rank_limit y) n)),
    ))
  where
    nonzero : (x : ℕ) → (T (eqb x 0) → ⊥) → 1 ≤ x
    nonzero x h = by_cases (ℕ_discrete x 0) (λ q. absurd (h (eq→eqb x 0 q))) (λ q. omega arith)

none : (a b : ℕ) → or_else a b ≡ 0 → (a ≡ 0) × (b ≡ 0)
none zero b e = (refl, e)
none (suc a) b e = absurd (omega arith)

-- at the first range, and behind it
step : (P : ℕ → Type 0) (n : ℕ) → P 0 → ((k : ℕ) → k < n → P (suc k)) → (k : ℕ) → k < suc n → P k
step P n z s zero h = z
step P n z s (suc k) h = s k (omega arith)

-- what holds of a file that meets no refusal
pub taken : (n : ℕ) (bs : List ℕ) → ranges_refusal n bs ≡ 0 → Taken n bs
unfolding ranges_refusal pairs_in
taken zero [] e = record {
  size = refl;
  each = refl;
  low = λ k h. absurd (omega arith);
  high = λ k h. absurd (omega arith);
  from = λ k h. absurd (omega arith);
  fits = λ k h. absurd (omega arith);
  top = λ k h. absurd (omega arith);
}
taken zero (x ∷ bs) e = absurd (omega arith)
taken (suc n) [] e = absurd (omega arith)
taken (suc n) (x ∷ []) e = absurd (omega arith)
taken (suc n) (x ∷ y ∷ bs) e =
    let (c, t) = none (range_check (x, y)) (ranges_refusal n bs) e in
    let (a, b, d) = checked x y c in
    let T = taken n bs t in
    record {
      size = omega (arith, T.size);
      each = ap suc T.each;
      low = step (λ k. (range_at (ranges_of (suc n) (x ∷ y ∷ bs)) k).low ≡ at (2 * k)) n refl (λ k h. T.low k h ∙ sym (two k));
      high = step (λ k. (range_at (ranges_of (suc n) (x ∷ y ∷ bs)) k).high ≡ at (2 * k + 1)) n refl (λ k h. T.high k h ∙ sym (two_one k));
      from = step (λ k. 1 ≤ at (2 * k)) n a (λ k h. subst (λ z. 1 ≤ z) (sym (two k)) (T.from k h));
      fits = step (λ k. at (2 * k) ≤ at (2 * k + 1)) n b (λ k h. omega (arith, T.fits k h, two k, two_one k));
      top = step (λ k. at (2 * k + 1) ≤ rank_limit) n d (λ k h. omega (arith, T.top k h, two_one k));
    }
  where
    at : ℕ → ℕ
    at i = get_or (x ∷ y ∷ bs) i 0

    two : (k : ℕ) → at (2 * suc k) ≡ get_or bs (2 * k) 0
    two k = let q : 2 * suc k ≡ suc (suc (2 * k)) = omega arith in ap at q

    two_one : (k : ℕ) → at (2 * suc k + 1) ≡ get_or bs (2 * k + 1) 0
    two_one k = let q : 2 * suc k + 1 ≡ suc (suc (2 * k + 1)) = omega arith in ap at q

-- its ranges fit: no low above its high, no high above 32
pub taken_fit : (n : ℕ) (bs : List ℕ) → Taken n bs → Fit (ranges_of n bs)
taken_fit n bs t k h =
    let l : k < n = omega (arith, t.each) in
    (omega (arith, t.low k l, t.high k l, t.fits k l), omega (arith, t.high k l, t.top k l))

-- ---- the loop over the ranges: one more of them
module _ (n : ℕ) (f : List ℕ) (k : ℕ) (h : k < n) where
  turns : ranges_refusal (n - k) (drop (2 * k) f) ≡ ranges_refusal (suc (n - (k + 1))) (drop (2 * k) f)
  turns = let e : n - k ≡ suc (n - (k + 1)) = omega arith in ap (λ t. ranges_refusal t (drop (2 * k) f)) e

  -- the file ends inside range k: what is left of it meets 1
  pub ranges_cut : length f < 2 * k + 2 → ranges_refusal (n - k) (drop (2 * k) f) ≡ 1
  unfolding ranges_refusal
  ranges_cut l = turns ∙ go (drop (2 * k) f) (omega (arith, length-drop (2 * k) f))
    where
      go : (bs : List ℕ) → length bs < 2 → ranges_refusal (suc (n - (k + 1))) bs ≡ 1
      go [] l = refl
      go (x ∷ []) l = refl
      go (x ∷ y ∷ bs) l = absurd (omega arith)

  -- range k is there: its own refusal comes first, and then that of the ranges behind it
  pub ranges_next : 2 * k + 2 ≤ length f → ranges_refusal (n - k) (drop (2 * k) f)
      ≡ or_else (range_check (get_or f (2 * k) 0, get_or f (2 * k + 1) 0)) (ranges_refusal (n - (k + 1)) (drop (2 * (k + 1)) f))
  unfolding ranges_refusal
  ranges_next l = turns
      ∙ ap (ranges_refusal (suc (n - (k + 1)))) (drop-cons f (2 * k) 0 (omega arith) ∙ ap (λ z. get_or f (2 * k) 0 ∷ z)
      (drop-cons f (suc (2 * k)) 0 (omega arith)))
      ∙ ap₂ (λ a b. or_else (range_check (get_or f (2 * k) 0, get_or f a 0)) (ranges_refusal (n - (k + 1)) (drop b f))) one two
    where
      one : suc (2 * k) ≡ 2 * k + 1
      one = omega arith

      two : suc (suc (2 * k)) ≡ 2 * (k + 1)
      two = omega arith

-- the end of it
pub ranges_over : (f : List ℕ) (k : ℕ) → 2 * k < length f → ranges_refusal 0 (drop (2 * k) f) ≡ 9
unfolding ranges_refusal
ranges_over f k l = ap (ranges_refusal 0) (drop-cons f (2 * k) 0 l)

-- with no range left and no byte left there is no refusal
pub ranges_end : (f : List ℕ) (k : ℕ) → length f ≤ 2 * k → ranges_refusal 0 (drop (2 * k) f) ≡ 0
unfolding ranges_refusal
ranges_end f k l = ap (ranges_refusal 0) (drop_of_length-le f l)
