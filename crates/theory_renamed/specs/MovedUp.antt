-- Lists whose numbers are moved up: each entry is asked for, ranked and ordered as before, the numbers up to n are not among them, and a list
-- within its limits stays so where the other side has n more.
use Rattle.std.specs.Prelude.{ℕ, suc, ◌+◌, ◌≤◌, ◌≡◌, refl, false, not, cond, ◌&&◌, ◌||◌, List, [], ◌∷◌, ◌++◌, length, T, eqb, leb, ltb}
use Rattle.std.proofs.Common.{arith, sym, ap, ap₂, subst, ltb→lt, lt→ltb}
use mathlib.Core.List.Memᴰ
use Rattle.std.proofs.lemmas.List.{map-append, length-map}
use Rattle.lists.specs.Test.{given, eqb_no, bool_eq, and_l, and_r, and_i, or_l, eqb_up}
use Rattle.lists.specs.Sum.{◌∈◌}
use Rattle.lists.specs.Keep.{all_append, all_∈, ∈_all}
use Rattle.model.specs.Limits.{list_limit}
use Rattle.model.specs.Roster.{Entry, Ranking, entries, same, has, before, no_entry, distinct, ascending, entry_fits, list_fits, ranking_fits}
use Rattle.model.specs.Edges.{position}
use Rattle.model_files.specs.Districts.{entry_up, list_up, ranking_up}
use Rattle.theory_files.specs.Entries.{in_range, in_range_law, range_in}
use Rattle.theory_files.specs.ByLists.{list_range, list_distinct, ranking_list, ranking_ascends}

-- ---- one entry
ltb_up : (n a b : ℕ) → ltb (n + a) (n + b) ≡ ltb a b
ltb_up n a b = bool_eq (ltb (n + a) (n + b)) (ltb a b)
    (λ t. lt→ltb a b (given (ltb→lt (n + a) (n + b) t) (λ h. omega arith)))
    (λ t. lt→ltb (n + a) (n + b) (given (ltb→lt a b t) (λ h. omega arith)))

same_up : (n : ℕ) (x y : Entry) → same (entry_up n x) (entry_up n y) ≡ same x y
same_up n x y = ap (λ b. b && eqb x.shift y.shift) (eqb_up n x.number y.number)

before_up : (n : ℕ) (x y : Entry) → before (entry_up n x) (entry_up n y) ≡ before x y
before_up n x y = ap₂ (λ a b. a || (b && ltb x.shift y.shift)) (ltb_up n x.number y.number) (eqb_up n x.number y.number)

-- the entry of a number moved up
pub entry_up_law : (n j k : ℕ) → record { number = suc (n + j); shift = k } ≡ entry_up n (record { number = suc j; shift = k })
entry_up_law n j k = let e : suc (n + j) ≡ n + suc j = omega arith in ap {B = Entry} (λ z. record { number = z; shift = k }) e

-- ---- a list
pub has_up : (n : ℕ) (x : Entry) (xs : List Entry) → has (entry_up n x) (list_up n xs) ≡ has x xs
has_up n x [] = refl
has_up n x (y ∷ xs) = ap₂ (λ a b. a || b) (same_up n x y) (has_up n x xs)

pub position_up : (n : ℕ) (x : Entry) (xs : List Entry) → position (entry_up n x) (list_up n xs) ≡ position x xs
unfolding position
position_up n x [] = refl
position_up n x (y ∷ xs) = ap₂ (λ b k. cond b 1 (suc k)) (same_up n x y) (position_up n x xs)

-- a number up to n is not among those moved up by n
pub has_low : (n : ℕ) (x : Entry) (xs : List Entry) → x.number ≤ n → ((y : Entry) → y ∈ xs → 1 ≤ y.number) → has x (list_up n xs) ≡ false
has_low n x [] l h = refl
has_low n x (y ∷ xs) l h = ap₂ (λ a b. (a && eqb x.shift y.shift) || b)
    (eqb_no x.number (n + y.number) (λ (q : x.number ≡ n + y.number). given (h y (Memᴰ.head refl)) (λ k. omega arith)))
    (has_low n x xs l (λ z m. h z (Memᴰ.tail m)))

pub entries_up : (n : ℕ) (R : Ranking) → entries (ranking_up n R) ≡ list_up n (entries R)
entries_up n R = sym (map-append (entry_up n) R.strict R.tied)

-- ---- within the limits
-- numbers are in range where there are more
in_range_more : (a b : ℕ) → a ≤ b → (xs : List Entry) → T (in_range a xs) → T (in_range b xs)
in_range_more a b h xs t = ∈_all (entry_fits b) xs (λ x m.
    given (in_range_law a x (all_∈ (entry_fits a) xs t x m)) (λ (l, u, c, d). range_in b x l (omega arith) c d))

in_range_up : (n c : ℕ) (xs : List Entry) → T (in_range c xs) → T (in_range (n + c) (list_up n xs))
in_range_up n c [] t = tt
in_range_up n c (x ∷ xs) t = and_i (entry_fits (n + c) (entry_up n x)) (in_range (n + c) (list_up n xs))
    (given (in_range_law c x (and_l (entry_fits c x) (in_range c xs) t)) (λ (l, u, a, b). range_in (n + c) (entry_up n x) (omega arith) (omega arith) a b))
    (in_range_up n c xs (and_r (entry_fits c x) (in_range c xs) t))

distinct_up : (n : ℕ) (xs : List Entry) → T (distinct xs) → T (distinct (list_up n xs))
distinct_up n [] t = tt
distinct_up n (x ∷ xs) t = and_i (not (has (entry_up n x) (list_up n xs))) (distinct (list_up n xs))
    (subst (λ b. T (not b)) (sym (has_up n x xs)) (and_l (not (has x xs)) (distinct xs) t)) (distinct_up n xs (and_r (not (has x xs)) (distinct xs) t))

ascending_up : (n : ℕ) (x : Entry) (xs : List Entry) → T (ascending x xs) → T (ascending (entry_up n x) (list_up n xs))
ascending_up n x [] t = tt
ascending_up n x (y ∷ xs) t = and_i (before (entry_up n x) (entry_up n y)) (ascending (entry_up n y) (list_up n xs))
    (subst T (sym (before_up n x y)) (and_l (before x y) (ascending y xs) t)) (ascending_up n y xs (and_r (before x y) (ascending y xs) t))

-- the first entry is behind none
tie_up : (n c : ℕ) (xs : List Entry) → T (in_range c xs) → T (ascending no_entry xs) → T (ascending no_entry (list_up n xs))
tie_up n c [] r t = tt
tie_up n c (x ∷ xs) r t = and_i (before no_entry (entry_up n x)) (ascending (entry_up n x) (list_up n xs))
    (or_l (ltb 0 (n + x.number)) _ (lt→ltb 0 (n + x.number)
    (given (in_range_law c x (and_l (entry_fits c x) (in_range c xs) r)) (λ (l, u, a, b). omega arith))))
    (ascending_up n x xs (and_r (before no_entry x) (ascending x xs) t))

-- where a list of two parts is in range, both parts are
pub range_parts : (c : ℕ) (xs ys : List Entry) → T (in_range c (xs ++ ys)) → T (in_range c xs) × T (in_range c ys)
range_parts c xs ys t = given (subst T (all_append (entry_fits c) xs ys) t) (λ u. (and_l (in_range c xs) (in_range c ys) u, and_r (in_range c xs) (in_range c ys) u))

module _ (a b : ℕ) (h : a ≤ b) where
  pub list_more : (xs : List Entry) → T (list_fits list_limit a xs) → T (list_fits list_limit b xs)
  list_more xs t = and_i (leb (length xs) list_limit) _ (and_l (leb (length xs) list_limit) _ t)
      (and_i (in_range b xs) (distinct xs) (in_range_more a b h xs (list_range list_limit a xs t)) (list_distinct list_limit a xs t))

  pub ranking_more : (R : Ranking) → T (ranking_fits list_limit a R) → T (ranking_fits list_limit b R)
  ranking_more R t = and_i (list_fits list_limit b (entries R)) (ascending no_entry R.tied) (list_more (entries R) (ranking_list list_limit a R t))
      (ranking_ascends list_limit a R t)

module _ (n c : ℕ) where
  pub list_up_law : (xs : List Entry) → T (list_fits list_limit c xs) → T (list_fits list_limit (n + c) (list_up n xs))
  list_up_law xs t = and_i (leb (length (list_up n xs)) list_limit) _
      (subst (λ k. T (leb k list_limit)) (sym (length-map xs (entry_up n))) (and_l (leb (length xs) list_limit) _ t))
      (and_i (in_range (n + c) (list_up n xs)) (distinct (list_up n xs)) (in_range_up n c xs (list_range list_limit c xs t))
      (distinct_up n xs (list_distinct list_limit c xs t)))

  pub ranking_up_law : (R : Ranking) → T (ranking_fits list_limit c R) → T (ranking_fits list_limit (n + c) (ranking_up n R))
  ranking_up_law R t =
      let f = ranking_list list_limit c R t in
      and_i (list_fits list_limit (n + c) (entries (ranking_up n R))) (ascending no_entry (list_up n R.tied))
      (subst (λ xs. T (list_fits list_limit (n + c) xs)) (sym (entries_up n R)) (list_up_law (entries R) f))
      (tie_up n c R.tied (range_parts c R.strict R.tied (list_range list_limit c (entries R) f)).1 (ranking_ascends list_limit c R t))

-- numbers in range are from 1 on
pub from_one : (c : ℕ) (xs : List Entry) → T (in_range c xs) → (y : Entry) → y ∈ xs → 1 ≤ y.number
from_one c xs t y m = given (in_range_law c y (all_∈ (entry_fits c) xs t y m)) (λ (l, u, a, b). l)
