-- The entries of a joiner at a stand, "in shift order" (W-204): one for each shift in which the joiner's list has the stand.
use Rattle.std.specs.Prelude.{ℕ, zero, suc, ◌+◌, ◌≤◌, ◌<◌, ◌≡◌, refl, ◌≢◌, Bool, true, false, not, cond, ◌&&◌, ◌||◌, List, [], ◌∷◌, ◌++◌, length, T, eqb}
use Rattle.std.proofs.Common.{arith, sym, ap, ap₂, ◌∙◌, subst, inr}
use Rattle.std.proofs.Math.Bool.{and-true, and-false, or-false}
use mathlib.Core.List.Memᴰ
use Rattle.lists.specs.Test.{given, and_i, by-eq, eqb_yes, eqb_no, false_t}
use Rattle.lists.specs.Sum.{◌∈◌, range, ∈_range}
use Rattle.lists.specs.Keep.{gather, gather_∈, any_append, ∈_all}
use Rattle.model.specs.Limits.{shift_limit}
use Rattle.model.specs.Roster.{Entry, same, has, before, shifts, entry_fits, distinct, ascending}
use Rattle.model_changes.specs.Changes.{joiner_at}
use Rattle.theory_files.specs.Order.{before_on, →before}
use Rattle.theory_files.specs.Entries.{in_range, range_in}

module _ (s : ℕ) (list : List Entry) (j : ℕ) where
  -- the list has the stand in this shift; the joiner's entry for it
  abbrev asked : ℕ → Bool
  asked k = has (record { number = j; shift = k }) list

  abbrev own : ℕ → Entry
  own k = record { number = s; shift = k }

  abbrev in_shift : ℕ → List Entry
  in_shift k = cond (asked k) (own k ∷ []) []

  -- in n shifts from k on
  abbrev from : (k n : ℕ) → List Entry
  from k n = gather in_shift (range k n)

  -- ---- who is among them
  has_from : (x : Entry) (k n : ℕ) → has x (from k (suc n)) ≡ (asked k && same x (own k)) || has x (from (suc k) n)
  has_from x k n = any_append (same x) (in_shift k) (from (suc k) n) ∙ ap (λ b. b || has x (from (suc k) n)) (go (asked k))
    where
      go : (b : Bool) → has x (cond b (own k ∷ []) []) ≡ b && same x (own k)
      go true = or-false (same x (own k))
      go false = refl

  has_later : (x : Entry) (k n : ℕ) → same x (own k) ≡ false → has x (from k (suc n)) ≡ has x (from (suc k) n)
  has_later x k n e = has_from x k n ∙ ap (λ b. (asked k && b) || has x (from (suc k) n)) e ∙ ap (λ b. b || has x (from (suc k) n)) (and-false (asked k))

  -- nobody else, in no earlier shift, and the joiner in the shifts asked for
  others_not : (x : Entry) → x.number ≢ s → (k n : ℕ) → has x (from k n) ≡ false
  others_not x d k zero = refl
  others_not x d k (suc n) = has_later x k n (ap (λ b. b && eqb x.shift k) (eqb_no x.number s d)) ∙ others_not x d (suc k) n

  other_shift : (i k : ℕ) → i ≢ k → same (own i) (own k) ≡ false
  other_shift i k d = ap (λ b. eqb s s && b) (eqb_no i k d) ∙ and-false (eqb s s)

  earlier_not : (i k n : ℕ) → i < k → has (own i) (from k n) ≡ false
  earlier_not i k zero l = refl
  earlier_not i k (suc n) l = has_later (own i) k n (other_shift i k (λ (e : i ≡ k). omega arith)) ∙ earlier_not i (suc k) n (omega arith)

  asked_has : (i k n : ℕ) → k ≤ i → i < k + n → has (own i) (from k n) ≡ asked i
  asked_has i k zero l h = absurd (omega arith)
  asked_has i k (suc n) l h = by-eq i k
      (λ e t. has_from (own i) k n
      ∙ ap₂ (λ a b. (asked k && (a && b)) || has (own i) (from (suc k) n)) (eqb_yes s s refl) t
      ∙ ap₂ (λ a b. a || b) (and-true (asked k)) (earlier_not i (suc k) n (omega arith))
      ∙ or-false (asked k) ∙ ap asked (sym e))
      (λ d t. has_later (own i) k n (other_shift i k d) ∙ asked_has i (suc k) n (omega arith) (omega arith))

  from_∈ : (x : Entry) (k n : ℕ) → x ∈ from k n → (x.number ≡ s) × (k ≤ x.shift) × (x.shift < k + n)
  from_∈ x k n m = given (gather_∈ in_shift (range k n) m) (λ (l, ml, mx). given (∈_range n k ml) (λ (a, b). go (asked l) l a b mx))
    where
      go : (b : Bool) (l : ℕ) → k ≤ l → l < k + n → x ∈ cond b (own l ∷ []) [] → (x.number ≡ s) × (k ≤ x.shift) × (x.shift < k + n)
      go true l a b (Memᴰ.head e) =
          (ap (λ z. z.number) e, subst (λ z. k ≤ z.shift) (sym e) a, subst (λ z. z.shift < k + n) (sym e) b)
      go true l a b (Memᴰ.tail m) = absurd (Memᴰ.not-nil m)
      go false l a b m = absurd (Memᴰ.not-nil m)

  -- ---- none twice, and ascending
  from_distinct : (k n : ℕ) → T (distinct (from k n))
  from_distinct k zero = tt
  from_distinct k (suc n) = go (asked k) (from_distinct (suc k) n)
    where
      go : (b : Bool) → T (distinct (from (suc k) n)) → T (distinct (cond b (own k ∷ []) [] ++ from (suc k) n))
      go true d = and_i (not (has (own k) (from (suc k) n))) (distinct (from (suc k) n)) (false_t (earlier_not k (suc k) n (omega arith))) d
      go false d = d

  next : (k : ℕ) → T (before (own k) (own (suc k)))
  next k = →before (own k) (own (suc k)) (inr (refl, omega arith))

  from_ascends : (last : Entry) (k n : ℕ) → T (before last (own k)) → T (ascending last (from k n))
  from_ascends last k zero t = tt
  from_ascends last k (suc n) t =
      go (asked k) (from_ascends (own k) (suc k) n (next k)) (from_ascends last (suc k) n (before_on last (own k) (own (suc k)) t (next k)))
    where
      go : (b : Bool) → T (ascending (own k) (from (suc k) n)) → T (ascending last (from (suc k) n))
          → T (ascending last (cond b (own k ∷ []) [] ++ from (suc k) n))
      go true a c = and_i (before last (own k)) (ascending (own k) (from (suc k) n)) t a
      go false a c = c

  from_short : (k n : ℕ) → length (from k n) ≤ n
  from_short k zero = omega arith
  from_short k (suc n) = go (asked k) (from_short (suc k) n)
    where
      go : (b : Bool) → length (from (suc k) n) ≤ n → length (cond b (own k ∷ []) [] ++ from (suc k) n) ≤ suc n
      go true h = omega arith
      go false h = omega arith

  -- ---- in the three shifts
  pub joiner_others : (x : Entry) → x.number ≢ s → has x (joiner_at s list j) ≡ false
  joiner_others x d = others_not x d 1 shift_limit

  pub joiner_asked : (k : ℕ) → k ∈ shifts → has (record { number = s; shift = k }) (joiner_at s list j) ≡ has (record { number = j; shift = k }) list
  joiner_asked k m = given (∈_range shift_limit 1 m) (λ (a, b). asked_has k 1 shift_limit a b)

  pub joiner_number : (x : Entry) → x ∈ joiner_at s list j → x.number ≡ s
  joiner_number x m = (from_∈ x 1 shift_limit m).0

  pub joiner_range : 1 ≤ s → T (in_range s (joiner_at s list j))
  joiner_range h = ∈_all (entry_fits s) (joiner_at s list j) (λ x m. given (from_∈ x 1 shift_limit m) (λ (a, b, c).
      range_in s x (omega arith) (omega arith) b (omega arith)))

  -- a stand gains three entries at most
  pub joiner_short : length (joiner_at s list j) ≤ shift_limit
  joiner_short = from_short 1 shift_limit

  pub joiner_distinct : T (distinct (joiner_at s list j))
  joiner_distinct = from_distinct 1 shift_limit

  pub joiner_ascends : (last : Entry) → T (before last (record { number = s; shift = 1 })) → T (ascending last (joiner_at s list j))
  joiner_ascends last t = from_ascends last 1 shift_limit t
