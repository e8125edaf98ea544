-- A pass that collects in an array's front the numbers that meet a test, ascending: one turn of it, and its end.
use Rattle.std.specs.Prelude.{ℕ, zero, suc, ◌+◌, ◌-◌, ◌≤◌, ◌<◌, ◌≡◌, refl, Bool, true, false, cond, List, [], ◌∷◌, ◌++◌, map, length, take, set}
use Rattle.std.proofs.Common.{arith, add-one, add-zero, zero-add, sym, ap, ◌∙◌, append-nil, length-append, take-suc, take-suc-set}
use Rattle.std.proofs.lemmas.List.{map-append, take-set-le}
use mir.Val.{bool_byte}
use Rattle.lists.specs.Sum.{range}
use Rattle.lists.specs.Keep.{keep}
use Rattle.lists.specs.Ranges.{keep_last, range_add, keep_append}
use Rattle.arrays.specs.ArrayInstance.{at}

-- the m numbers found below c stand in front
abbrev pub Kept : (ℕ → Bool) → List ℕ → ℕ → ℕ → Type 0
Kept p front m c = (m ≡ length (keep p (range 0 c))) × (take m front ≡ keep p (range 0 c))

-- no more than there are
pub keep_most : (p : ℕ → Bool) (xs : List ℕ) → length (keep p xs) ≤ length xs
keep_most p [] = omega arith
keep_most p (x ∷ xs) = go (p x) (keep_most p xs)
  where
    go : (b : Bool) → length (keep p xs) ≤ length xs → length (cond b (x ∷ keep p xs) (keep p xs)) ≤ suc (length xs)
    go true h = omega arith
    go false h = omega arith

-- no more below a than below b
pub keep_few : (p : ℕ → Bool) (a b : ℕ) → a ≤ b → length (keep p (range 0 a)) ≤ length (keep p (range 0 b))
keep_few p a b h = omega (
  arith,
  ap length (ap (λ k. keep p (range 0 k)) (split a b h) ∙ ap (keep p) (range_add 0 a (b - a)) ∙ keep_append p (range 0 a) (range (0 + a) (b - a))),
  length-append (keep p (range 0 a)) (keep p (range (0 + a) (b - a))),
)
  where
    split : (a b : ℕ) → a ≤ b → b ≡ a + (b - a)
    split a b h = omega arith

module _ (p : ℕ → Bool) (front : List ℕ) (m c : ℕ) where
  -- a turn at a number that meets the test: it is stored behind those found before, and counted
  pub kept_yes : p c ≡ true → m < length front → Kept p front m c → Kept p (set front m c) (m + 1) (c + 1)
  kept_yes t l (a, b) = let e = ap (λ k. keep p (range 0 k)) (add-one c) ∙ keep_last p c ∙ ap (λ b. keep p (range 0 c) ++ cond b (c ∷ []) []) t in (
    omega (arith, ap length e, length-append (keep p (range 0 c)) (c ∷ [])),
    ap (λ k. take k (set front m c)) (add-one m) ∙ take-suc-set front m c l ∙ ap (λ z. z ++ c ∷ []) b ∙ sym e,
  )

  -- a turn at a number that does not meet it: array and count stay
  pub kept_no : p c ≡ false → Kept p front m c → Kept p front m (c + 1)
  kept_no t (a, b) =
      let e =
      ap (λ k. keep p (range 0 k)) (add-one c) ∙ keep_last p c ∙ ap (λ b. keep p (range 0 c) ++ cond b (c ∷ []) []) t ∙ append-nil (keep p (range 0 c)) in
      (a ∙ ap length (sym e), b ∙ sym e)

  -- the number is stored in any case, and counted if it meets the test
  pub kept_turn : m < length front → Kept p front m c → Kept p (set front m c) (m + bool_byte (p c)) (c + 1)
  kept_turn l k = go (p c) refl
    where
      go : (t : Bool) → p c ≡ t → Kept p (set front m c) (m + bool_byte t) (c + 1)
      go true e = kept_yes e l k
      go false e = let (a, b) = kept_no e k in (
        add-zero m ∙ a,
        ap (λ k. take k (set front m c)) (add-zero m) ∙ take-set-le m front m c (omega arith) ∙ b,
      )

-- an array's front, entry by entry
pub front_is : (front : List ℕ) (n : ℕ) → n ≤ length front → take n front ≡ map (at front) (range 0 n)
front_is front zero h = refl
front_is front (suc n) h =
    take-suc front n 0 (omega arith)
    ∙ ap (λ z. z ++ at front n ∷ []) (front_is front n (omega arith))
    ∙ sym (map-append (at front) (range 0 n) (n ∷ []))
    ∙ ap (map (at front)) (ap (λ k. range 0 n ++ k ∷ []) (sym (zero-add n)) ∙ sym (range_add 0 n 1) ∙ ap (range 0) (add-one n))
