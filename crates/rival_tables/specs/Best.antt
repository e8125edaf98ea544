-- The first of the least (lists, First.best) as loops find it: one turn over numbers, lists in parts, and the same choice under other names.
use Prim.Native.Nat.{ℕ, suc, ◌+◌, ◌-◌, ◌≤◌, ◌<◌}
use native.Mathlib.Omega.{arith}
use Rattle.std.specs.Prelude.{◌≡◌, Bool, cond, ◌&&◌}
use Rattle.std.proofs.Math.Path.{refl, ap}
use Rattle.std.proofs.Common.{◌∙◌}
use Rattle.std.proofs.Math.Bool.{true, false}
use mathlib.Core.List.Memᴰ
use mathlib.Core.List.{List, [], ◌∷◌, ◌++◌, map}
use Rattle.std.proofs.Math.Dec.{ltb}
use Rattle.lists.specs.Sum.{◌∈◌, range}
use Rattle.lists.specs.Keep.{keep}
use Rattle.lists.specs.First.{best}

-- ---- over the numbers from i on that pass a test
module _ {B : Type 0} (bid : ℕ → ℕ × B) (t : ℕ → Bool) where
  abbrev pub taken : ℕ × B → ℕ → ℕ × B
  taken held i = cond (t i && ltb (bid i).0 held.0) (bid i) held

  -- one turn of the loop
  pub best_turn : (held : ℕ × B) (i m : ℕ) → i < m → best bid held (keep t (range i (m - i))) ≡ best bid (taken held i) (keep t (range (i + 1) (m - (i + 1))))
  unfolding best
  best_turn held i m h =
      let e : m - i ≡ suc (m - (i + 1)) = omega arith in
      let s : suc i ≡ i + 1 = omega arith in
      ap (λ k. best bid held (keep t (range i k))) e ∙ go (t i) ∙ ap (λ k. best bid (taken held i) (keep t (range k (m - (i + 1))))) s
    where
      go : (b : Bool)
          → best bid held (cond b (i ∷ keep t (range (suc i) (m - (i + 1)))) (keep t (range (suc i) (m - (i + 1))))) ≡ best bid
          (cond (b && ltb (bid i).0 held.0) (bid i) held) (keep t (range (suc i) (m - (i + 1))))
      go true = refl
      go false = refl

  -- its end
  pub best_end : (held : ℕ × B) (i m : ℕ) → m ≤ i → best bid held (keep t (range i (m - i))) ≡ held
  unfolding best
  best_end held i m h = let e : m - i ≡ 0 = omega arith in ap (λ k. best bid held (keep t (range i k))) e

  -- its start
  pub best_start : (held : ℕ × B) (m : ℕ) → best bid held (keep t (range 0 (m - 0))) ≡ best bid held (keep t (range 0 m))
  best_start held m = let e : m - 0 ≡ m = omega arith in ap (λ k. best bid held (keep t (range 0 k))) e

-- ---- in parts
module _ {A B : Type 0} (bid : A → ℕ × B) where
  -- one list after the other
  pub best_append : (held : ℕ × B) (xs ys : List A) → best bid held (xs ++ ys) ≡ best bid (best bid held xs) ys
  unfolding best
  best_append held [] ys = refl
  best_append held (x ∷ xs) ys = best_append (cond (ltb (bid x).0 held.0) (bid x) held) xs ys

  -- bids that agree on the list
  pub best_cong : (offer : A → ℕ × B) (held : ℕ × B) (xs : List A) → ((x : A) → x ∈ xs → bid x ≡ offer x) → best bid held xs ≡ best offer held xs
  unfolding best
  best_cong offer held [] h = refl
  best_cong offer held (x ∷ xs) h =
      best_cong offer (cond (ltb (bid x).0 held.0) (bid x) held) xs (λ y m. h y (Memᴰ.tail m))
      ∙ ap (λ (o : ℕ × B). best offer (cond (ltb o.0 held.0) o held) xs) (h x (Memᴰ.head refl))

  -- what passes a test twice
  pub best_keep_map : {C : Type 0} (p : A → Bool) (h : C → A) (t : C → Bool) (held : ℕ × B) (xs : List C)
      → best bid held (keep p (map h (keep t xs))) ≡ best (λ c. bid (h c)) held (keep (λ c. t c && p (h c)) xs)
  unfolding best
  best_keep_map p h t held [] = refl
  best_keep_map p h t held (x ∷ xs) = go (t x) (p (h x)) (λ held. best_keep_map p h t held xs)
    where
      go : (a b : Bool) → ((held : ℕ × B) → best bid held (keep p (map h (keep t xs))) ≡ best (λ c. bid (h c)) held (keep (λ c. t c && p (h c)) xs))
          → best bid held (keep p (map h (cond a (x ∷ keep t xs) (keep t xs)))) ≡ best (λ c. bid (h c)) held
          (cond (a && p (h x)) (x ∷ keep (λ c. t c && p (h c)) xs) (keep (λ c. t c && p (h c)) xs))
      go true b ih = passed (p (h x)) ih
        where
          passed : (b : Bool) → ((held : ℕ × B) → best bid held (keep p (map h (keep t xs))) ≡ best (λ c. bid (h c)) held (keep (λ c. t c && p (h c)) xs))
              → best bid held (cond b (h x ∷ keep p (map h (keep t xs))) (keep p (map h (keep t xs)))) ≡ best (λ c. bid (h c)) held
              (cond b (x ∷ keep (λ c. t c && p (h c)) xs) (keep (λ c. t c && p (h c)) xs))
          passed true ih = ih (cond (ltb (bid (h x)).0 held.0) (bid (h x)) held)
          passed false ih = ih held
      go false b ih = ih held

-- ---- under other names
module _ {A B C D : Type 0} (bid : A → ℕ × B) (call : C → ℕ × D) (g : C → A) (name : D → B) where
  -- a bid under another name
  abbrev pub named : ℕ × D → ℕ × B
  named c = (c.0, name c.1)

  -- the best under other names
  pub best_named : (held : ℕ × D) (xs : List C) → ((c : C) → c ∈ xs → bid (g c) ≡ named (call c)) → best bid (named held) (map g xs) ≡ named (best call held xs)
  unfolding best
  best_named held [] h = refl
  best_named held (x ∷ xs) h =
      ap (λ (o : ℕ × B). best bid (cond (ltb o.0 held.0) o (named held)) (map g xs)) (h x (Memᴰ.head refl))
      ∙ go (ltb (call x).0 held.0) (λ held. best_named held xs (λ c m. h c (Memᴰ.tail m)))
    where
      go : (b : Bool) → ((held : ℕ × D) → best bid (named held) (map g xs) ≡ named (best call held xs))
          → best bid (cond b (named (call x)) (named held)) (map g xs) ≡ named (best call (cond b (call x) held) xs)
      go true ih = ih (call x)
      go false ih = ih held
