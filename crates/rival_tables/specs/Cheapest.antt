-- The least price as a loop over numbers finds it, without what has that price: the first part of what `best` finds.
use Prim.Native.Nat.{ℕ, zero, suc, ◌+◌, ◌-◌, ◌≤◌, ◌<◌, min}
use Rattle.std.proofs.Common.{arith, add-one, ap₂, ◌∙◌, inl, inr, ⊎_elim, ltb-true, ltb-false}
use Rattle.std.specs.Prelude.{◌≡◌, ◌⊎◌, Bool, true, false, cond, ◌∷◌, map, ltb}
use Rattle.std.proofs.Math.Path.{refl, ap}
use Rattle.lists.specs.Test.{by_bool}
use Rattle.lists.specs.Sum.{range}
use Rattle.lists.specs.Keep.{keep}
use Rattle.lists.specs.First.{best}

-- v, or the price of x if it may come and is less
abbrev pub offer : Bool → ℕ → ℕ → ℕ
offer t p v = cond t (min p v) v

-- the least of v and the prices of the n numbers from i on that pass the test
unfoldable pub cheapest : (ℕ → Bool) → (ℕ → ℕ) → ℕ → ℕ → ℕ → ℕ
cheapest t p v i zero = v
cheapest t p v i (suc n) = cheapest t p (offer (t i) (p i) v) (suc i) n

-- one turn of the loop, and its end
pub cheapest_turn : (t : ℕ → Bool) (p : ℕ → ℕ) (v i m : ℕ) → i < m → cheapest t p v i (m - i) ≡ cheapest t p (offer (t i) (p i) v) (i + 1) (m - (i + 1))
unfolding cheapest
cheapest_turn t p v i m h = let e : m - i ≡ suc (m - (i + 1)) = omega arith in rw (e, add-one)

-- the end of the loop
pub cheapest_end : (t : ℕ → Bool) (p : ℕ → ℕ) (v i m : ℕ) → m ≤ i → cheapest t p v i (m - i) ≡ v
unfolding cheapest
cheapest_end t p v i m h = let e : m - i ≡ 0 = omega arith in rw e

-- tests and prices that agree on the numbers in question
pub cheapest_cong : (t u : ℕ → Bool) (p q : ℕ → ℕ) (v i n : ℕ) → ((e : ℕ) → i ≤ e → e < i + n → t e ≡ u e)
    → ((e : ℕ) → i ≤ e → e < i + n → p e ≡ q e) → cheapest t p v i n ≡ cheapest u q v i n
unfolding cheapest
cheapest_cong t u p q v i zero h k = refl
cheapest_cong t u p q v i (suc n) h k =
    ap₂ (λ b x. cheapest t p (offer b x v) (suc i) n) (h i (omega arith) (omega arith)) (k i (omega arith) (omega arith))
    ∙ cheapest_cong t u p q (offer (u i) (q i) v) (suc i) n (λ e l g. h e (omega arith) (omega arith)) (λ e l g. k e (omega arith) (omega arith))

-- nothing passes the test
pub cheapest_none : (t : ℕ → Bool) (p : ℕ → ℕ) (v i n : ℕ) → ((e : ℕ) → i ≤ e → e < i + n → t e ≡ false) → cheapest t p v i n ≡ v
unfolding cheapest
cheapest_none t p v i zero h = refl
cheapest_none t p v i (suc n) h =
    ap (λ b. cheapest t p (offer b (p i) v) (suc i) n) (h i (omega arith) (omega arith))
    ∙ cheapest_none t p v (suc i) n (λ e l g. h e (omega arith) (omega arith))

-- it is no more than what was held
pub cheapest_≤ : (t : ℕ → Bool) (p : ℕ → ℕ) (v i n : ℕ) → cheapest t p v i n ≤ v
unfolding cheapest
cheapest_≤ t p v i zero = omega arith
cheapest_≤ t p v i (suc n) = go (t i) (cheapest_≤ t p (offer (t i) (p i) v) (suc i) n)
  where
    go : (b : Bool) → cheapest t p (offer (t i) (p i) v) (suc i) n ≤ offer b (p i) v → cheapest t p (offer (t i) (p i) v) (suc i) n ≤ v
    go true h = omega arith
    go false h = h

-- ---- it is what `best` finds
module _ {A B : Type 0} (bid : A → ℕ × B) where
  taken : (x : A) (held : ℕ × B) → (cond (ltb (bid x).0 held.0) (bid x) held).0 ≡ min (bid x).0 held.0
  taken x held = by_bool (ltb (bid x).0 held.0)
      (λ e. ap (λ b. (cond b (bid x) held).0) e ∙ omega (arith, ltb-true (bid x).0 held.0 e))
      (λ e. ap (λ b. (cond b (bid x) held).0) e ∙ omega (arith, ltb-false (bid x).0 held.0 e))

  -- of all numbers of a range
  pub best_map : (g : ℕ → A) (held : ℕ × B) (i n : ℕ) → (best bid held (map g (range i n))).0 ≡ cheapest (λ j. true) (λ j. (bid (g j)).0) held.0 i n
  unfolding best cheapest
  best_map g held i zero = refl
  best_map g held i (suc n) =
      best_map g (cond (ltb (bid (g i)).0 held.0) (bid (g i)) held) (suc i) n
      ∙ ap (λ v. cheapest (λ j. true) (λ j. (bid (g j)).0) v (suc i) n) (taken (g i) held)

-- of those that pass a test
pub best_keep : {B : Type 0} (bid : ℕ → ℕ × B) (t : ℕ → Bool) (held : ℕ × B) (i n : ℕ)
    → (best bid held (keep t (range i n))).0 ≡ cheapest t (λ j. (bid j).0) held.0 i n
unfolding best cheapest
best_keep bid t held i zero = refl
best_keep {B} bid t held i (suc n) = go (t i) (best_keep bid t held (suc i) n) (best_keep bid t (cond (ltb (bid i).0 held.0) (bid i) held) (suc i) n)
  where
    go : (b : Bool) → (best bid held (keep t (range (suc i) n))).0 ≡ cheapest t (λ j. (bid j).0) held.0 (suc i) n
        → (best bid (cond (ltb (bid i).0 held.0) (bid i) held) (keep t (range (suc i) n))).0 ≡ cheapest t (λ j. (bid j).0)
        (cond (ltb (bid i).0 held.0) (bid i) held).0 (suc i) n
        → (best bid held (cond b (i ∷ keep t (range (suc i) n)) (keep t (range (suc i) n)))).0 ≡ cheapest t (λ j. (bid j).0)
        (offer b (bid i).0 held.0) (suc i) n
    go true p q = q ∙ ap (λ v. cheapest t (λ j. (bid j).0) v (suc i) n) (taken bid i held)
    go false p q = p

-- ---- it is no more than any price offered, and it is what was held or one of the prices
pub cheapest_at : (t : ℕ → Bool) (p : ℕ → ℕ) (v i n e : ℕ) → i ≤ e → e < i + n → t e ≡ true → cheapest t p v i n ≤ p e
unfolding cheapest
cheapest_at t p v i zero e l h k = absurd (omega arith)
cheapest_at t p v i (suc n) e l h k = by_bool (ltb i e)
    (λ q. cheapest_at t p (offer (t i) (p i) v) (suc i) n e (ltb-true i e q) (omega arith) k)
    (λ q. let s : i ≡ e = omega (arith, ltb-false i e q) in
    omega (arith, cheapest_≤ t p (offer (t i) (p i) v) (suc i) n, ap (λ b. offer b (p i) v) (ap t s ∙ k), ap p s))

-- it is what was held, or one of the prices
pub cheapest_reach : (t : ℕ → Bool) (p : ℕ → ℕ) (v i n : ℕ)
    → (cheapest t p v i n ≡ v) ⊎ ((e : ℕ) × (i ≤ e) × (e < i + n) × (t e ≡ true) × (cheapest t p v i n ≡ p e))
unfolding cheapest
cheapest_reach t p v i zero = inl refl
cheapest_reach t p v i (suc n) = ⊎_elim
    (λ q. here (t i) refl q)
    (λ (e, l, h, k, q). inr (e, omega arith, omega arith, k, q))
    (cheapest_reach t p (offer (t i) (p i) v) (suc i) n)
  where
    here : (b : Bool) → t i ≡ b → cheapest t p (offer (t i) (p i) v) (suc i) n ≡ offer b (p i) v
        → (cheapest t p (offer (t i) (p i) v) (suc i) n ≡ v) ⊎ ((e : ℕ) × (i ≤ e) × (e < i + suc n) × (t e ≡ true)
        × (cheapest t p (offer (t i) (p i) v) (suc i) n ≡ p e))
    here true s q = by_bool (ltb (p i) v)
        (λ d. inr (i, omega arith, omega arith, s, omega (arith, ltb-true (p i) v d)))
        (λ d. inl (omega (arith, ltb-false (p i) v d)))
    here false s q = inl q
