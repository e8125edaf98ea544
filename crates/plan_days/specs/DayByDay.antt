-- The days entry by entry, over lists: the days of theory_days' Spread, and none above the last day.
use Prim.Native.Nat.{ℕ, zero, suc, ◌+◌, ◌≤◌, ◌<◌}
use Rattle.std.proofs.Common.{arith, add-one, ◌∙◌, subst}
use Rattle.std.specs.Prelude.{◌≡◌, Bool, false, not, List, length, set, replicate}
use Rattle.std.proofs.Math.Path.{refl, sym, ap, fun_ext}
use Rattle.std.proofs.Math.Bool.{true, cond}
use Rattle.std.proofs.Math.ListN.{length-set}
use Rattle.std.proofs.lemmas.List.{length-replicate}
use Rattle.lists.specs.Test.{by_bool, if-ind}
use Rattle.lists.specs.Search.{low_is}
use Rattle.arrays.specs.ArrayInstance.{at}
use Rattle.arrays.specs.Tally.{zeros}
use Rattle.model.specs.Limits.{day_size, last_day}
use Rattle.theory_days.specs.Chain.{set_day, changes, chase}
use Rattle.theory_days.specs.Spread.{taken, free_day, with_day, spread}
use Rattle.plan_days.specs.Chase.{chase_in, chase_keeps, Small, set_small}
use Rattle.plan_days.specs.Tied.{set_is, chase_is}

-- the first day free at entry k's end
abbrev pub free_in : (end ds : List ℕ) → ℕ → ℕ
free_in end ds k = free_day (at end) (at ds) k (at end k) last_day

-- it is free at entry k's end
abbrev pub free_at : (end ds : List ℕ) → (k d : ℕ) → Bool
free_at end ds k d = not (taken (at end) (at ds) k (at end k) d)

unfoldable pub with_day_in : ℕ → (sv st ds : List ℕ) → List ℕ
with_day_in k sv st ds = cond (free_at sv ds k (free_in st ds k)) (set ds k (free_in st ds k))
    (chase_in (suc k) sv st (free_in sv ds k) (free_in st ds k) (suc k) k (set ds k (free_in sv ds k)))

unfoldable pub spread_in : ℕ → (sv st : List ℕ) → List ℕ
spread_in zero sv st = replicate day_size 0
spread_in (suc k) sv st = with_day_in k sv st (spread_in k sv st)

-- an entry more, by what its searches found
module _ (k : ℕ) (sv st ds : List ℕ) (b : ℕ) (hb : b ≡ free_in st ds k) where
  pub with_free : free_at sv ds k b ≡ true → set ds k b ≡ with_day_in k sv st ds
  unfolding with_day_in
  with_free t = rw (← hb, t) refl

  pub with_chase : (a : ℕ) → a ≡ free_in sv ds k → free_at sv ds k b ≡ false → chase_in (k + 1) sv st a b (k + 1) k (set ds k a) ≡ with_day_in k sv st ds
  unfolding with_day_in
  with_chase a ha t = rw (add-one k, ← hb, ← ha, t) refl

free_small : (end ds : List ℕ) (k : ℕ) → free_in end ds k ≤ last_day
unfolding free_day
free_small end ds k = (low_is (λ d. not (taken (at end) (at ds) k (at end k) d)) last_day).0

module _ (sv st : List ℕ) where
  -- what a change to a day up to the last keeps, an entry more keeps
  with_keeps : (P : List ℕ → Type 0) → ((ds : List ℕ) (e x : ℕ) → x ≤ last_day → P ds → P (set ds e x)) → (k : ℕ) (ds : List ℕ) → P ds → P (with_day_in k sv st ds)
  unfolding with_day_in
  with_keeps P h k ds p = if-ind P (free_at sv ds k (free_in st ds k)) (λ t. h ds k (free_in st ds k) (free_small st ds k) p)
      (λ t. chase_keeps (suc k) sv st (free_in sv ds k) (free_in st ds k) P (λ xs e r. h xs e (free_in sv ds k) (free_small sv ds k) r)
      (λ xs e r. h xs e (free_in st ds k) (free_small st ds k) r) (suc k) k (set ds k (free_in sv ds k)) (h ds k (free_in sv ds k) (free_small sv ds k) p))

  spread_keeps : (P : List ℕ → Type 0) → P (replicate day_size 0) → ((ds : List ℕ) (e x : ℕ) → x ≤ last_day → P ds → P (set ds e x))
      → (k : ℕ) → P (spread_in k sv st)
  unfolding spread_in
  spread_keeps P z h zero = z
  spread_keeps P z h (suc k) = with_keeps P h k (spread_in k sv st) (spread_keeps P z h k)

  pub spread_length : (k : ℕ) → length (spread_in k sv st) ≡ day_size
  spread_length = spread_keeps (λ ds. length ds ≡ day_size) (length-replicate {A = ℕ} day_size 0) (λ ds e x h l. length-set ds e x ∙ l)

  pub spread_small : (k : ℕ) → Small last_day (spread_in k sv st)
  spread_small = spread_keeps (Small last_day) (λ j. subst (λ z. z ≤ last_day) (sym (zeros day_size j)) (omega arith)) (λ ds e x h s. set_small last_day ds e x h s)

  with_is : (k : ℕ) (ds : List ℕ) → k < length ds → at (with_day_in k sv st ds) ≡ with_day (at sv) (at st) last_day k (at ds)
  unfolding with_day_in with_day
  with_is k ds l = by_bool (free_at sv ds k b)
      (λ p. ap (λ z. at (cond z (set ds k b) last)) p ∙ set_is ds k b l ∙ sym (ap (λ z. cond z (set_day (at ds) k b) last_f) p))
      (λ p. ap (λ z. at (cond z (set ds k b) last)) p
      ∙ chase_is (suc k) sv st a b (suc k) k (set ds k a) (omega (arith, length-set ds k a))
      ∙ ap (chase (at sv) (at st) a b (suc k) (changes (suc k)) true k) (set_is ds k a l)
      ∙ sym (ap (λ z. cond z (set_day (at ds) k b) last_f) p))
    where
      a : ℕ
      a = free_in sv ds k

      b : ℕ
      b = free_in st ds k

      last : List ℕ
      last = chase_in (suc k) sv st a b (suc k) k (set ds k a)

      last_f : ℕ → ℕ
      last_f = chase (at sv) (at st) a b (suc k) (changes (suc k)) true k (set_day (at ds) k a)

  pub spread_is : (k : ℕ) → k ≤ day_size → at (spread_in k sv st) ≡ spread (at sv) (at st) last_day k
  unfolding spread_in spread
  spread_is zero h = fun_ext (zeros day_size)
  spread_is (suc k) h = with_is k (spread_in k sv st) (omega (arith, spread_length k)) ∙ ap (with_day (at sv) (at st) last_day k) (spread_is k (omega arith))
