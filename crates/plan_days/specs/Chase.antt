-- Another entry at the same end on the same day, over lists; and the chain, two changes a turn, at the stand and then at the surveyor: one
-- turn of it by what its two looks found, its length, and how high its days go.
use Prim.Native.Nat.{ℕ, zero, suc, ◌+◌, ◌-◌, ◌≤◌, ◌<◌}
use native.Mathlib.Omega.{arith}
use Rattle.std.proofs.Math.Decide.{ℕ_discrete, dec_lt}
use Rattle.std.specs.Prelude.{◌≡◌, refl, Bool, not, cond, ◌&&◌, List, length, set, eqb, leb}
use Rattle.std.proofs.Common.{sym, ◌∙◌, subst, length-set, get_or-set_same, get_or-set_other}
use Rattle.std.proofs.Math.Path.{ap}
use Rattle.std.proofs.Math.Logic.{by_cases}
use Rattle.std.proofs.Math.ListN.{get_or-eq_default}
use borrow.Author.Tests.{le-leb, lt-leb}
use Rattle.lists.specs.Test.{if-ind}
use Rattle.lists.specs.Search.{low}
use Rattle.arrays.specs.ArrayInstance.{at}

abbrev pub meets : (end day : List ℕ) → ℕ → ℕ → Bool
meets end day cur j = not (eqb j cur) && (eqb (at end j) (at end cur) && eqb (at day j) (at day cur))

-- the first entry that meets cur; n if there is none
abbrev pub other : (n : ℕ) (end day : List ℕ) → ℕ → ℕ
other n end day cur = low (meets end day cur) n

unfoldable pub chase_in : (n : ℕ) (sv st : List ℕ) (a b : ℕ) → (turns : ℕ) → ℕ → List ℕ → List ℕ
chase_in n sv st a b zero cur ds = ds
chase_in n sv st a b (suc t) cur ds =
    let e = other n st ds cur in
    let ds₁ = set ds e b in
    let f = other n sv ds₁ e in
    cond (leb n e) ds (cond (leb n f) ds₁ (chase_in n sv st a b t f (set ds₁ f a)))

module _ (n : ℕ) (sv st : List ℕ) (a b : ℕ) where
  -- a turn is left while i is below n
  pub turns : (i cur : ℕ) (ds : List ℕ) → i < n → chase_in n sv st a b (n - i) cur ds ≡ chase_in n sv st a b (suc (n - (i + 1))) cur ds
  turns i cur ds h = let e : n - i ≡ suc (n - (i + 1)) = omega arith in ap (λ t. chase_in n sv st a b t cur ds) e

  pub turns_end : (i cur : ℕ) (ds : List ℕ) → i ≡ n → chase_in n sv st a b (n - i) cur ds ≡ ds
  unfolding chase_in
  turns_end i cur ds h = let e : n - i ≡ 0 = omega arith in ap (λ t. chase_in n sv st a b t cur ds) e

  module _ (t cur : ℕ) (ds : List ℕ) (e : ℕ) (he : e ≡ low (meets st ds cur) n) where
    pub chase_stop : n ≤ e → chase_in n sv st a b (suc t) cur ds ≡ ds
    unfolding chase_in
    chase_stop h = rw (← he, le-leb n e h)

    module _ (f : ℕ) (hf : f ≡ low (meets sv (set ds e b) e) n) where
      pub chase_half : e < n → n ≤ f → chase_in n sv st a b (suc t) cur ds ≡ set ds e b
      unfolding chase_in
      chase_half h k = rw (← he, lt-leb n e h, ← hf, le-leb n f k)

      pub chase_on : e < n → f < n → chase_in n sv st a b (suc t) cur ds ≡ chase_in n sv st a b t f (set (set ds e b) f a)
      unfolding chase_in
      chase_on h k = rw (← he, lt-leb n e h, ← hf, lt-leb n f k)

  -- what every change keeps, the chain keeps
  pub chase_keeps : (P : List ℕ → Type 0) → ((ds : List ℕ) (e : ℕ) → P ds → P (set ds e a)) → ((ds : List ℕ) (e : ℕ) → P ds → P (set ds e b))
      → (t cur : ℕ) (ds : List ℕ) → P ds → P (chase_in n sv st a b t cur ds)
  unfolding chase_in
  chase_keeps P ha hb zero cur ds p = p
  chase_keeps P ha hb (suc t) cur ds p =
      if-ind P (leb n e) (λ s. p) (λ s. if-ind P (leb n f) (λ s. q) (λ s. chase_keeps P ha hb t f (set ds₁ f a) (ha ds₁ f q)))
    where
      e : ℕ
      e = other n st ds cur

      ds₁ : List ℕ
      ds₁ = set ds e b

      f : ℕ
      f = other n sv ds₁ e

      q : P ds₁
      q = hb ds e p

  pub chase_length : (t cur : ℕ) (ds : List ℕ) → length (chase_in n sv st a b t cur ds) ≡ length ds
  chase_length t cur ds =
      chase_keeps (λ xs. length xs ≡ length ds) (λ xs e h. length-set xs e a ∙ h) (λ xs e h. length-set xs e b ∙ h) t cur ds refl

-- no number of the list is above the limit
abbrev pub Small : ℕ → List ℕ → Type 0
Small top ds = (j : ℕ) → at ds j ≤ top

pub set_small : (top : ℕ) (ds : List ℕ) (e x : ℕ) → x ≤ top → Small top ds → Small top (set ds e x)
set_small top ds e x h s j = by_cases (ℕ_discrete j e)
    (λ q. by_cases (dec_lt e (length ds))
    (λ l. subst (λ z. z ≤ top) (sym (ap (at (set ds e x)) q ∙ get_or-set_same ds e x 0 l)) h)
    (λ n. subst (λ z. z ≤ top) (sym (get_or-eq_default (set ds e x) 0 (omega (arith, length-set ds e x)))) (omega arith)))
    (λ d. subst (λ z. z ≤ top) (sym (get_or-set_other ds e j x 0 d)) (s j))
