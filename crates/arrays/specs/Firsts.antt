-- The first numbers by key: a pass downwards that stores each number under its key leaves, under each key, the lowest one there; m where there
-- is none. Links (by node) and cells (by node and rank) are made so.
use Rattle.std.specs.Prelude.{ℕ, ◌+◌, ◌≤◌, ◌<◌, ◌≡◌, refl, ◌≢◌, Bool, true, false, ◌&&◌, List, length, set, eqb, leb}
use Rattle.std.proofs.Common.{arith, sym, ap, ap₂, ◌∙◌, get_or-set_same, get_or-set_other, le-leb}
use Rattle.std.proofs.Math.Decide.{dec_lt}
use Rattle.std.proofs.Math.Logic.{by_cases}
use Rattle.std.proofs.Math.Bool.{and-false}
use Rattle.std.proofs.lemmas.Bool.{lt-leb}
use Rattle.lists.specs.Test.{by-eq, eqb_yes, eqb_no}
use Rattle.lists.specs.Search.{low, low_hit, low_cong, low_none}
use Rattle.arrays.specs.ArrayInstance.{at}

module _ (m : ℕ) (key : ℕ → ℕ) (p : ℕ → Bool) where
  -- those in p under the key v, from i on
  abbrev pub from : (i v : ℕ) → ℕ → Bool
  from i v d = leb i d && (p d && eqb (key d) v)

  -- the first n entries are the firsts from i on
  abbrev pub Firsts : (n i : ℕ) → List ℕ → Type 0
  Firsts n i xs = (v : ℕ) → v < n → at xs v ≡ low (from i v) m

  -- nothing is at or behind m
  pub first_none : (v : ℕ) → low (from m v) m ≡ m
  first_none v = low_none (from m v) m (λ e l. ap (λ b. b && (p e && eqb (key e) v)) (lt-leb m e l))

  -- i in p is the first under its own key
  pub first_here : (i : ℕ) → i < m → p i ≡ true → low (from i (key i)) m ≡ i
  first_here i l t = low_hit (from i (key i)) i m
      (low_none (from i (key i)) i (λ e h. ap (λ b. b && (p e && eqb (key e) (key i))) (lt-leb i e h)))
      (ap₂ ◌&&◌ (le-leb i i (omega arith)) (ap₂ ◌&&◌ t (eqb_yes (key i) (key i) refl))) l

  -- one that fails at v changes nothing there
  pub first_kept : (i v : ℕ) → p i && eqb (key i) v ≡ false → low (from i v) m ≡ low (from (i + 1) v) m
  first_kept i v n = low_cong (from i v) (from (i + 1) v) m (λ d l. by-eq d i
      (λ e t. ap₂ ◌&&◌ (le-leb i d (omega arith)) (ap (λ z. p z && eqb (key z) v) e ∙ n)
      ∙ sym (ap (λ b. b && (p d && eqb (key d) v)) (lt-leb (i + 1) d (omega arith))))
      (λ ne t. by_cases (dec_lt d i)
      (λ h. ap (λ b. b && (p d && eqb (key d) v)) (lt-leb i d h ∙ sym (lt-leb (i + 1) d (omega arith))))
      (λ h. let k : i + 1 ≤ d = other d ne h in ap (λ b. b && (p d && eqb (key d) v)) (le-leb i d (omega arith) ∙ sym (le-leb (i + 1) d k)))))
    where
      other : (d : ℕ) → d ≢ i → (d < i → ⊥) → i + 1 ≤ d
      other d ne h = by_cases (dec_lt i d) (λ k. omega arith) (λ k. absurd (ne (omega arith)))

  -- one turn: i is stored under its key if it is in p
  pub firsts_stored : (n i : ℕ) (xs : List ℕ) → i < m → key i < n → length xs ≡ n → p i ≡ true → Firsts n (i + 1) xs → Firsts n i (set xs (key i) i)
  firsts_stored n i xs l w ln t F v h = by-eq v (key i)
      (λ e q. ap (at (set xs (key i) i)) e ∙ get_or-set_same xs (key i) i 0 (omega arith) ∙ sym (ap (λ z. low (from i z) m) e ∙ first_here i l t))
      (λ ne q. get_or-set_other xs (key i) v i 0 ne ∙ F v h
      ∙ sym (first_kept i v (ap (λ b. p i && b) (eqb_no (key i) v (λ (z : key i ≡ v). ne (sym z))) ∙ and-false (p i))))

  -- one turn at a number that is not in p: nothing is stored, and the firsts from i + 1 on are those from i on
  pub firsts_passed : (n i : ℕ) (xs : List ℕ) → p i ≡ false → Firsts n (i + 1) xs → Firsts n i xs
  firsts_passed n i xs t F v h = F v h ∙ sym (first_kept i v (ap (λ b. b && eqb (key i) v) t))
