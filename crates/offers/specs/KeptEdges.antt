-- The edges that the stands keep, marked stand by stand: each stand keeps an edge of its own, so an edge is marked at its stand or not at all.
use Rattle.std.specs.Prelude.{ℕ, ◌+◌, ◌≤◌, ◌<◌, ◌≡◌, refl, ◌≢◌, Bool, true, false, cond, ◌&&◌, List, length, set, replicate, eqb, ltb}
use Rattle.std.proofs.Common.{arith, sym, ap, ap₂, ◌∙◌, get_or-set_same, get_or-set_other, lt-ltb, le-ltb}
use Rattle.std.proofs.Math.Decide.{dec_lt}
use Rattle.std.proofs.Math.Logic.{by_cases}
use Rattle.lists.specs.Test.{by-eq, eqb_yes, eqb_no}
use Rattle.model.specs.Limits.{node_limit, entry_limit}
use Rattle.arrays.specs.ArrayInstance.{at, flag}
use Rattle.arrays.specs.Passes.{Low, Shows, all_blank}

-- a stand keeps an edge of its own
abbrev pub Own : (m : ℕ) (st kept : List ℕ) → Type 0
Own m st kept = (t : ℕ) → t < node_limit → at kept t < m → at st (at kept t) ≡ t

-- the stand of e keeps it
abbrev pub is_kept : (st kept : List ℕ) (e : ℕ) → Bool
is_kept st kept e = eqb (at kept (at st e)) e

-- and is one of the first n
abbrev pub kept_before : (st kept : List ℕ) (n e : ℕ) → Bool
kept_before st kept n e = is_kept st kept e && ltb (at st e) n

and_none : (b : Bool) → b && false ≡ false
and_none true = refl
and_none false = refl

and_yes : (b : Bool) → b && true ≡ b
and_yes true = refl
and_yes false = refl

module _ (m : ℕ) (st kept : List ℕ) where
  -- the flags of the edges that the first n stands keep
  abbrev pub Marked : (plan : List Bool) (n : ℕ) → Type 0
  Marked plan n = Shows false plan m (kept_before st kept n)

  outside : (p q : ℕ → Bool) (e : ℕ) → m ≤ e → cond (ltb e m) (p e) false ≡ cond (ltb e m) (q e) false
  outside p q e h = ap (λ b. cond b (p e) false) (le-ltb e m h) ∙ sym (ap (λ b. cond b (q e) false) (le-ltb e m h))

  -- flags that are equal at every edge
  equal : (p q : ℕ → Bool) → ((e : ℕ) → e < m → p e ≡ q e) → (plan : List Bool) → Shows false plan m p → Shows false plan m q
  equal p q h plan S e = S e ∙ by_cases (dec_lt e m) (λ l. ap (λ b. cond (ltb e m) b false) (h e l)) (λ n. outside p q e (omega arith))

  pub marked_none : Marked (replicate entry_limit false) 0
  marked_none = equal (λ e. false) (kept_before st kept 0)
      (λ e l. sym (ap (λ b. is_kept st kept e && b) (le-ltb (at st e) 0 (omega arith)) ∙ and_none (is_kept st kept e)))
      (replicate entry_limit false) (λ e. all_blank false entry_limit e ∙ sym (same (ltb e m)))
    where
      same : (b : Bool) → cond b false false ≡ false
      same true = refl
      same false = refl

  -- an edge that stand n does not keep
  kept_else : (n e : ℕ) → e ≢ at kept n → kept_before st kept n e ≡ kept_before st kept (n + 1) e
  kept_else n e k = by-eq (at st e) n
      (λ q b. let z = eqb_no (at kept (at st e)) e (λ i. k (sym i ∙ ap (at kept) q)) in
      ap (λ x. x && ltb (at st e) n) z ∙ sym (ap (λ x. x && ltb (at st e) (n + 1)) z))
      (λ q b. ap (λ x. is_kept st kept e && x) (by_cases (dec_lt (at st e) n)
      (λ h. lt-ltb (at st e) n h ∙ sym (lt-ltb (at st e) (n + 1) (omega arith)))
      (λ h. le-ltb (at st e) n (omega arith) ∙ sym (le-ltb (at st e) (n + 1) (omega arith)))))

  module _ (plan : List Bool) (n : ℕ) (S : Marked plan n) where
    -- stand n keeps none
    pub marked_passed : m ≤ at kept n → Marked plan (n + 1)
    marked_passed h = equal (kept_before st kept n) (kept_before st kept (n + 1)) (λ e l. kept_else n e (λ q. let n : ⊥ = omega arith in n)) plan S

    -- it keeps one
    pub marked_next : Own m st kept → n < node_limit → at kept n < m → m ≤ length plan → Marked (set plan (at kept n) true) (n + 1)
    marked_next O w l z e = by-eq e (at kept n)
        (λ q b. let o : at st e ≡ n = ap (at st) q ∙ O n w l in
        ap (flag (set plan (at kept n) true)) q ∙ get_or-set_same plan (at kept n) true false (omega arith)
        ∙ sym (ap (λ b. cond b (kept_before st kept (n + 1) e) false) (lt-ltb e m (omega arith))
        ∙ ap₂ ◌&&◌ (eqb_yes (at kept (at st e)) e (ap (at kept) o ∙ sym q)) (lt-ltb (at st e) (n + 1) (omega arith))))
        (λ q b. get_or-set_other plan (at kept n) e true false q ∙ S e ∙ ap (λ b. cond (ltb e m) b false) (kept_else n e q))

  pub marked_all : Low m st node_limit → (plan : List Bool) (n : ℕ) → node_limit ≤ n → Marked plan n → Shows false plan m (is_kept st kept)
  marked_all L plan n h S = equal (kept_before st kept n) (is_kept st kept)
      (λ e l. ap (λ b. is_kept st kept e && b) (lt-ltb (at st e) n (omega (arith, L e l))) ∙ and_yes (is_kept st kept e)) plan S
