-- The theorems that rest on specs/Spread.antt. They stand here so that a wrong definition there is refused by a proof.
use Prim.Native.Nat.{ℕ, zero, suc, ◌≤◌, ◌<◌}
use native.Mathlib.Omega.{arith}
use Rattle.std.proofs.Common.{not-suc-le-zero, sym, ap, ◌∙◌, inl, inr, T_not}
use Rattle.std.proofs.Math.Decide.{ℕ_discrete}
use Rattle.std.specs.Prelude.{◌≡◌, refl, ◌≢◌, ◌⊎◌, Bool, false}
use Rattle.std.proofs.Math.Path.{subst}
use Rattle.std.proofs.Math.Logic.{by_cases}
use Rattle.std.proofs.Math.Bool.{true, not}
use Rattle.std.proofs.Math.Dec.{T, eqb, eqb_refl}
use Rattle.lists.specs.Test.{bit_yes, if-ind}
use Rattle.lists.specs.Sum.{count}
use Rattle.theory_days.specs.Chain.{set_day, set_same, set_other, changes, changes_≥, end_on, Proper, Mend, chased}
use Rattle.theory_days.specs.Spread.{free_at_law, free_day, free_in_law, free_is, free_of, spread, taken, with_day}

module _ (sv st : ℕ → ℕ) (B : ℕ) where
  abbrev Spread : ℕ → ℕ → (ℕ → ℕ) → Type 0
  Spread D n c = Proper sv st n c × ((j : ℕ) → j < n → c j < D)

  less : (j k : ℕ) → j < suc k → j ≢ k → j < k
  less j k h n = omega arith

  module _ (D : ℕ) (room : D ≤ B) (k : ℕ) (c : ℕ → ℕ) (H : Spread D k c) (fewS : count (λ j. eqb (sv j) (sv k)) k < D)
      (fewT : count (λ j. eqb (st j) (st k)) k < D) where
    extended : Spread D (suc k) (with_day sv st B k c)
    unfolding with_day
    extended = if-ind (Spread D (suc k)) (not (taken sv c k (sv k) b))
        (λ t. (free_both t, begun b (free_in_law st c k (st k) D B room fewT H.1)))
        (λ t. chased sv st a b (suc k) k D (omega arith) (differ t) (free_in_law sv c k (sv k) D B room fewS H.1)
        (free_in_law st c k (st k) D B room fewT H.1) c
        (λ y i j li lj ni nj nij q s. H.0 y i j (less i k li ni) (less j k lj nj) nij q s)
        (λ j lj nj q. free_is st c k (st k) D B room fewT H.1 j (less j k lj nj) q)
        (changes (suc k)) (λ j. false) true k (set_day c k a) (mend (differ t)) (omega (arith, changes_≥ (suc k))))
      where
        a : ℕ
        a = free_day sv c k (sv k) B

        b : ℕ
        b = free_day st c k (st k) B

        -- a day that is taken at the surveyor is not the one that is free there
        differ : T (not (not (taken sv c k (sv k) b))) → a ≢ b
        differ t q = T_not (not (taken sv c k (sv k) b)) t
            (subst (λ z. T (not (taken sv c k (sv k) z))) q (free_at_law sv c k (sv k) D B room fewS H.1))

        begun : (d : ℕ) → d < D → (j : ℕ) → j < suc k → set_day c k d j < D
        begun d h j l = by_cases (ℕ_discrete j k)
            (λ r. subst (λ z. z < D) (sym (ap (set_day c k d) r ∙ set_same c k d)) h)
            (λ n. subst (λ z. z < D) (sym (set_other c k d j n)) (H.1 j (less j k l n)))

        -- k and another entry on its day: it is at the stand
        other : (y : Bool) (j : ℕ) → j < k → end_on sv st y k ≡ end_on sv st y j → a ≡ c j → y ≡ true
        other true j l q s = refl
        other false j l q s = absurd (free_is sv c k (sv k) D B room fewS H.1 j l (sym q) (sym s))

        only : (y : Bool) (i j : ℕ) → i < suc k → j < suc k → i ≢ j → end_on sv st y i ≡ end_on sv st y j → set_day c k a i ≡ set_day c k a j → (y ≡ true) ×
            ((i ≡ k) ⊎ (j ≡ k))
        only y i j li lj nij q s = by_cases (ℕ_discrete i k)
            (λ r. (
              other y j (less j k lj (λ w. nij (r ∙ sym w))) (ap (end_on sv st y) (sym r) ∙ q)
                  (sym (set_same c k a) ∙ ap (set_day c k a) (sym r) ∙ s ∙ set_other c k a j (λ w. nij (r ∙ sym w))),
              inl r,
            ))
            (λ ni. by_cases (ℕ_discrete j k)
            (λ r. (
              other y i (less i k li ni) (ap (end_on sv st y) (sym r) ∙ sym q)
                  (sym (set_same c k a) ∙ ap (set_day c k a) (sym r) ∙ sym s ∙ set_other c k a i ni),
              inr r,
            ))
            (λ nj. absurd (H.0 y i j (less i k li ni) (less j k lj nj) nij q (sym (set_other c k a i ni) ∙ s ∙ set_other c k a j nj))))

        open_end : a ≢ b → (j : ℕ) → j < suc k → st j ≡ st k → set_day c k a j ≢ b
        open_end d j lj q s = by_cases (ℕ_discrete j k)
            (λ r. d (sym (set_same c k a) ∙ ap (set_day c k a) (sym r) ∙ s))
            (λ nj. free_is st c k (st k) D B room fewT H.1 j (less j k lj nj) q (sym (set_other c k a j nj) ∙ s))

        mend : (d : a ≢ b) → Mend sv st a b (suc k) k D (omega arith) d (free_in_law sv c k (sv k) D B room fewS H.1)
            (free_in_law st c k (st k) D B room fewT H.1) c
            (λ y i j li lj ni nj nij q s. H.0 y i j (less i k li ni) (less j k lj nj) nij q s)
            (λ j lj nj q. free_is st c k (st k) D B room fewT H.1 j (less j k lj nj) q) (λ j. false) true k (set_day c k a)
        mend d = record {
          in_n_law = omega arith;
          own = set_same c k a;
          only = only;
          open_end = open_end d;
          last = inl (refl, refl);
          flipped = λ j t. absurd t;
          kept = λ j n t. set_other c k a j n;
          not_k = λ j t. absurd t;
          new = set_same c k a;
          days = begun a (free_in_law sv c k (sv k) D B room fewS H.1);
        }

        -- the day is free at both ends
        -- b free at both ends
        free_both : T (not (taken sv c k (sv k) b)) → Proper sv st (suc k) (set_day c k b)
        free_both t y i j li lj nij q s = by_cases (ℕ_discrete i k)
            (λ r. both y j (less j k lj (λ w. nij (r ∙ sym w))) (ap (end_on sv st y) (sym r) ∙ q)
            (sym (set_same c k b) ∙ ap (set_day c k b) (sym r) ∙ s ∙ set_other c k b j (λ w. nij (r ∙ sym w))))
            (λ ni. by_cases (ℕ_discrete j k)
            (λ r. both y i (less i k li ni) (ap (end_on sv st y) (sym r) ∙ sym q)
            (sym (set_same c k b) ∙ ap (set_day c k b) (sym r) ∙ sym s ∙ set_other c k b i ni))
            (λ nj. H.0 y i j (less i k li ni) (less j k lj nj) nij q (sym (set_other c k b i ni) ∙ s ∙ set_other c k b j nj)))
          where
            both : (y : Bool) (j : ℕ) → j < k → end_on sv st y k ≡ end_on sv st y j → b ≡ c j → ⊥
            both true j l q s = free_is st c k (st k) D B room fewT H.1 j l (sym q) (sym s)
            both false j l q s = free_of sv c k (sv k) b t j l (sym q) (sym s)

  grows : (end : ℕ → ℕ) (v k : ℕ) → count (λ j. eqb (end j) v) k ≤ count (λ j. eqb (end j) v) (suc k)
  unfolding count
  grows end v k = omega arith

  own_end : (end : ℕ → ℕ) (k : ℕ) → count (λ j. eqb (end j) (end k)) k < count (λ j. eqb (end j) (end k)) (suc k)
  unfolding count
  own_end end k = omega (arith, bit_yes (eqb (end k) (end k)) (eqb_refl (end k)))

  -- with at most D entries at every surveyor and every stand, no two of a node share a day, and no day is D or above
  pub spread_proper : (D : ℕ) → D ≤ B → (n : ℕ) → ((v : ℕ) → count (λ j. eqb (sv j) v) n ≤ D) → ((v : ℕ) → count (λ j. eqb (st j) v) n ≤ D)
      → Proper sv st n (spread sv st B n) × ((j : ℕ) → j < n → spread sv st B n j < D)
  unfolding spread
  spread_proper D room zero hs ht = ((λ y i j li. absurd (not-suc-le-zero li)), λ j l. absurd (not-suc-le-zero l))
  spread_proper D room (suc k) hs ht = extended D room k (spread sv st B k)
      (spread_proper D room k (λ v. omega (arith, hs v, grows sv v k)) (λ v. omega (arith, ht v, grows st v k)))
      (omega (arith, hs (sv k), own_end sv k)) (omega (arith, ht (st k), own_end st k))
