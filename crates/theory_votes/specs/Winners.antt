-- What the answers of a comparison say (W-206). "a plan beats another when the other's vote against it is below zero. Each may then beat the other":
-- the first beats the second exactly when w, the second's vote against it, is below zero, and the second the first exactly when v is. As the two
-- votes of two plans add to at most zero, neither beats the other exactly when both votes are zero; not both votes are above zero; and a plan whose
-- vote is above zero, document 01's winner, still wins.
use Rattle.std.specs.Prelude.{ℕ, ◌≡◌, refl, Bool, true, false, cond, ◌⊎◌, ◌↔◌, T, ℤ, pos, ◌≤ℤ◌, ◌<ℤ◌}
use Rattle.std.proofs.Common.{sym, ap₂, subst, inl, inr, ⊎_elim}
use Rattle.std.proofs.Math.Dec.{not_T}
use Rattle.std.specs.Int.Signed.{lt_z, lt_z_yes, lt_z_no, clash_ℤ}
use Rattle.lists.specs.Test.{T_true, T_false, false_t}
use Rattle.lists.specs.Integer.{<→≤, sum_above, sum_below, sum_zero}
use Rattle.model.specs.Instance.{Instance}
use Rattle.model.specs.Vote.{vote}
use Rattle.model_desk.specs.Compare.{Winner, first, second, both, neither, winner_of}
use Rattle.theory_instance.specs.Lawful.{Matching}
use Rattle.theory_votes.specs.PlanVotes.{vote_both}

-- ---- who beats the other, by the answer
abbrev first_beats : Winner → Bool
first_beats first = true
first_beats second = false
first_beats both = true
first_beats neither = false

abbrev second_beats : Winner → Bool
second_beats first = false
second_beats second = true
second_beats both = true
second_beats neither = false

first_named : (x : Winner) → T (first_beats x) → (x ≡ first) ⊎ (x ≡ both)
first_named first t = inl refl
first_named second t = absurd t
first_named both t = inr refl
first_named neither t = absurd t

second_named : (x : Winner) → T (second_beats x) → (x ≡ second) ⊎ (x ≡ both)
second_named first t = absurd t
second_named second t = inl refl
second_named both t = inr refl
second_named neither t = absurd t

told : (f : Winner → Bool) {x y : Winner} → T (f y) → x ≡ y → T (f x)
told f t e = subst (λ z. T (f z)) (sym e) t

-- ---- and by the two tests that `winner_of` makes
abbrev by_tests : (x y : Bool) → Winner
by_tests x y = cond x (cond y both first) (cond y second neither)

first_test : (x y : Bool) → first_beats (by_tests x y) ≡ x
first_test true true = refl
first_test true false = refl
first_test false true = refl
first_test false false = refl

second_test : (x y : Bool) → second_beats (by_tests x y) ≡ y
second_test true true = refl
second_test true false = refl
second_test false true = refl
second_test false false = refl

-- ---- the votes v of the first and w of the second
module _ (v w : ℤ) where
  first_is : first_beats (winner_of v w) ≡ lt_z w (pos 0)
  first_is = first_test (lt_z w (pos 0)) (lt_z v (pos 0))

  second_is : second_beats (winner_of v w) ≡ lt_z v (pos 0)
  second_is = second_test (lt_z w (pos 0)) (lt_z v (pos 0))

  pub first_means : ((winner_of v w ≡ first) ⊎ (winner_of v w ≡ both)) ↔ (w <ℤ pos 0)
  first_means = (
    λ e. lt_z_yes (subst T first_is (⊎_elim (told first_beats tt) (told first_beats tt) e)),
    λ h. first_named (winner_of v w) (subst T (sym first_is) h.lt),
  )

  pub second_means : ((winner_of v w ≡ second) ⊎ (winner_of v w ≡ both)) ↔ (v <ℤ pos 0)
  second_means = (
    λ e. lt_z_yes (subst T second_is (⊎_elim (told second_beats tt) (told second_beats tt) e)),
    λ h. second_named (winner_of v w) (subst T (sym second_is) h.lt),
  )

  -- neither: no vote is below zero
  unbeaten : winner_of v w ≡ neither → (pos 0 ≤ℤ v) × (pos 0 ≤ℤ w)
  unbeaten e = (
    lt_z_no (false_t (sym (subst (λ x. second_beats x ≡ lt_z v (pos 0)) e second_is))),
    lt_z_no (false_t (sym (subst (λ x. first_beats x ≡ lt_z w (pos 0)) e first_is))),
  )

-- ---- of two plans within the quotas
module _ (G : Instance) (M N : ℕ → Bool) (p : Matching G M) (q : Matching G N) where
  pub not_above_both : pos 0 <ℤ vote G M N → pos 0 <ℤ vote G N M → ⊥
  not_above_both h k = sum_above (vote G M N) (vote G N M) h k (vote_both G M N p q)

  pub neither_zero : (winner_of (vote G M N) (vote G N M) ≡ neither) ↔ ((vote G M N ≡ pos 0) × (vote G N M ≡ pos 0))
  neither_zero = (λ e. zero (unbeaten (vote G M N) (vote G N M) e), λ z. ap₂ winner_of z.0 z.1)
    where
      zero : (pos 0 ≤ℤ vote G M N) × (pos 0 ≤ℤ vote G N M) → (vote G M N ≡ pos 0) × (vote G N M ≡ pos 0)
      zero h = sum_zero (vote G M N) (vote G N M) h.0 h.1 (vote_both G M N p q)

  -- who won before W-206 still wins
  pub above_wins : pos 0 <ℤ vote G M N → winner_of (vote G M N) (vote G N M) ≡ first
  above_wins h = ap₂ by_tests loses stays
    where
      loses : lt_z (vote G N M) (pos 0) ≡ true
      loses = T_true (sum_below (vote G M N) (vote G N M) h (vote_both G M N p q)).lt

      stays : lt_z (vote G M N) (pos 0) ≡ false
      stays = T_false (not_T (lt_z (vote G M N) (pos 0)) (λ t. clash_ℤ (lt_z_yes t) (<→≤ h)))
