-- Votes in 16 bits: a vote below zero, and one that is not. Assumes nothing.
use Prim.Native.Nat.{ℕ, suc, ◌+◌, ◌-◌, zero-le}
use native.Mathlib.Omega.{arith}
use native.Mathlib.Numerals.{add-one}
use mathlib.Core.Path.{◌≡◌, refl, sym, ap, ◌∙◌, subst}
use mathlib.Core.Bool.{Bool, true, false, cond}
use mathlib.Core.List.{◌++◌}
use lib.IntN.{ℤ, pos, negsuc, nat_abs, ◌-ℤ◌}
use lib.Signed.{mag, lt_z, non_neg}
use lib.Dec.{T}
use mir.Syntax.{w16, w64}
use mir.Val.{to_z, of_z, SFits, Fits}
use mir.ValLaws.{to_z-of_z}
use borrow.Author.Rules.{sfits_of}
use borrow.Author.Tests.{le-ltb}
use Rattle.model.specs.Text.{text}
use Rattle.model.specs.Printed.{number, signed}
use Rattle.text_lines.specs.Votes.{size_of}

negative : (v : ℤ) → lt_z v (pos 0) ≡ true → v ≡ negsuc (mag v)
negative (pos n) t = let z : ◌≡◌ {A = ℕ} 0 1 = cc (le-ltb n 0 zero-le) in absurd (omega arith)
negative (negsuc n) t = refl

positive : (v : ℤ) → lt_z v (pos 0) ≡ false → v ≡ pos (mag v)
positive (pos n) t = refl
positive (negsuc n) t = let z : ◌≡◌ {A = ℕ} 0 1 = cc in absurd (omega arith)

-- -1 less a vote below zero
one_less : (n : ℕ) → negsuc 0 -ℤ negsuc n ≡ pos n
one_less n =
    ap (λ (b : Bool). cond b (negsuc (1 - suc (suc n))) (pos (suc n - 1))) (le-ltb (suc n) 1 (omega arith)) ∙ ap pos (let e : suc n - 1 ≡ n = omega arith in e)

module _ (v : ℤ) (f : SFits w16 v) where
  kept : to_z w16 (of_z w16 v) ≡ v
  kept = to_z-of_z w16 v f

  module _ (t : lt_z (to_z w16 (of_z w16 v)) (pos 0) ≡ true) where
    is : v ≡ negsuc (mag v)
    is = negative v (subst (λ z. lt_z z (pos 0) ≡ true) kept t)

    less : negsuc 0 -ℤ to_z w16 (of_z w16 v) ≡ pos (mag v)
    less = ap (λ z. negsuc 0 -ℤ z) (kept ∙ is) ∙ one_less (mag v)

    pub below_fits : SFits w16 (negsuc 0 -ℤ to_z w16 (of_z w16 v))
    below_fits = rw less (sfits_of f.sfits)

    read : to_z w16 (of_z w16 (negsuc 0 -ℤ to_z w16 (of_z w16 v))) ≡ pos (mag v)
    read = to_z-of_z w16 (negsuc 0 -ℤ to_z w16 (of_z w16 v)) below_fits ∙ less

    pub below_cast : T (non_neg (to_z w16 (of_z w16 (negsuc 0 -ℤ to_z w16 (of_z w16 v))))) × Fits w64 (nat_abs (to_z w16 (of_z w16 (negsuc 0 -ℤ to_z w16 (of_z w16 v)))))
    below_cast = rw read (tt, record { fits = omega (arith, f.sfits) })

    pub below_add : Fits w64 (nat_abs (to_z w16 (of_z w16 (negsuc 0 -ℤ to_z w16 (of_z w16 v)))) + 1)
    below_add = rw read (record { fits = omega (arith, f.sfits) })

    pub below_size : nat_abs (to_z w16 (of_z w16 (negsuc 0 -ℤ to_z w16 (of_z w16 v)))) + 1 ≡ size_of v
    below_size = ap (λ z. nat_abs z + 1) read ∙ add-one (mag v) ∙ sym (ap size_of is)

    pub below_text : {n : ℕ} → n ≡ size_of (to_z w16 (of_z w16 v)) → text "-" ++ number n ≡ signed v
    below_text e = ap (λ k. text "-" ++ number k) (e ∙ ap size_of (kept ∙ is)) ∙ sym (ap signed is)

  module _ (t : lt_z (to_z w16 (of_z w16 v)) (pos 0) ≡ false) where
    so : v ≡ pos (mag v)
    so = positive v (subst (λ z. lt_z z (pos 0) ≡ false) kept t)

    pub above_cast : T (non_neg (to_z w16 (of_z w16 v))) × Fits w64 (nat_abs (to_z w16 (of_z w16 v)))
    above_cast = rw (kept ∙ so) (tt, record { fits = omega (arith, f.sfits) })

    pub above_text : {n : ℕ} → n ≡ size_of (to_z w16 (of_z w16 v)) → number n ≡ signed v
    above_text e = ap number (e ∙ ap size_of (kept ∙ so)) ∙ sym (ap signed so)
