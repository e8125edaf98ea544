-- Small facts of the code's values: flags of arrays, and which rules fix.
use Prim.Native.Nat.{ℕ, zero, suc, ◌+◌, ◌<◌}
use native.Mathlib.Omega.{arith}
use mathlib.Core.Path.{◌≡◌, refl, sym, ◌∙◌, subst}
use mathlib.Core.Bool.{Bool, true, false, ◌||◌}
use mathlib.Core.List.{List}
use mathlib.Core.Logic.{by_cases}
use native.Mathlib.Decide.{dec_lt}
use lib.ListN.{length, set, replicate}
use lib.Seq.{get_or-set_same, get_or-set_other}
use lib.Dec.{eqb, ltb}
use borrow.Author.Tests.{lt-ltb, le-ltb, ne_eqb}
use Rattle.lists.specs.Test.{by-eq}
use Rattle.model.specs.Reduction.{fixes}
use Rattle.theory_reduction.specs.RuleNumbers.{fate_of}
use Rattle.arrays.specs.ArrayInstance.{flag}

pub no_flags : (n e : ℕ) → flag (replicate n false) e ≡ false
no_flags zero e = refl
no_flags (suc n) zero = refl
no_flags (suc n) (suc e) = no_flags n e

pub none_yet : (e : ℕ) → flag (replicate 1024 false) e ≡ ltb e 0
none_yet e = no_flags 1024 e ∙ sym (le-ltb e 0 (omega arith))

up_one : (e i : ℕ) → (e ≡ i → ⊥) → ltb e i ≡ ltb e (i + 1)
up_one e i n = by_cases (dec_lt e i)
    (λ h. lt-ltb e i h ∙ sym (lt-ltb e (i + 1) (omega arith)))
    (λ h. le-ltb e i (omega arith) ∙ sym (le-ltb e (i + 1) (omega arith)))

pub all_next : (o : List Bool) (i : ℕ) → i < length o → ((e : ℕ) → flag o e ≡ ltb e i) → (e : ℕ) → flag (set o i true) e ≡ ltb e (i + 1)
all_next o i l h e = by-eq e i
    (λ q t. subst (λ z. flag (set o i true) z ≡ ltb e (i + 1)) (sym q) (get_or-set_same o i true false l ∙ sym (lt-ltb e (i + 1) (omega arith))))
    (λ n t. get_or-set_other o i e true false n ∙ h e ∙ up_one e i n)

pub fixes_is : (r : ℕ) → ((eqb r 1 || eqb r 3) || eqb r 6) || eqb r 7 ≡ fixes (fate_of r)
unfolding fate_of
fixes_is zero = refl
fixes_is (suc zero) = refl
fixes_is (suc (suc zero)) = refl
fixes_is (suc (suc (suc zero))) = refl
fixes_is (suc (suc (suc (suc zero)))) = refl
fixes_is (suc (suc (suc (suc (suc zero))))) = refl
fixes_is (suc (suc (suc (suc (suc (suc zero)))))) = refl
fixes_is (suc (suc (suc (suc (suc (suc (suc zero))))))) = refl
fixes_is (suc (suc (suc (suc (suc (suc (suc (suc n)))))))) =
    let r = suc (suc (suc (suc (suc (suc (suc (suc n))))))) in
    rw (
      ne_eqb r 1 (λ (q : r ≡ 1). omega arith),
      ne_eqb r 3 (λ (q : r ≡ 3). omega arith),
      ne_eqb r 6 (λ (q : r ≡ 6). omega arith),
      ne_eqb r 7 (λ (q : r ≡ 7). omega arith),
    )
