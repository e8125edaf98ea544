-- The digits of a number, one by one.
use Rattle.std.specs.Prelude.{ℕ, zero, suc, ◌+◌, ◌-◌, ◌/◌, ◌%◌, ◌≤◌, ◌<◌, ◌≡◌, refl, Bool, true, false, List, [], ◌∷◌, ◌++◌, length}
use Rattle.std.proofs.Common.{zero-le, arith, ap, ◌∙◌, length-append, lt-ltb, le-ltb}
use Rattle.std.proofs.Math.Decide.{dec_lt}
use Rattle.std.proofs.Math.Logic.{by_cases}
use Rattle.model.specs.Printed.{digits, number}

pub digits_none : (n : ℕ) → digits 0 n ≡ []
unfolding digits
digits_none n = refl

pub digits_last : (k n : ℕ) → 0 < k → n < 10 → digits k n ≡ (48 + n) ∷ []
unfolding digits
digits_last zero n h g = absurd (omega arith)
digits_last (suc k) n h g =
    ap (λ (b : Bool). elim b as (λ b. List ℕ) [ true ↦ (48 + n) ∷ [] | false ↦ digits k (n / 10) ++ (48 + n % 10) ∷ [] ]) (lt-ltb n 10 g)

pub digits_more : (k n : ℕ) → 0 < k → 10 ≤ n → digits k n ≡ digits (k - 1) (n / 10) ++ (48 + n % 10) ∷ []
unfolding digits
digits_more zero n h g = absurd (omega arith)
digits_more (suc k) n h g =
    ap (λ (b : Bool). elim b as (λ b. List ℕ) [ true ↦ (48 + n) ∷ [] | false ↦ digits k (n / 10) ++ (48 + n % 10) ∷ [] ]) (le-ltb n 10 g)
    ∙ ap (λ j. digits j (n / 10) ++ (48 + n % 10) ∷ []) (let e : k ≡ suc k - 1 = omega arith in e)

-- a number has at most as many digits as it has places
pub digits_length : (k n : ℕ) → length (digits k n) ≤ k
digits_length zero n = rw (digits_none n) zero-le
digits_length (suc k) n = by_cases (dec_lt n 10)
    (λ h. rw (digits_last (suc k) n (omega arith) h) (omega arith))
    (λ h. let g : 10 ≤ n = omega arith in let e : suc k - 1 ≡ k = omega arith in
    rw (digits_more (suc k) n (omega arith) g, e) (simp length-append (omega (arith, digits_length k (n / 10)))))

-- a number of four digits and the byte behind it
abbrev pub field_size : ℕ
field_size = 5

-- a number with a byte behind it has at most five bytes
pub field_length : (n end : ℕ) → length (number n ++ end ∷ []) ≤ field_size
field_length n end = simp length-append (omega (arith, digits_length 4 n))
