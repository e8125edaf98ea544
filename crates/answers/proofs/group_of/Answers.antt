-- `answers::group_of` meets its contract: the bounds that each arm of the `match` leaves settle the model's tests. Assumes nothing.
use Rattle.std.proofs.Common.{ℕ, zero, suc, ◌≤◌, ◌<◌, arith, ◌≡◌, refl, sym, ap, false, eqb, le-leb, ne_eqb}
use borrow.Author.Tests.{lt-leb}
use Rattle.model.specs.Refusal.{form, content, plan, desk, group_of}
use Rattle.answers.proofs.group_of.Goals as goal

-- a number on one side of another is not equal to it
below : (n k : ℕ) → n < k → eqb n k ≡ false
below n k h = ne_eqb n k (λ (e : n ≡ k). omega arith)

above : (n k : ℕ) → k < n → eqb n k ≡ false
above n k h = ne_eqb n k (λ (e : n ≡ k). omega arith)

is_form : (n : ℕ) → 1 ≤ n → n < 3 → form ≡ group_of n
unfolding group_of
is_form zero lo hi = absurd (let z : ⊥ = omega arith in z)
is_form (suc zero) lo hi = refl
is_form (suc (suc zero)) lo hi = refl
is_form (suc (suc (suc n))) lo hi = absurd (let z : ⊥ = omega arith in z)

is_plan_law : (n : ℕ) → 10 ≤ n → n < 13 → plan ≡ group_of n
unfolding group_of
is_plan_law n lo hi = simp (above n 1 (omega arith), above n 2 (omega arith), above n 9 lo, le-leb 10 n lo, le-leb n 12 (omega arith))

is_desk : (n : ℕ) → 13 ≤ n → n < 16 → desk ≡ group_of n
unfolding group_of
is_desk n lo hi =
    simp (
      above n 1 (omega arith),
      above n 2 (omega arith),
      above n 9 (omega arith),
      lt-leb n 12 lo,
      le-leb 10 n (omega arith),
      le-leb 13 n lo,
      le-leb n 15 (omega arith),
    )

is_none : (n : ℕ) → n < 1 → content ≡ group_of n
unfolding group_of
is_none n hi =
    simp (below n 1 hi, below n 2 (omega arith), below n 9 (omega arith), below n 20 (omega arith), lt-leb 10 n (omega arith), lt-leb 13 n (omega arith))

is_content : (n : ℕ) → 3 ≤ n → n < 9 → content ≡ group_of n
unfolding group_of
is_content n lo hi =
    simp (above n 1 (omega arith), above n 2 (omega arith), below n 9 hi, below n 20 (omega arith), lt-leb 10 n (omega arith), lt-leb 13 n (omega arith))

is_later : (n : ℕ) → 16 ≤ n → (n ≡ 20 → ⊥) → content ≡ group_of n
unfolding group_of
is_later n lo other =
    simp (
      ne_eqb n 20 other,
      above n 1 (omega arith),
      above n 2 (omega arith),
      above n 9 (omega arith),
      le-leb 10 n (omega arith),
      lt-leb n 12 (omega arith),
      le-leb 13 n (omega arith),
      lt-leb n 15 lo,
    )

pub returns-in-3-to-8 : goal.returns-in-3-to-8
returns-in-3-to-8 c = is_content c.args.number (omega arith) (omega arith)

pub returns-in-10-to-12 : goal.returns-in-10-to-12
returns-in-10-to-12 c = is_plan_law c.args.number (omega arith) (omega arith)

pub returns-in_default : goal.returns-in_default
returns-in_default c = is_none c.args.number (omega arith)

pub returns-in_default-2 : goal.returns-in_default-2
returns-in_default-2 c = is_later c.args.number (omega arith) (λ (e : c.args.number ≡ 20). omega arith)

pub returns-in-13-to-15 : goal.returns-in-13-to-15
unfolding group_of
returns-in-13-to-15 c = let e : c.args.number ≡ 20 = omega arith in sym (ap group_of e)

pub returns-in-13-to-15-2 : goal.returns-in-13-to-15-2
returns-in-13-to-15-2 c = is_desk c.args.number (omega arith) (omega arith)

pub returns-in-1 : goal.returns-in-1
unfolding group_of
returns-in-1 c = let e : c.args.number ≡ 9 = omega arith in sym (ap group_of e)

pub returns-in-1-2 : goal.returns-in-1-2
returns-in-1-2 c = is_form c.args.number (omega arith) (omega arith)
