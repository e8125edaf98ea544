-- Ordered by a number, and where two have the same one by what comes behind it: an entry by its number and shift, a pair by its surveyor,
-- stand and shift.
use Rattle.std.specs.Prelude.{ℕ, ◌<◌, ◌≡◌, ◌⊎◌, Bool, ◌&&◌, ◌||◌, T, eqb, ltb}
use Rattle.std.proofs.Common.{arith, inl, inr, eqb→eq, ltb→lt, lt→ltb}
use Rattle.std.proofs.Math.Logic.{⊎_map}
use Rattle.lists.specs.Test.{and_l, and_r, and_i, or_l, or_r, or_case, eq→eqb}
use Rattle.model.specs.Roster.{Entry, before}

-- by the first number, else by the rest: as a fact and as a test
abbrev pub First : ℕ → ℕ → Type 0 → Type 0
First a b P = (a < b) ⊎ ((a ≡ b) × P)

abbrev pub first : ℕ → ℕ → Bool → Bool
first a b t = ltb a b || (eqb a b && t)

pub first→ : (a b : ℕ) (t : Bool) → T (first a b t) → First a b (T t)
first→ a b t u = ⊎_map (ltb→lt a b) (λ v. (eqb→eq a b (and_l (eqb a b) t v), and_r (eqb a b) t v)) (or_case (ltb a b) (eqb a b && t) u)

pub →first : (a b : ℕ) (t : Bool) → First a b (T t) → T (first a b t)
→first a b t (inl l) = or_l (ltb a b) (eqb a b && t) (lt→ltb a b l)
→first a b t (inr (e, u)) = or_r (ltb a b) (eqb a b && t) (and_i (eqb a b) t (eq→eqb a b e) u)

-- ---- entries
abbrev pub InOrder : Entry → Entry → Type 0
InOrder x y = First x.number y.number (x.shift < y.shift)

before→ : (x y : Entry) → T (before x y) → InOrder x y
before→ x y t = ⊎_map (λ l. l) (λ (e, u). (e, ltb→lt x.shift y.shift u)) (first→ x.number y.number (ltb x.shift y.shift) t)

-- entries in order pass the model's test
pub →before : (x y : Entry) → InOrder x y → T (before x y)
→before x y b = →first x.number y.number (ltb x.shift y.shift) (⊎_map (λ l. l) (λ (e, l). (e, lt→ltb x.shift y.shift l)) b)

before_trans : (x y z : Entry) → InOrder x y → InOrder y z → InOrder x z
before_trans x y z (inl k) (inl l) = inl (omega arith)
before_trans x y z (inl k) (inr (e, l)) = inl (omega arith)
before_trans x y z (inr (d, k)) (inl l) = inl (omega arith)
before_trans x y z (inr (d, k)) (inr (e, l)) = inr (omega arith, omega arith)

-- of three entries, the first is before the last if the second stands between them
pub before_on : (x y z : Entry) → T (before x y) → T (before y z) → T (before x z)
before_on x y z a b = →before x z (before_trans x y z (before→ x y a) (before→ y z b))
