-- The stands' lists in a roster's bytes, one behind the other, and what is made of the bytes of each of them: of its strict part's and of its
-- tie's.
use Prim.Native.Nat.{ℕ, zero, suc, ◌+◌, ◌-◌, ◌*◌, ◌≤◌, ◌<◌}
use native.Mathlib.Omega.{arith}
use Rattle.std.proofs.Math.Numerals.{add-one}
use Rattle.std.specs.Prelude.{◌≡◌, refl, List, [], ◌∷◌, ◌++◌, length, take, drop, get_or}
use Rattle.std.proofs.Common.{sym, ap, ap₂, ◌∙◌, append_assoc}
use Rattle.lists.specs.Test.{given}
use Rattle.lists.specs.Keep.{gather}
use Rattle.lists.specs.Ranges.{gather_append}
use Rattle.model.specs.Limits.{entry_width}
use Rattle.model.specs.Roster.{Ranking}
use Rattle.model.specs.RosterFile.{shifted, ranking_bytes}
use Rattle.roster_positions.specs.Tables.{strict_at, tied_at, behind}
use Rattle.roster_positions.specs.Rows.{bytes_of, ranking_is}

-- a stand's list, written length by length and part by part
pub ranking_written : (R : Ranking) (a b : ℕ) → a ≡ length R.strict → b ≡ length R.tied
    → a ∷ b ∷ (bytes_of R.strict ++ bytes_of R.tied) ≡ ranking_bytes shifted R
ranking_written R a b d e = ap₂ (λ x y. x ∷ y ∷ (bytes_of R.strict ++ bytes_of R.tied)) d e
    ∙ ap (λ z. length R.strict ∷ length R.tied ∷ z) (sym (gather_append shifted.bytes R.strict R.tied))

-- the bytes that w makes of n stands' lists from a place on, the first of them stand j's
unfoldable pub rankings_from : (w : ℕ → (strict tied : List ℕ) → List ℕ) (f : List ℕ) (n j at : ℕ) → List ℕ
rankings_from w f zero j at = []
rankings_from w f (suc n) j at = w j (strict_at f at) (tied_at f at) ++ rankings_from w f n (suc j) (behind f at)

-- and of the model's lists
unfoldable pub gather_from : (w : ℕ → (strict tied : List ℕ) → List ℕ) (j : ℕ) → List Ranking → List ℕ
gather_from w j [] = []
gather_from w j (R ∷ ts) = w j (bytes_of R.strict) (bytes_of R.tied) ++ gather_from w (suc j) ts

-- ---- one turn of a loop over them
module _ (w : ℕ → (strict tied : List ℕ) → List ℕ) (f : List ℕ) (n i at : ℕ) where
  -- the next stand's list: what w makes of its two parts, and then what is made of the lists behind it
  pub rankings_turn : i < n → (a b : ℕ) → a ≡ get_or f at 0 → b ≡ get_or f (at + 1) 0 → (xs ys : List ℕ) → xs ≡ take (entry_width * a) (drop (at + 2) f)
      → ys ≡ take (entry_width * b) (drop (at + 2 + entry_width * a) f)
      → rankings_from w f (n - i) (i + 1) at ≡ w (i + 1) xs ys ++ rankings_from w f (n - (i + 1)) (i + 1 + 1) (at + (entry_width * (a + b) + 2))
  unfolding rankings_from
  rankings_turn h a b d e xs ys x y = let k : n - i ≡ suc (n - (i + 1)) = omega arith in rw (x, y, d, e, k, add-one (i + 1))

  -- behind the last list nothing is made
  pub rankings_done : n ≤ i → rankings_from w f (n - i) (i + 1) at ≡ []
  unfolding rankings_from
  rankings_done h = let k : n - i ≡ 0 = omega arith in rw k

-- ---- the bytes are those of the model's lists
-- where stands' lists stand at a place of the file, what is made of the bytes there is what is made of the lists
pub rankings_are : (w : ℕ → (strict tied : List ℕ) → List ℕ) (ts : List Ranking) (f : List ℕ) (at : ℕ) (post : List ℕ)
    → drop at f ≡ gather (ranking_bytes shifted) ts ++ post → (j : ℕ) → rankings_from w f (length ts) j at ≡ gather_from w j ts
unfolding rankings_from gather_from
rankings_are w [] f at post e j = refl
rankings_are w (R ∷ ts) f at post e j =
    let rest = gather (ranking_bytes shifted) ts in
    given (ranking_is f at R (rest ++ post) (e ∙ append_assoc (ranking_bytes shifted R) rest post)) (λ q.
    ap (λ z. z ++ rankings_from w f (length ts) (suc j) (behind f at)) (ap₂ (w j) q.strict q.tied)
    ∙ ap (λ z. w j (bytes_of R.strict) (bytes_of R.tied) ++ z) (rankings_are w ts f (behind f at) post q.rest (suc j)))
