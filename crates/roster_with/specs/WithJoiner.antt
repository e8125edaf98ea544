-- What the code writes where a surveyor joins, by the places of the roster's file and the marks of the joiner's list.
use Prim.Native.Nat.{ℕ, zero, suc, ◌+◌, ◌-◌, ◌*◌, ◌≤◌, ◌<◌}
use native.Mathlib.Omega.{arith}
use Rattle.std.proofs.Math.Numerals.{add-one}
use Rattle.std.specs.Prelude.{◌≡◌, Bool, false, ◌||◌, List, [], ◌∷◌, ◌++◌, length, take, drop, get_or, ltb}
use Rattle.model.specs.Limits.{entry_width, list_limit}
use Rattle.roster_positions.specs.Tables.{lists_end, behind}
use Rattle.roster_parts.specs.Rankings.{rankings_from}
use Rattle.roster_parts.specs.Gives.{roster_of}
use Rattle.roster_with.specs.Entering.{shifts_at, entering}

-- ---- the roster's parts
-- the bytes of both sides' counts and quotas, one surveyor more and the joiner's quota behind the others
abbrev pub nodes_with : List ℕ → (ns nt quota : ℕ) → List ℕ
nodes_with f ns nt q = ((((ns + 1) ∷ []) ++ take ns (drop 1 f)) ++ q ∷ []) ++ take (nt + 1) (drop (ns + 1) f)

-- the bytes of the surveyors' lists, and the joiner's list behind them
abbrev pub lists_with : List ℕ → (start end : ℕ) (list : List ℕ) → List ℕ
lists_with f start end list = take (end - start) (drop start f) ++ list

-- the bytes of n stands' lists, each with the joiner's entries behind its tie
abbrev pub rankings_with : List ℕ → (start n joiner : ℕ) (marks : ℕ → Bool) → List ℕ
rankings_with f start n s marks = rankings_from (entering s marks) f n 1 start

-- the place behind the surveyors' lists
abbrev pub end_at : List ℕ → (ns nt : ℕ) → ℕ
end_at f ns nt = lists_end f ns (ns + nt + 4)

-- the bytes of the whole roster with the joiner
abbrev pub joined_bytes : List ℕ → (ns nt end quota : ℕ) (list : List ℕ) (marks : ℕ → Bool) → List ℕ
joined_bytes f ns nt end q list marks = roster_of (ns + 1) nt (nodes_with f ns nt q) (lists_with f (ns + nt + 4) end list)
    (rankings_with f (end + 2) nt (ns + 1) marks)

-- ---- would a stand's list be too long? n stands' lists from a place on, the first of them stand j's
unfoldable pub long_from : (marks : ℕ → Bool) (f : List ℕ) (n j at : ℕ) → Bool
long_from marks f zero j at = false
long_from marks f (suc n) j at =
    ltb list_limit (get_or f at 0 + get_or f (at + 1) 0 + length (shifts_at marks j)) || long_from marks f n (suc j) (behind f at)

module _ (marks : ℕ → Bool) (f : List ℕ) (n i at : ℕ) where
  pub long_turn : i < n → (a b k : ℕ) → a ≡ get_or f at 0 → b ≡ get_or f (at + 1) 0 → k ≡ length (shifts_at marks (i + 1))
      → long_from marks f (n - i) (i + 1) at
      ≡ ltb list_limit (a + b + k) || long_from marks f (n - (i + 1)) (i + 1 + 1) (at + (entry_width * (a + b) + 2))
  unfolding long_from
  long_turn h a b k d e m = let l : n - i ≡ suc (n - (i + 1)) = omega arith in rw (m, d, e, l, add-one (i + 1))

  pub long_done : n ≤ i → long_from marks f (n - i) (i + 1) at ≡ false
  unfolding long_from
  long_done h = let l : n - i ≡ 0 = omega arith in rw l
