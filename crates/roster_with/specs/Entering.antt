-- What the code writes of a stand's list where a surveyor joins, by the marks of the joiner's list.
use Rattle.std.specs.Prelude.{ℕ, suc, ◌+◌, ◌-◌, ◌/◌, ◌%◌, ◌≤◌, ◌<◌, ◌≡◌, Bool, true, false, cond, List, [], ◌∷◌, ◌++◌, map, length, get_or}
use Rattle.std.proofs.Common.{arith, add-one, sym, ap, ◌∙◌}
use Rattle.std.proofs.lemmas.List.{length-map}
use Rattle.lists.specs.Sum.{range}
use Rattle.lists.specs.Keep.{keep}
use Rattle.model.specs.Limits.{entry_width, shift_limit}
use Rattle.model.specs.Roster.{Entry, shifts}
use Rattle.roster_reading.specs.Slot.{slot_of}
use Rattle.roster_positions.specs.Rows.{bytes_of}

-- ---- the joiner's entries at a stand
-- the marks of a row
abbrev pub marks_in : List Bool → ℕ → Bool
marks_in row k = get_or row k false

-- have they the stand in the shift?
abbrev pub asked : (marks : ℕ → Bool) (stand shift : ℕ) → Bool
asked marks j k = marks (slot_of (record { number = j; shift = k }))

-- the shifts in which they have it, of n shifts behind the first i
abbrev pub shifts_from : (marks : ℕ → Bool) (stand i n : ℕ) → List ℕ
shifts_from marks j i n = keep (asked marks j) (range (i + 1) n)

-- the shifts in which the marks have the stand
abbrev pub shifts_at : (marks : ℕ → Bool) (stand : ℕ) → List ℕ
shifts_at marks j = keep (asked marks j) shifts

-- the joiner's entry in a shift
abbrev pub own : (joiner shift : ℕ) → Entry
own s k = record { number = s; shift = k }

-- the joiner's entries in some shifts
abbrev pub joiner_in : (joiner : ℕ) (shifts : List ℕ) → List Entry
joiner_in s ks = map (own s) ks

-- one turn of a loop over the shifts
module _ (marks : ℕ → Bool) (j i : ℕ) where
  turn : i < shift_limit → (b : Bool) → b ≡ asked marks j (i + 1)
      → shifts_from marks j i (shift_limit - i)
      ≡ cond b ((i + 1) ∷ shifts_from marks j (i + 1) (shift_limit - (i + 1))) (shifts_from marks j (i + 1) (shift_limit - (i + 1)))
  turn h b e = let k : shift_limit - i ≡ suc (shift_limit - (i + 1)) = omega arith in rw (k, e, add-one (i + 1))

  pub shift_one : i < shift_limit → true ≡ asked marks j (i + 1)
      → shifts_from marks j i (shift_limit - i) ≡ (i + 1) ∷ shifts_from marks j (i + 1) (shift_limit - (i + 1))
  shift_one h e = turn h true e

  pub shift_not : i < shift_limit → false ≡ asked marks j (i + 1)
      → shifts_from marks j i (shift_limit - i) ≡ shifts_from marks j (i + 1) (shift_limit - (i + 1))
  shift_not h e = turn h false e

  pub shift_none : shift_limit ≤ i → shifts_from marks j i (shift_limit - i) ≡ []
  shift_none h = let k : shift_limit - i ≡ 0 = omega arith in rw k

-- ---- a stand's list
-- "enters each listed stand's tie at its end": a stand's list, from the bytes of its two parts, with some entries behind its tie
abbrev pub with_last : (last : List Entry) (strict tied : List ℕ) → List ℕ
with_last last xs ys = (length xs / entry_width) % 256 ∷ (length ys / entry_width + length last) % 256 ∷ ((xs ++ ys) ++ bytes_of last)

-- stand j's list, from the bytes of its two parts, with the joiner's entries behind its tie in the shifts that the marks have
abbrev pub entering : (joiner : ℕ) (marks : ℕ → Bool) (stand : ℕ) (strict tied : List ℕ) → List ℕ
entering s marks j = with_last (joiner_in s (shifts_at marks j))

-- the tie grows by as many as there are shifts
pub entering_written : (s : ℕ) (marks : ℕ → Bool) (j : ℕ) (xs ys : List ℕ) (n : ℕ) → n ≡ length (shifts_at marks j)
    → (length xs / entry_width) % 256 ∷ (length ys / entry_width + n) % 256 ∷ ((xs ++ ys) ++ bytes_of (joiner_in s (shifts_at marks j)))
    ≡ entering s marks j xs ys
entering_written s marks j xs ys n e =
    ap (λ k. (length xs / entry_width) % 256 ∷ (length ys / entry_width + k) % 256 ∷ ((xs ++ ys) ++ bytes_of (joiner_in s (shifts_at marks j))))
    (e ∙ sym (length-map (shifts_at marks j) (own s)))
