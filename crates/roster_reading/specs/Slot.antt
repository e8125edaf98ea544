-- The places of a row of marks: one for each entry that a list can have, by number and shift. "An entry repeats only if number and shift
-- repeat", so each has a place of its own.
use Rattle.std.specs.Prelude.{ℕ, suc, ◌+◌, ◌-◌, ◌*◌, ◌/◌, ◌%◌, ◌≤◌, ◌<◌, ◌≡◌, Bool, eqb}
use Rattle.std.proofs.Common.{arith, ap₂, eqb→eq}
use Rattle.lists.specs.Test.{given, bool_eq, and_l, and_r, and_i, eq→eqb}
use Rattle.model.specs.Limits.{node_limit, shift_limit}
use Rattle.model.specs.Roster.{Entry, same}

-- a list's row, and the rows of a side
abbrev pub row_width : ℕ
row_width = node_limit * shift_limit

-- how many marks a side has: a row for each of 32 lists
abbrev pub table_size : ℕ
table_size = node_limit * row_width

-- the place of an entry, and the entry of a place
abbrev pub slot_of : Entry → ℕ
slot_of x = shift_limit * (x.number - 1) + (x.shift - 1)

-- the entry that a place of a row stands for
abbrev pub at_slot : ℕ → Entry
at_slot k = record { number = suc (k / shift_limit); shift = suc (k % shift_limit) }

-- an entry has a place if its number is not 0 and its shift is in range
abbrev pub HasSlot : Entry → Type 0
HasSlot x = (1 ≤ x.number) × (1 ≤ x.shift) × (x.shift ≤ shift_limit)

module _ (x : Entry) (p : HasSlot x) where
  -- its place is its own
  pub at_slot_law : at_slot (slot_of x) ≡ x
  at_slot_law =
      let a : suc (slot_of x / shift_limit) ≡ x.number = omega arith in
      let b : suc (slot_of x % shift_limit) ≡ x.shift = omega arith in
      ap₂ (λ n k. record { number = n; shift = k }) a b

  abbrev of_number : ℕ → Bool
  of_number k = eqb (suc (k / shift_limit)) x.number

  abbrev of_shift : ℕ → Bool
  of_shift k = eqb (suc (k % shift_limit)) x.shift

  pub same_slot : (k : ℕ) → same (at_slot k) x ≡ eqb k (slot_of x)
  same_slot k = bool_eq (same (at_slot k) x) (eqb k (slot_of x))
      (λ t. eq→eqb k (slot_of x)
      (given (eqb→eq (suc (k / shift_limit)) x.number (and_l (of_number k) (of_shift k) t)) (λ a.
      given (eqb→eq (suc (k % shift_limit)) x.shift (and_r (of_number k) (of_shift k) t)) (λ b. omega arith))))
      (λ t.
      let e = eqb→eq k (slot_of x) t in
      and_i (of_number k) (of_shift k) (eq→eqb (suc (k / shift_limit)) x.number (omega arith)) (eq→eqb (suc (k % shift_limit)) x.shift (omega arith)))

  -- it lies in the row
  pub slot_room : (count : ℕ) → x.number ≤ count → slot_of x < count * shift_limit
  slot_room count h = omega arith

-- the place of node j, from 0 on, in shift k + 1
pub slot_at : (j k : ℕ) → k < shift_limit → at_slot (shift_limit * j + k) ≡ record { number = suc j; shift = suc k }
slot_at j k h =
    let a : (shift_limit * j + k) / shift_limit ≡ j = omega arith in
    let b : (shift_limit * j + k) % shift_limit ≡ k = omega arith in
    ap₂ (λ n m. record { number = suc n; shift = suc m }) a b
