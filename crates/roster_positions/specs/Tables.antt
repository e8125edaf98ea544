-- Tables of positions: what the loops over a roster's lists write. A table has 32 rows, one for each list, of 96 numbers, three for each
-- number that an entry may have, one a shift; the number 1 in shift 1 stands at the row's first place.
use Rattle.std.specs.Prelude.{ℕ, zero, suc, ◌+◌, ◌-◌, ◌*◌, ◌/◌, ◌%◌, min, List, [], ◌∷◌, take, drop, get_or, set}
use Rattle.model.specs.Limits.{entry_width}
use Rattle.model.specs.Roster.{Entry}

-- the numbers in a row: three for each of 32 numbers
abbrev pub row_width : ℕ
row_width = 96

-- the numbers in a table: 32 rows
abbrev pub table_size : ℕ
table_size = 3072

-- the place of an entry in its row, and the entry of a place; every byte has a place, but only from 1 to 32 and from 1 to 3 each its own
abbrev pub column : Entry → ℕ
column x = 3 * ((x.number + 31) % 32) + min (x.shift - 1) 2

-- the entry that a place of a row stands for
abbrev pub entry_of : ℕ → Entry
entry_of c = record { number = suc (c / 3); shift = suc (c % 3) }

-- the entries that some bytes of a file are, number and shift of each; half an entry at the end is none
unfoldable pub entries_in : List ℕ → List Entry
entries_in [] = []
entries_in (x ∷ []) = []
entries_in (x ∷ k ∷ bs) = record { number = x; shift = k } ∷ entries_in bs

-- the bytes of n entries from a place of the file on, or as many as there are
abbrev pub entry_bytes : List ℕ → ℕ → ℕ → List ℕ
entry_bytes f at n = take (entry_width * n) (drop at f)

-- a list's entries, the first of them at position k
unfoldable pub stamped : ℕ → List Entry → ℕ → List ℕ → List ℕ
stamped row [] k t = t
stamped row (x ∷ xs) k t = set (stamped row xs (suc k) t) (row + column x) k

-- the surveyor's list at a place of the file: a length byte, then the entries; and the place behind it
abbrev pub list_at : List ℕ → ℕ → List ℕ
list_at f at = entry_bytes f (at + 1) (get_or f at 0)

-- the place behind the surveyor's list at a place
abbrev pub behind_list : List ℕ → ℕ → ℕ
behind_list f at = at + (entry_width * get_or f at 0 + 1)

-- n surveyors' lists from a place of the file on
unfoldable pub lists_stamped : List ℕ → ℕ → ℕ → ℕ → List ℕ → List ℕ
lists_stamped f zero row at t = t
lists_stamped f (suc n) row at t = lists_stamped f n (row + row_width) (behind_list f at) (stamped row (entries_in (list_at f at)) 1 t)

-- the place behind them
unfoldable pub lists_end : List ℕ → ℕ → ℕ → ℕ
lists_end f zero at = at
lists_end f (suc n) at = lists_end f n (behind_list f at)

-- the stand's list at a place of the file: "the strict length byte, the tie length byte, the strict surveyors (..), the tied ones"; and the
-- place behind it
abbrev pub strict_at : List ℕ → ℕ → List ℕ
strict_at f at = entry_bytes f (at + 2) (get_or f at 0)

-- the bytes of the tied entries of the stand's list at a place
abbrev pub tied_at : List ℕ → ℕ → List ℕ
tied_at f at = entry_bytes f (at + 2 + entry_width * get_or f at 0) (get_or f (at + 1) 0)

-- the place behind the stand's list at a place
abbrev pub behind : List ℕ → ℕ → ℕ
behind f at = at + (entry_width * (get_or f at 0 + get_or f (at + 1) 0) + 2)

-- the strict parts of n stands' lists from a place of the file on
unfoldable pub strict_stamped : List ℕ → ℕ → ℕ → ℕ → List ℕ → List ℕ
strict_stamped f zero row at t = t
strict_stamped f (suc n) row at t = strict_stamped f n (row + row_width) (behind f at) (stamped row (entries_in (strict_at f at)) 1 t)

-- and the rank behind each of them
unfoldable pub next_ranks : List ℕ → ℕ → ℕ → ℕ → List ℕ → List ℕ
next_ranks f zero j at t = t
next_ranks f (suc n) j at t = next_ranks f n (suc j) (behind f at) (set t j ((get_or f at 0 + 1) % 256))
