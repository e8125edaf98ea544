-- Roster files with the refusal that each meets, 0 for none, run by the checker: every number from 1 to 9, and 18, at least twice, and files with
-- two faults, which show the order in which they are looked for. The longest roster is in theory_files/LongestRoster.
use Rattle.std.specs.Prelude.{ℕ, ◌≡◌, refl, Bool, true, false, List, [], ◌∷◌, ◌++◌, length, replicate, eqb}
use Prim.Native.String.{String}
use Rattle.lists.specs.Keep.{all?}
use Rattle.model.specs.Decimal.{bytes, numbers_from, same_bytes}
use Rattle.model.specs.Reading.{Reading, accepted, refused, read_each}
use Rattle.model.specs.Roster.{Roster, listed, listed_back, both_or_neither}
use Rattle.model.specs.RosterFile.{read_roster_by, read_roster, write_roster_by, write_roster}

-- the number of a refusal, 0 for none
abbrev pub refusal_in : {A : Type 0} → Reading A → ℕ
refusal_in (accepted a) = 0
refusal_in (refused n) = n

-- a file, read as a roster, meets refusal n, 0 for none
abbrev pub meets : List ℕ → ℕ → Bool
meets file n = eqb (refusal_in (read_roster file)) n

abbrev refusals : List (String × ℕ)
refusals =
    -- "1 bytes end inside a field": no byte at all; a quota; half a two-byte count; a list's entry; a stand's second length, also behind a
    -- first one that is too large
    ("", 1) ∷ ("1", 1) ∷ ("1 1 1 1 1", 1) ∷ ("1 1 1 1 1 0 1", 1) ∷ ("1 1 1 1 1 0 1 1 1 1 0 1", 1) ∷ ("1 1 1 1 1 0 1 1 1 1 0 200", 1)
    -- "An entry .. with its shift is one field": half of one, whatever its number; strict and tied
    ∷ ("1 1 1 1 1 0 1 1", 1) ∷ ("1 1 1 1 1 0 1 9", 1) ∷ ("1 1 1 1 1 0 1 0", 1) ∷ ("1 1 1 1 1 0 1 1 1 1 0 1 0 9", 1) ∷ ("1 1 1 1 1 0 1 1 1 1 0 0 1 0", 1)
    -- "2 a count or list length above its limit": surveyors, stands, 1,025 entries, a surveyor's list, a stand's two lengths together; a long
    -- file is read from its left
    ∷ ("33", 2) ∷ ("0 33", 2) ∷ ("0 0 1 4", 2) ∷ ("1 1 1 1 1 0 33", 2) ∷ ("1 1 1 1 1 0 1 1 1 1 0 1 32", 2) ∷ ("1 1 1 1 1 0 1 1 1 1 0 33 0 9", 2)
    ∷ ("33 0 0 0 0 0 0 0 0 0 0 0", 2)
    -- 32 entries are no fault of the length: the first of them is missing
    ∷ ("1 1 1 1 1 0 32", 1) ∷ ("1 1 1 1 1 0 1 1 1 1 0 20 12", 1)
    -- "3 a quota above 8, or the field that takes its side past 64": before any later field
    ∷ ("1 9", 3) ∷ ("0 1 9", 3) ∷ ("1 9 33", 3) ∷ ("10 8 8 8 8 8 8 8 8 1", 3) ∷ ("0 9 8 8 8 8 8 8 8 8 1", 3)
    -- "4 a list entry that is 0 or above the other side's count": strict or tied, before a missing one, and where the other side is empty
    ∷ ("1 1 1 1 1 0 1 0 1", 4) ∷ ("1 1 1 1 1 0 1 2 1", 4) ∷ ("1 1 1 1 1 0 1 1 1 1 0 1 0 2 1", 4) ∷ ("1 1 1 1 1 0 1 1 1 1 0 0 1 0 1", 4)
    ∷ ("1 1 2 1 1 2 0 2 3 1", 4) ∷ ("0 1 1 0 0 1 0 1 0 1 1", 4)
    -- "a shift outside 1 to 3 in a list (18, straight after 4)": a surveyor's, a stand's, strict or tied; behind 4 at one entry, before a missing
    -- entry, before 5 and 6
    ∷ ("1 1 1 1 1 0 1 1 0", 18) ∷ ("1 1 1 1 1 0 1 1 4", 18) ∷ ("1 1 1 1 1 0 1 1 255", 18) ∷ ("1 1 1 1 1 0 1 1 1 1 0 1 0 1 4", 18)
    ∷ ("1 1 1 1 1 0 1 1 1 1 0 0 1 1 0", 18) ∷ ("1 1 1 1 1 0 1 9 9", 4) ∷ ("1 1 1 1 1 0 1 0 0", 4) ∷ ("1 1 1 1 1 0 1 2 4", 4) ∷ ("1 1 1 1 2 0 2 1 4", 18)
    ∷ ("1 1 1 1 2 0 2 1 4 1 4", 18) ∷ ("1 1 1 1 2 0 2 1 3 1 1 2 0 0 2 1 1 1 0", 18)
    -- "5 an entry twice in one list": also behind another, of a stand's strict part in its tie, and before 6 and a later 18
    ∷ ("1 1 1 1 2 0 2 1 1 1 1", 5) ∷ ("1 1 1 1 3 0 3 1 1 1 2 1 1", 5) ∷ ("2 1 1 1 1 2 0 1 1 1 1 1 1 2 0 1 1 1 1 1 1", 5)
    ∷ ("2 1 1 1 1 2 0 1 1 1 1 1 1 2 0 0 2 2 1 2 1", 5)
    ∷ ("1 1 1 1 3 0 3 1 2 1 2 1 4", 5)
    -- "6 a tie that does not ascend": by surveyor, then by shift; the first entry of a tie is compared with none
    ∷ ("2 1 1 1 1 2 0 1 1 1 1 1 1 2 0 0 2 2 1 1 1", 6) ∷ ("3 1 1 1 1 1 3 0 1 1 1 1 1 1 1 1 1 3 0 0 3 1 1 3 1 2 1", 6)
    ∷ ("1 1 1 1 2 0 2 1 3 1 1 2 0 0 2 1 3 1 1", 6) ∷ ("2 1 1 1 1 2 0 1 1 3 1 1 1 2 0 0 2 2 1 1 3", 6)
    ∷ ("1 1 1 1 2 0 2 1 3 1 1 2 0 0 2 1 1 1 3", 0) ∷ ("2 1 1 1 1 2 0 1 1 3 1 1 1 2 0 0 2 1 3 2 1", 0)
    ∷ ("2 1 1 1 1 2 0 1 1 1 1 1 1 2 0 1 1 2 1 1 1", 0) ∷ ("1 1 1 1 2 0 2 1 3 1 1 2 0 1 1 1 3 1 1", 0)
    -- "7 a section count that is not the sum of its lengths": by its high byte alone too; before the next section's count, and before 9
    ∷ ("0 0 0 1 0 0", 7) ∷ ("1 1 1 1 0 0 1 1 1", 7) ∷ ("1 1 1 1 1 0 0", 7) ∷ ("1 1 1 1 2 0 1 1 1", 7) ∷ ("1 1 1 1 1 0 1 1 1 2 0 1 0 1 1", 7) ∷ ("0 0 1 0", 7)
    ∷ ("0 0 0 0 1 0 7", 7)
    -- "8 a pair listed by one side only": a pair in another shift is another; of the last stand, of the last surveyor, where there are fewer of the others
    ∷ ("1 1 1 1 1 0 1 1 1 0 0 0 0", 8) ∷ ("1 1 1 1 0 0 0 1 0 1 0 1 1", 8) ∷ ("1 1 1 1 1 0 1 1 1 1 0 1 0 1 2", 8)
    ∷ ("1 1 1 1 2 0 2 1 3 1 1 2 0 0 2 1 1 1 2", 8) ∷ ("1 1 1 1 2 0 2 1 3 1 1 1 0 1 0 1 3", 8)
    ∷ ("1 1 2 1 1 0 0 0 1 0 0 0 1 0 1 1", 8) ∷ ("2 1 1 1 1 1 0 0 1 1 1 0 0 0 0", 8)
    -- "9 bytes after the end", before 8
    ∷ ("0 0 0 0 0 0 0", 9) ∷ ("1 1 1 1 1 0 1 1 1 0 0 0 0 7", 9)
    -- accepted: document 01's sample, its tie, no surveyors; one surveyor and one stand in three shifts, in lists longer than the other side's count
    ∷ ("2 1 1 1 1 2 0 1 1 1 1 1 1 2 0 2 0 1 1 2 1", 0) ∷ ("2 1 1 1 1 2 0 1 1 1 1 1 1 2 0 0 2 1 1 2 1", 0) ∷ ("0 0 0 0 0 0", 0)
    ∷ ("1 1 1 1 3 0 3 1 3 1 1 1 2 3 0 3 0 1 2 1 3 1 1", 0) ∷ []

pub roster_refusals : all? (λ (c : String × ℕ). meets (bytes c.0) c.1) refusals ≡ true
unfolding numbers_from listed listed_back both_or_neither read_each read_roster_by
roster_refusals = refl

-- ---- what is accepted is written back to the same bytes
abbrev writes_back : Reading Roster → List ℕ → Bool
writes_back (accepted r) file = same_bytes (write_roster r) file
writes_back (refused n) file = false

pub written_back : all? (λ (s : String). writes_back (read_roster (bytes s)) (bytes s))
    ("0 0 0 0 0 0" ∷ "2 1 1 1 1 2 0 1 1 1 1 1 1 2 0 2 0 1 1 2 1" ∷ "2 1 1 1 1 2 0 1 1 1 1 1 1 2 0 1 1 2 1 1 1"
    ∷ "3 1 2 2 3 1 1 1 4 0 3 2 1 1 1 3 1 0 1 2 1 4 0 0 1 1 1 0 2 1 1 3 1 0 1 1 1" ∷ "1 2 1 2 2 0 2 1 3 1 1 2 0 1 1 1 1 1 3"
    ∷ "2 2 1 1 2 4 0 3 1 3 1 1 1 2 1 1 1 4 0 1 3 1 3 1 1 1 2 2 1" ∷ []) ≡ true
unfolding numbers_from listed listed_back both_or_neither read_each read_roster_by write_roster_by
written_back = refl

-- ---- the limits: "Quota 8 taken, 9 is 3; 32 surveyors taken, 33 is 2; sum 64 taken, 65 is 3."
-- so many surveyors of this quota, no stands, no lists
abbrev pub alone : List ℕ → List ℕ
alone quotas = (length quotas ∷ quotas) ++ ((0 ∷ 0 ∷ 0 ∷ []) ++ (replicate (length quotas) 0 ++ (0 ∷ 0 ∷ [])))

pub limits : all? (λ (c : List ℕ × ℕ). meets (alone c.0) c.1)
    ((8 ∷ [], 0) ∷ (9 ∷ [], 3) ∷ (replicate 32 2, 0) ∷ (replicate 33 1, 2) ∷ (replicate 8 8, 0) ∷ (replicate 8 8 ++ 1 ∷ [], 3) ∷ []) ≡ true
unfolding numbers_from listed listed_back both_or_neither read_each read_roster_by
limits = refl
