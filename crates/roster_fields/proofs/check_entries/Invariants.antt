use Rattle.std.proofs.Common.{ℕ, ◌≤◌, ◌≡◌, Bool, List, ◌++◌, length, take, drop}
use Rattle.model.specs.Roster.{Entry, no_entry}
use Rattle.roster_reading.specs.Check.{refusal_of}
use Rattle.roster_reading.specs.Layout.{entry_of, entries_in}
use Rattle.roster_reading.specs.Row.{Shows, list_check, passed}
use Rattle.roster_fields.proofs.check_entries.Given as goal

-- the refusal of entries behind others
abbrev pub refusal : Bool → ℕ → List Entry → Entry → List Entry → ℕ
refusal tied other seen last xs = refusal_of (list_check tied other) passed (record { seen = seen; last = last }) xs

abbrev pub invariant-loop-i : goal.invariant-loop-i
invariant-loop-i l =
    (l.i ≤ l.n) × (length l.row ≡ length l.initial.row)
    × ((seen : List Entry) → Shows l.initial.row seen
    → (refusal l.tied l.other seen no_entry (entries_in l.shifts l.n l.part)
    ≡ refusal l.tied l.other (seen ++ take l.i (entries_in l.shifts l.n l.part)) (entry_of l.last) (drop l.i (entries_in l.shifts l.n l.part)))
    × Shows l.row (seen ++ take l.i (entries_in l.shifts l.n l.part)))
