-- `roster_fields::check_entries` meets its contract: the entries that are left, behind those passed, have the refusal of all, and the row
-- shows those passed. Assumes nothing.
use Rattle.std.proofs.Common.{ℕ, ◌+◌, ◌≤◌, ◌<◌, zero-le, arith, mul-le-mul_left, ◌≡◌, refl, sym, ap, ◌∙◌, subst, Bool, List, ◌++◌, append-nil, length, take, drop, get_or, length-set, rules}
use Rattle.model.specs.Roster.{Entry, no_entry}
use Rattle.answers.specs.RefusalCases.{number_of, code_of, number_some}
use Rattle.roster_reading.specs.Check.{first_of, refusal_end, fields_length, fields_at}
use Rattle.roster_reading.specs.Layout.{entry_of, width_of, entry_from, entries_in}
use Rattle.roster_reading.specs.Slot.{HasSlot, slot_of, slot_room}
use Rattle.roster_reading.specs.Row.{Shows, list_check, passed, mark_in_range, mark_passed, seen_all, check_step, checked_no}
use Rattle.roster_fields.proofs.check_entries.Goals.{After-entry_at-x, After-check_entry, After-slot-k}
use Rattle.roster_fields.proofs.check_entries.Invariants.{refusal}
use Rattle.roster_fields.proofs.check_entries.Goals as goal

sized : (shifts : Bool) (n : ℕ) (part : List ℕ) → length (entries_in shifts n part) ≡ n
sized shifts n part = fields_length (width_of shifts) (entry_from shifts) n part

-- the entry of this turn
met : (p : After-entry_at-x) → let l = p in let a = l.args in
    entry_of p.entry_at-x.result ≡ get_or (entries_in a.shifts a.n a.part.now) l.loop-i.i no_entry
met p =
    let a = p.args in
    p.entry_at-x.ensures
    ∙ sym (fields_at (width_of a.shifts) (entry_from a.shifts) a.n a.part.now p.loop-i.i no_entry p.loop-i-test.true)

-- what a turn does to the refusal that is looked for
turn : (p : After-check_entry) (seen : List Entry) → let e = p in let l = e in
    let a = l.args in let xs = entries_in a.shifts a.n a.part.now in
    Shows a.row.now seen
    → refusal a.tied a.other seen no_entry xs ≡ first_of (code_of p.check_entry.result)
    (refusal a.tied a.other (seen ++ take (l.loop-i.i + 1) xs) (entry_of e.entry_at-x.result) (drop (l.loop-i.i + 1) xs))
turn p seen h =
    let a = p.args in
    (p.loop-i.invariant.2 seen h).0
    ∙ check_step a.tied a.other p.loop-i.row seen (entries_in a.shifts a.n a.part.now) p.loop-i.i (entry_of p.loop-i.last)
    (entry_of p.entry_at-x.result) (code_of p.check_entry.result) (omega (arith, sized a.shifts a.n a.part.now)) (met (goal.at.After-check_entry p).After-entry_at-x)
    p.check_entry.ensures (p.loop-i.invariant.2 seen h).1

-- an entry that passes is in range
ranged : (p : After-check_entry) → code_of p.check_entry.result ≡ 0 → let e = p in let a = e.args in
    HasSlot (entry_of e.entry_at-x.result) × ((entry_of e.entry_at-x.result).number ≤ a.other)
ranged p =
    let a = p.args in
    mark_in_range a.tied a.other p.loop-i.row (entry_of p.loop-i.last) (entry_of p.entry_at-x.result) (code_of p.check_entry.result)
    p.check_entry.ensures

pub loop-i-init : goal.loop-i-init
loop-i-init c =
    let a = c.args in (
      zero-le,
      refl,
      λ seen h. (
        ap (λ l. refusal a.tied a.other l no_entry (entries_in a.shifts a.n a.part.now)) (sym (append-nil seen)),
        subst (Shows a.row.now) (sym (append-nil seen)) h,
      ),
    )

pub entry_at-x-requires : goal.entry_at-x-requires
entry_at-x-requires c =
    let a = c.args in
    let h : c.loop-i.i + 1 ≤ a.n = omega arith in
    omega (arith, mul-le-mul_left (width_of a.shifts) h)

pub returns-in_err-check_entry : goal.returns-in_err-check_entry
returns-in_err-check_entry c =
    let a = c.args in
    let xs = entries_in a.shifts a.n a.part.now in
    let n = c.in_err-check_entry.field-0.0 in
    let was : code_of c.check_entry.result ≡ number_of n = ap code_of c.in_err-check_entry.was in
    let told : code_of c.from_residual.result ≡ number_of n = search rules in
    rw (told ∙ sym was) (λ seen h. checked_no (code_of c.check_entry.result)
    (refusal a.tied a.other (seen ++ take (c.loop-i.i + 1) xs) (entry_of c.entry_at-x.result) (drop (c.loop-i.i + 1) xs))
    (omega (arith, was, number_some n)) (turn (goal.at.returns-in_err-check_entry c).After-check_entry seen h))

pub slot-k-requires : goal.slot-k-requires
slot-k-requires c = (ranged (goal.at.slot-k-requires c).After-check_entry (ap code_of c.in_ok-check_entry.was)).0

-- the mark's place lies in the row
room : (p : After-slot-k) → let l = p in
    slot_of (entry_of p.entry_at-x.result) < length l.loop-i.row
room p =
    let a = p.args in
    let k = ranged (goal.at.After-slot-k p).After-check_entry (ap code_of p.in_ok-check_entry.was) in
    omega (arith, slot_room (entry_of p.entry_at-x.result) k.0 a.other k.1)

pub bounds-row-k : goal.bounds-row-k
bounds-row-k c = omega (arith, room (goal.at.bounds-row-k c).After-slot-k)

pub loop-i-preserved : goal.loop-i-preserved
loop-i-preserved c =
    let a = c.args in
    let xs = entries_in a.shifts a.n a.part.now in
    let z : code_of c.check_entry.result ≡ 0 = ap code_of c.in_ok-check_entry.was in (
      omega arith,
      simp length-set c.loop-i.invariant.1,
      λ seen h. (
        turn (goal.at.loop-i-preserved c).After-check_entry seen h ∙ ap (λ m. first_of m
            (refusal a.tied a.other (seen ++ take (c.loop-i.i + 1) xs) (entry_of c.entry_at-x.result) (drop (c.loop-i.i + 1) xs))) z,
        rw c.slot-k.ensures (mark_passed c.loop-i.row seen xs c.loop-i.i (entry_of c.entry_at-x.result) (met (goal.at.loop-i-preserved c).After-entry_at-x) (c.loop-i.invariant.2 seen h).1
            (omega (arith, sized a.shifts a.n a.part.now)) (ranged (goal.at.loop-i-preserved c).After-check_entry z).0 (room (goal.at.loop-i-preserved c).After-slot-k)),
      ),
    )

pub returns : goal.returns
returns c =
    let a = c.args in
    let xs = entries_in a.shifts a.n a.part.now in
    let k : length xs ≤ c.loop-i.i = omega (arith, sized a.shifts a.n a.part.now) in
    λ seen h. record {
      number =
          sym
          ((c.loop-i.invariant.2 seen h).0
          ∙ refusal_end (list_check a.tied a.other) passed (record { seen = seen ++ take c.loop-i.i xs; last = entry_of c.loop-i.last }) xs
          c.loop-i.i k);
      marks = λ z. seen_all c.loop-i.row seen xs c.loop-i.i (c.loop-i.invariant.2 seen h).1 k;
    }
