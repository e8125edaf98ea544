-- `roster_lists::entries_at` meets its contract: the part that holds the whole entries is checked, and whether these are all. Assumes nothing.
use Rattle.std.proofs.Common.{◌+◌, ◌-◌, ◌*◌, ◌≤◌, arith, ◌≡◌, sym, ap, ◌∙◌, length, length-take, length-drop, rules}
use Rattle.answers.specs.RefusalCases.{code_of}
use Rattle.roster_reading.specs.Check.{whole_fields, fields_room}
use Rattle.roster_reading.specs.Layout.{width_of, width_some}
use Rattle.roster_reading.specs.Row.{marked_as, marked_part}
use Rattle.roster_lists.proofs.entries_at.Goals.{After-whole_fields-there}
use Rattle.roster_lists.proofs.entries_at.Goals as goal

pub whole_fields-there-requires : goal.whole_fields-there-requires
whole_fields-there-requires c = let a = c.args in (search rules, omega (arith, width_some a.shifts))

-- the part lies in the file
room : (p : After-whole_fields-there) → let a = p.args in
    p.entry_width-width.result * p.whole_fields-there.result ≤ length a.file.now - a.at
room p =
    let a = p.args in
    fields_room p.entry_width-width.result (length a.file.now) a.at a.n p.whole_fields-there.ensures

pub check_entries-checked-requires : goal.check_entries-checked-requires
check_entries-checked-requires c =
    let a = c.args in
    let e : width_of a.shifts * c.whole_fields-there.result ≡ c.entry_width-width.result * c.whole_fields-there.result =
    ap (λ v. v * c.whole_fields-there.result) (sym c.entry_width-width.ensures) in
    (simp (length-take, length-drop) (omega (arith, e, room (goal.at.check_entries-checked-requires c).After-whole_fields-there)), search rules)

pub returns : goal.returns
returns c =
    let a = c.args in
    let checked = c.check_entries-checked in
    λ seen h. marked_as (sym c.part_answer.ensures)
    (marked_part a.shifts a.tied a.other a.file.now a.at a.n c.whole_fields-there.result _ (code_of checked.result) a.row.now _ c.requires.0
    (c.whole_fields-there.ensures ∙ ap (λ v. whole_fields v (length a.file.now) a.at a.n) c.entry_width-width.ensures)
    (ap (λ v. a.at + v * c.whole_fields-there.result) c.entry_width-width.ensures) checked.ensures seen h)

pub overflow_mul-end : goal.overflow_mul-end
overflow_mul-end c = omega (arith, room (goal.at.overflow_mul-end c).After-whole_fields-there)

pub overflow_add-end : goal.overflow_add-end
overflow_add-end c = omega (arith, room (goal.at.overflow_add-end c).After-whole_fields-there)

pub slice_bounds-check_entries-end : goal.slice_bounds-check_entries-end
slice_bounds-check_entries-end c = omega (arith, room (goal.at.slice_bounds-check_entries-end c).After-whole_fields-there)
