-- `roster::file::lists_to_end` meets its contract: both sections of lists, the end of the file, and the pairs. Assumes nothing.
use Rattle.std.proofs.Common.{arith, ◌≡◌, refl, sym, ap, subst, ◌∙◌, [], T, rules}
use Rattle.model.specs.Roster.{entries}
use Rattle.theory_files.specs.Reads.{is_bytes}
use Rattle.model.specs.Reading.{refused}
use Rattle.answers.specs.RefusalCases.{number_of, reading_of}
use Rattle.roster_reading.specs.Place.{bytes_of}
use Rattle.roster_reading.specs.Slot.{table_size}
use Rattle.roster_reading.specs.Table.{no_ranking, table_clear}
use Rattle.roster_reading.specs.Whole.{ListsRead, lists_refused, mid_within, rankings_refused, lists_behind, lists_alike, lists_unlike}
use Rattle.roster.proofs.file.lists_to_end.Goals.{After-lists_section}
use Rattle.roster.proofs.file.lists_to_end.Goals as goal

-- the file's elements are bytes
is_b : (p : After-lists_section) → T (is_bytes p.args.file.now)
is_b p = bytes_of p.args.file.now (λ i. p.type_inv.file i)

pub lists_section-requires : goal.lists_section-requires
lists_section-requires c = (search rules, search rules, omega arith, omega arith, table_clear (λ xs. xs) [] refl table_size)

pub returns-in_err-mid : goal.returns-in_err-mid
returns-in_err-mid c =
    let a = c.args in
    let was = ap reading_of c.in_err-mid.was in
    let told : reading_of c.from_residual.result ≡ refused (number_of c.in_err-mid.field-0.0) = search rules in
    subst (ListsRead a.shifts a.ns a.nt a.file.now a.at) (was ∙ sym told)
    (lists_refused a.shifts a.ns a.nt a.file.now a.at c.lists_section.ensures was)

pub rankings_section-requires : goal.rankings_section-requires
rankings_section-requires c =
    let a = c.args in (
      mid_within a.shifts a.ns a.nt a.file.now a.at (is_b (goal.at.rankings_section-requires c).After-lists_section) c.requires.0 c.lists_section.ensures (ap reading_of c.in_ok-mid.was),
      c.requires.2,
      omega arith,
      omega arith,
      table_clear entries no_ranking refl table_size,
    )

pub returns-in_err-end : goal.returns-in_err-end
returns-in_err-end c =
    let a = c.args in
    let was = ap reading_of c.in_err-end.was in
    let told : reading_of c.from_residual-in_err-end.result ≡ refused (number_of c.in_err-end.field-0.0) = search rules in
    subst (ListsRead a.shifts a.ns a.nt a.file.now a.at) (was ∙ sym told)
    (rankings_refused a.shifts a.ns a.nt a.file.now a.at (is_b (goal.at.returns-in_err-end c).After-lists_section) c.requires.0 c.lists_section.ensures
    (ap reading_of c.in_ok-mid.was) c.rankings_section.ensures was)

pub returns-then-end-file : goal.returns-then-end-file
returns-then-end-file c =
    let a = c.args in
    lists_behind a.shifts a.ns a.nt a.file.now a.at (is_b (goal.at.returns-then-end-file c).After-lists_section) c.requires.0 c.lists_section.ensures (ap reading_of c.in_ok-mid.was)
    c.rankings_section.ensures (ap reading_of c.in_ok-end.was) c.if-end-file.true

pub returns-then-both_alike : goal.returns-then-both_alike
returns-then-both_alike c =
    let a = c.args in
    lists_alike a.shifts a.ns a.nt a.file.now a.at (is_b (goal.at.returns-then-both_alike c).After-lists_section) c.requires.0 c.lists_section.ensures (ap reading_of c.in_ok-mid.was)
    c.rankings_section.ensures (ap reading_of c.in_ok-end.was) c.requires.1 c.requires.2 c.if-end-file.false (sym c.both_alike.ensures ∙ c.if-both_alike.true)

pub returns : goal.returns
returns c =
    let a = c.args in
    lists_unlike a.shifts a.ns a.nt a.file.now a.at (is_b (goal.at.returns c).After-lists_section) c.requires.0 c.lists_section.ensures (ap reading_of c.in_ok-mid.was)
    c.rankings_section.ensures (ap reading_of c.in_ok-end.was) c.requires.1 c.requires.2 c.if-end-file.false (sym c.both_alike.ensures ∙ c.if-both_alike.false)
