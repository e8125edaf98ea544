-- `roster_lists::ranking_at` meets its contract: its two length bytes, its strict entries, its tie. Assumes nothing.
use Rattle.std.proofs.Common.{◌+◌, arith, ◌≡◌, sym, ap, rules, T, get_or}
use Rattle.theory_files.specs.Reads.{is_bytes}
use Rattle.model.specs.Reading.{refused}
use Rattle.answers.specs.RefusalCases.{number_of, reading_of}
use Rattle.roster_reading.specs.Place.{bytes_of}
use Rattle.roster_reading.specs.Row.{entries_first, marked_as}
use Rattle.roster_reading.specs.Lists.{ranking_end, ranking_long, ranking_refused, tie_within, ranking_goes}
use Rattle.roster_lists.proofs.ranking_at.Goals as goal

pub returns-then-file-at-lt2 : goal.returns-then-file-at-lt2
returns-then-file-at-lt2 c = let a = c.args in ranking_end a.shifts a.longest a.other a.file.now a.at (omega arith)

pub overflow_cast-strict : goal.overflow_cast-strict
overflow_cast-strict c = omega (arith, c.type_inv.file c.args.at)

pub overflow_cast-tied : goal.overflow_cast-tied
overflow_cast-tied c = omega (arith, c.type_inv.file (c.args.at + 1))

pub overflow_add-strict : goal.overflow_add-strict
overflow_add-strict c =
    let a = c.args in omega (arith, c.type_inv.file a.at, c.type_inv.file (a.at + 1))

pub returns-then-longest-strict : goal.returns-then-longest-strict
returns-then-longest-strict c =
    let a = c.args in
    ranking_long a.shifts a.longest a.other a.file.now a.at (omega arith) c.if-longest-strict.true

pub returns-in_err-next : goal.returns-in_err-next
returns-in_err-next c =
    let a = c.args in
    let n = c.in_err-next.field-0.0 in
    let told : reading_of c.from_residual.result ≡ refused (number_of n) = search rules in
    marked_as (sym told) (marked_as (ap reading_of c.in_err-next.was)
    (ranking_refused a.shifts a.longest a.other a.file.now a.at (omega arith) (omega arith)
    (entries_first a.shifts a.other (get_or a.file.now a.at 0) a.row.now c.requires.2 c.entries_at.ensures)
    (ap reading_of c.in_err-next.was)))

pub entries_at-requires-2 : goal.entries_at-requires-2
entries_at-requires-2 c =
    let a = c.args in
    let is_b : T (is_bytes a.file.now) =
    bytes_of a.file.now (λ i. c.type_inv.file i) in (
      tie_within a.shifts a.longest a.other a.file.now a.at (omega arith) (omega arith)
          (entries_first a.shifts a.other (get_or a.file.now a.at 0) a.row.now c.requires.2 c.entries_at.ensures) is_b
          (ap reading_of c.in_ok-next.was),
      omega arith,
    )

pub returns : goal.returns
returns c =
    let a = c.args in
    let is_b : T (is_bytes a.file.now) =
    bytes_of a.file.now (λ i. c.type_inv.file i) in
    ranking_goes a.shifts a.longest a.other a.file.now a.at (omega arith) (omega arith)
    (entries_first a.shifts a.other (get_or a.file.now a.at 0) a.row.now c.requires.2 c.entries_at.ensures) is_b
    (ap reading_of c.in_ok-next.was) c.entries_at-2.ensures
