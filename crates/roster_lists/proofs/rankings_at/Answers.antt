-- `roster_lists::rankings_at` meets its contract: after each turn so many lists are read and marked, and the others follow. Assumes nothing.
use Rattle.std.proofs.Common.{zero-le, arith, ◌≡◌, refl, sym, ap, ◌∙◌, length, T, rules}
use Rattle.model.specs.Roster.{entries}
use Rattle.model.specs.RosterFile.{read_ranking}
use Rattle.theory_files.specs.Reads.{is_bytes}
use Rattle.model.specs.Reading.{refused}
use Rattle.answers.specs.RefusalCases.{number_of, reading_of}
use Rattle.roster_reading.specs.Place.{bytes_of}
use Rattle.roster_reading.specs.Layout.{layout_of, ranking_by, ranking_reads}
use Rattle.roster_reading.specs.Row.{marked_as, marked_by}
use Rattle.roster_reading.specs.Table.{no_ranking, row_of, row_wide, row_clear}
use Rattle.roster_reading.specs.Many.{turn_start, turn_refused, turn_next, turn_end}
use Rattle.roster_lists.proofs.rankings_at.Goals as goal

pub loop-k-init : goal.loop-k-init
loop-k-init c =
    let a = c.args in
    (zero-le, search rules, refl, turn_start (ranking_by a.shifts a.other) entries no_ranking a.file.now a.start a.n c.requires.3)

pub ranking_at-requires : goal.ranking_at-requires
ranking_at-requires c = (
  c.loop-k.invariant.1,
  omega (arith, row_wide c.loop-k.table c.loop-k.k (omega arith)),
  row_clear entries no_ranking refl c.loop-k.table c.loop-k.invariant.3.lists c.loop-k.k c.loop-k.invariant.3.shown c.loop-k.invariant.3.count,
)

pub returns-in_err-at : goal.returns-in_err-at
returns-in_err-at c =
    let a = c.args in
    let n = c.in_err-at.field-0.0 in
    let e : reading_of c.ranking_at.result ≡ refused (number_of n) = ap reading_of c.in_err-at.was in
    let told : reading_of c.from_residual.result ≡ refused (number_of n) = search rules in
    let limit = ap (λ m. read_ranking (layout_of a.shifts) m a.other) c.longest_list-longest.ensures in
    marked_as (sym told)
    (turn_refused (ranking_by a.shifts a.other) entries no_ranking a.file.now a.start a.n c.loop-k.invariant.3 c.loop-k-test.true
    (marked_as e (marked_by limit c.ranking_at.ensures)))

pub loop-k-preserved : goal.loop-k-preserved
loop-k-preserved c =
    let a = c.args in
    let is_b : T (is_bytes a.file.now) = bytes_of a.file.now (λ i. c.type_inv.file i) in
    let row = c.ranking_at.new.row in
    let back : length row ≡ length (row_of c.loop-k.table c.loop-k.k) = c.ranking_at.auto.row in
    let limit = ap (λ m. read_ranking (layout_of a.shifts) m a.other) c.longest_list-longest.ensures in
    let (w, t) =
    turn_next (ranking_by a.shifts a.other) entries no_ranking a.file.now a.start a.n refl (ranking_reads a.shifts a.other) is_b
    c.loop-k.invariant.3 c.loop-k-test.true c.loop-k.invariant.1 (omega arith) (back ∙ row_wide c.loop-k.table c.loop-k.k (omega arith))
    (marked_as (ap reading_of c.in_ok-at.was) (marked_by limit c.ranking_at.ensures)) in
    (omega arith, w, omega arith, t)

pub returns : goal.returns
returns c =
    let a = c.args in
    turn_end (ranking_by a.shifts a.other) entries no_ranking a.file.now a.start a.n c.loop-k.invariant.3 c.loop-k-test.false c.loop-k.invariant.1
