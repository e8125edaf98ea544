-- `seasons::converted` meets its contract: 15, the file's refusal, or what an accepted file gives. Assumes nothing.
use Rattle.std.proofs.Common.{◌≡◌, refl, sym, subst, Ok, Err, rules}
use Rattle.model.specs.Limits.{roster_size}
use Rattle.model.specs.RosterFile.{read_roster_by}
use Rattle.answers.specs.RefusalCases.{reading_of}
use Rattle.answers.specs.FileCases.{file_read, read_accepted}
use Rattle.roster_reading.specs.Layout.{layout_of}
use Rattle.answers.specs.Settling.{Answers, answers_short, answers_settled}
use Rattle.seasons.specs.Converting.{turn_by, file_turned}
use Rattle.seasons.proofs.converted.Goals as goal

pub returns-in_err-file_answer : goal.returns-in_err-file_answer
returns-in_err-file_answer c =
    let a = c.args in
    let told : c.from_residual.result ≡ Err c.in_err-file_answer.field-0.0 = search rules in
    let read : reading_of (Err c.in_err-file_answer.field-0.0) ≡ file_read (read_roster_by (layout_of a.shifts) a.file.now) = search rules in
    subst (λ r. Answers roster_size (turn_by a.shifts a.file.now) a.out.now r a.out.now) (sym told)
    (answers_settled roster_size (turn_by a.shifts a.file.now) a.out.now c.if-out-lt-ROSTER_SIZE.false
    (file_turned a.shifts a.file.now a.out.now c.in_err-file_answer.field-0.0 refl read))

pub settled-requires : goal.settled-requires
settled-requires c =
    let a = c.args in
    let read : reading_of (Ok tt) ≡ file_read (read_roster_by (layout_of a.shifts) a.file.now) = search rules in
    (read_accepted (read_roster_by (layout_of a.shifts) a.file.now) refl read, c.if-out-lt-ROSTER_SIZE.false)

pub returns : goal.returns
returns c =
    let a = c.args in
    answers_settled roster_size (turn_by a.shifts a.file.now) a.out.now c.if-out-lt-ROSTER_SIZE.false c.settled.ensures

pub returns-then-out-lt-ROSTER_SIZE : goal.returns-then-out-lt-ROSTER_SIZE
returns-then-out-lt-ROSTER_SIZE c =
    let a = c.args in
    answers_short roster_size (turn_by a.shifts a.file.now) a.out.now c.if-out-lt-ROSTER_SIZE.true
