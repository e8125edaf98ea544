-- `roster::file_answer` meets its contract: the end of the file is an accepted roster, and a refusal is the reading's. Assumes nothing.
use Rattle.std.proofs.Common.{◌≡◌, refl, sym, ap, ◌∙◌, rules}
use Rattle.model.specs.Reading.{refused}
use Rattle.model.specs.RosterFile.{read_roster_by}
use Rattle.answers.specs.RefusalCases.{number_of, reading_of}
use Rattle.answers.specs.FileCases.{file_read}
use Rattle.roster_reading.specs.Layout.{layout_of}
use Rattle.roster_reading.specs.Whole.{closed_accepted, closed_refused}
use Rattle.roster.proofs.file_answer.Goals as goal

pub returns : goal.returns
returns c =
    let a = c.args in
    let f = a.file.now in
    sym (closed_accepted f (read_roster_by (layout_of a.shifts) f) file_read (λ R. refl) (sym (ap reading_of c.in_ok-roster_file.was) ∙ c.roster_file.ensures))

pub returns-in_err-roster_file : goal.returns-in_err-roster_file
returns-in_err-roster_file c =
    let a = c.args in
    let f = a.file.now in
    let told : reading_of c.from_residual.result ≡ refused (number_of c.in_err-roster_file.field-0.0) = search rules in
    told ∙ sym (ap file_read (closed_refused f (read_roster_by (layout_of a.shifts) f) (sym (ap reading_of c.in_err-roster_file.was) ∙ c.roster_file.ensures)))
