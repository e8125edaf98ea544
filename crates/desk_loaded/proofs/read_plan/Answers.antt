-- `desk_loaded::read_plan` meets its contract: the plan reader's answer. Assumes nothing.
use Rattle.std.proofs.Common.{◌≡◌, ◌∙◌, rules}
use Rattle.model.specs.Reading.{refused}
use Rattle.answers.specs.RefusalCases.{number_of, reading_of}
use Rattle.desk_loaded.specs.OnDesk.{answer_accepted, answer_refused}
use Rattle.desk_loaded.proofs.read_plan.Goals as goal

pub returns : goal.returns
returns c =
    let a = c.args in
    let p = c.read_against in
    answer_accepted a.g a.file.now p.result p.ensures c.in_ok-read_against.was

pub returns-in_err-read_against : goal.returns-in_err-read_against
returns-in_err-read_against c =
    let a = c.args in
    let p = c.read_against in
    let told : reading_of c.from_residual.result ≡ refused (number_of c.in_err-read_against.field-0.0) = search rules in
    told ∙ answer_refused a.g a.file.now p.result p.ensures c.in_err-read_against.was
