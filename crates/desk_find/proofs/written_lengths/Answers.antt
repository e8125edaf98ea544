-- desk_find::written_lengths: case by case of the answer.
use Rattle.std.proofs.Common.{sym, ap, ap₂, ◌∙◌, ℕ}
use Rattle.desk_find.specs.declared.Lengths.{Lengths}
use Rattle.desk_find.specs.Lengths.{lengths_in}
use Rattle.answers.specs.declared.Found.TheVariants as found
use Rattle.desk_find.proofs.written_lengths.Goals as goal

-- a plan, and its rival
abbrev both : (p v : ℕ) → Lengths
both p v = record { plan = p; rival = v }

pub returns-in-Plan : goal.returns-in-Plan
returns-in-Plan c =
    let a = c.args in
    ap (λ p. both p 0) c.plan_length.ensures ∙ ap (λ x. lengths_in x a.plan a.rival) (sym c.in-Plan.is)

pub returns-in-Left : goal.returns-in-Left
returns-in-Left c =
    let a = c.args in
    ap (λ x. lengths_in (found.None c.in-None.field-0 x) a.plan a.rival) (sym c.in-Left.is)
    ∙ ap (λ x. lengths_in x a.plan a.rival) (sym c.in-None.is)

pub returns-in-Rivalled : goal.returns-in-Rivalled
returns-in-Rivalled c =
    let a = c.args in
    ap₂ both c.plan_length-in-Rivalled.ensures c.plan_length-in-Rivalled-2.ensures
    ∙ ap (λ x. lengths_in (found.None c.in-None.field-0 x) a.plan a.rival) (sym c.in-Rivalled.is)
    ∙ ap (λ x. lengths_in x a.plan a.rival) (sym c.in-None.is)
