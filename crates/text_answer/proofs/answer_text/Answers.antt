-- `text_answer::answer_text` meets its contract: the diary, then the ending.
use Rattle.std.proofs.Common.{zero-le, arith, sym, ap, ap₂, subst, ◌∙◌, Ok}
use Rattle.model.specs.Text.{text}
use Rattle.answers.specs.declared.Found.TheVariants.{Plan, None}
use Rattle.answers.specs.GroupCases.{shows_case}
use Rattle.text_lines.specs.Appended.{append_as, append_then}
use Rattle.text_lines.specs.Endings.{none_text, refused_text}
use Rattle.text_answer.specs.Printable.{shown_text, Printable, noted_length}
use Rattle.text_answer.specs.Answered.{answered}
use Rattle.text_answer.proofs.answer_text.Goals as goal

pub put_plan-requires : goal.put_plan-requires
put_plan-requires c =
    let a = c.args in
    let p : Printable (Ok (Plan c.in-Plan.steps)) a.flat.now a.left.now a.plan.now a.rival.now =
    subst (λ k. Printable k a.flat.now a.left.now a.plan.now a.rival.now) (c.in-Ok.is ∙ ap Ok c.in-Plan.is) c.requires.0 in
    (p.1, omega (arith, c.requires.1, c.put_diary-next.ensures.place, noted_length c.in-Plan.steps a.flat.now p.0.0))

pub put_none-requires : goal.put_none-requires
put_none-requires c =
    let a = c.args in
    let p : Printable (Ok (None c.in-None.steps c.in-None.kind)) a.flat.now a.left.now a.plan.now a.rival.now =
    subst (λ k. Printable k a.flat.now a.left.now a.plan.now a.rival.now) (c.in-Ok.is ∙ ap Ok c.in-None.is) c.requires.0 in
    (p.1, omega (arith, c.requires.1, c.put_diary-next-in-None.ensures.place, noted_length c.in-None.steps a.flat.now p.0.0))

pub returns-in-Plan : goal.returns-in-Plan
unfolding text
returns-in-Plan c =
    let a = c.args in
    answered
    (append_as
    (sym
    (ap (λ k. shown_text k a.flat.now a.left.now a.plan.now a.rival.now)
    (c.in-Ok.is ∙ ap Ok c.in-Plan.is)))
    (append_then a.out.now 0 zero-le c.put_diary-next.ensures
    c.put_plan.ensures))

pub returns-in-None : goal.returns-in-None
unfolding text
returns-in-None c =
    let a = c.args in
    answered
    (append_as
    (sym
    (ap (λ k. shown_text k a.flat.now a.left.now a.plan.now a.rival.now)
    (c.in-Ok.is ∙ ap Ok c.in-None.is)))
    (append_then a.out.now 0
    {y = none_text c.in-None.kind a.left.now a.plan.now a.rival.now}
    zero-le c.put_diary-next-in-None.ensures c.put_none.ensures))

pub returns-in-Err : goal.returns-in-Err
unfolding text
returns-in-Err c =
    let a = c.args in
    answered
    (append_as
    (ap₂ refused_text c.number.ensures (shows_case c.group.result c.group.ensures)
    ∙ sym
    (ap (λ k. shown_text k a.flat.now a.left.now a.plan.now a.rival.now)
    c.in-Err.is))
    c.put_refused.ensures)
