-- `text_lines::put_none` meets its contract: a text for each kind.
use Rattle.std.proofs.Common.{sym, ap}
use Rattle.model.specs.Text.{text}
use Rattle.text_lines.specs.Appended.{append_as}
use Rattle.text_lines.specs.Endings.{none_text}
use Rattle.text_lines.proofs.put_none.Goals as goal

pub returns-in-Left : goal.returns-in-Left
unfolding text
returns-in-Left c =
    let a = c.args in
    append_as
    (sym (ap (λ k. none_text k a.left.now a.plan.now a.rival.now) c.in-Left.is))
    c.put_counted.ensures
