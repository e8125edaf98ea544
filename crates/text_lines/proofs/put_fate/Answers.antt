-- `text_lines::put_fate` meets its contract: a word for each fate.
use Rattle.model.specs.Text.{text}
use Rattle.text_lines.specs.Appended.{append_as}
use Rattle.text_lines.proofs.Fields.{fate_none, fate_fix, fate_strike}
use Rattle.text_lines.proofs.put_fate.Goals as goal

pub returns-then-fate-eq0 : goal.returns-then-fate-eq0
returns-then-fate-eq0 c =
    append_as (fate_none c.args.fate c.if-fate-eq0.true)
    c.put_byte.ensures

pub returns-then-fate-eq1 : goal.returns-then-fate-eq1
unfolding text
returns-then-fate-eq1 c =
    append_as
    (fate_fix c.args.fate c.if-fate-eq1.true)
    c.put_word.ensures

pub returns : goal.returns
unfolding text
returns c =
    append_as
    (fate_strike c.args.fate
    c.if-fate-eq0.false c.if-fate-eq1.false)
    c.put_word-2.ensures
