-- `text_lines::put_group` meets its contract: a word for each group.
use Rattle.std.proofs.Common.{ℕ, ◌≡◌, sym, ap, List}
use Rattle.answers.specs.declared.Group.{Group}
use Rattle.model.specs.Text.{text}
use Rattle.text_lines.specs.Appended.{Appended, append_as}
use Rattle.text_lines.specs.Endings.{group_text}
use Rattle.text_lines.proofs.put_group.Goals as goal

-- the word that was put is that of the group
abbrev word : {g h : Group} {out after : List ℕ} {at next : ℕ} → g ≡ h → Appended out at (group_text h) after next → Appended out at (group_text g) after next
word e a = append_as (sym (ap group_text e)) a

pub returns-in-Form : goal.returns-in-Form
unfolding text
returns-in-Form c = word c.in-Form.is c.put_word.ensures

pub returns-in-Content : goal.returns-in-Content
unfolding text
returns-in-Content c = word c.in-Content.is c.put_word-in-Content.ensures

pub returns-in-Plan : goal.returns-in-Plan
unfolding text
returns-in-Plan c = word c.in-Plan.is c.put_word-in-Plan.ensures

pub returns-in-Desk : goal.returns-in-Desk
unfolding text
returns-in-Desk c = word c.in-Desk.is c.put_word-in-Desk.ensures
