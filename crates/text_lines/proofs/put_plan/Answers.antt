-- `text_lines::put_plan` meets its contract: the pairs are the part behind the count byte.
use Rattle.std.proofs.Common.{ℕ, ◌-◌, arith, ap, List, length, get_or, drop, length-drop, take_all}
use Rattle.text_lines.specs.Appended.{append_as}
use Rattle.text_lines.specs.Endings.{counted_text}
use Rattle.text_lines.proofs.put_plan.Goals as goal

pub returns : goal.returns
returns c =
    let a = c.args in
    append_as
    (ap (λ (l : List ℕ). counted_text a.word.now l (get_or a.plan.now 0 0))
    (take_all (length a.plan.now - 1) (drop 1 a.plan.now) (simp length-drop (omega arith))))
    c.put_counted.ensures
