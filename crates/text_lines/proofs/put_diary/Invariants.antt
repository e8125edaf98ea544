use Rattle.std.proofs.Common.{◌≤◌, ◌≡◌, length}
use Rattle.text_lines.specs.Appended.{Appended}
use Rattle.text_lines.specs.Texts.{texts}
use Rattle.text_lines.specs.Lines.{diary_at}
use Rattle.text_lines.proofs.put_diary.Given as goal

abbrev pub invariant-loop-i : goal.invariant-loop-i
invariant-loop-i l = (l.i ≤ l.n) × Appended l.initial.out l.at (texts (diary_at l.flat) l.i) l.out l.next × (length l.out ≡ length l.initial.out)
