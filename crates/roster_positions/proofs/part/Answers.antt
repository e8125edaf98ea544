-- `roster_positions::part` meets its contract. Assumes nothing.
use Rattle.std.proofs.Common.{◌≡◌, sym, ap, ◌∙◌, ◌+◌, ◌-◌, arith, length, take, drop, drop_of_length-le, length-drop, take_all}
use lib.Seq.{take-nil}
use Rattle.roster_positions.proofs.part.Goals as goal

pub returns-then-file-at : goal.returns-then-file-at
returns-then-file-at c = let a = c.args in sym (ap (take a.n) (drop_of_length-le a.file.now c.if-file-at.true) ∙ take-nil a.n)

pub returns-then-file-at-2 : goal.returns-then-file-at-2
returns-then-file-at-2 c =
    let a = c.args in
    simp (
      take_all a.n (drop a.at a.file.now) (simp length-drop (omega arith)),
      take_all (length a.file.now - a.at) (drop a.at a.file.now) (simp length-drop (omega arith)),
    )

pub returns : goal.returns
returns c = let a = c.args in let e : a.at + a.n - a.at ≡ a.n = omega arith in simp e
