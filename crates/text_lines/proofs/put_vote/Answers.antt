-- `text_lines::put_vote` meets its contract: the sign, then the number. Assumes nothing.
use Rattle.std.proofs.Common.{ℕ, arith, ap, List, [], ◌∷◌, ◌++◌}
use Rattle.model.specs.Text.{text}
use Rattle.text_lines.specs.Appended.{append_as, append_then}
use Rattle.text_lines.proofs.SignedVotes.{below_text}
use Rattle.text_lines.proofs.put_vote.Goals as goal

pub returns-then-vote-lt0 : goal.returns-then-vote-lt0
unfolding text
returns-then-vote-lt0 c =
    let a = c.args in
    append_as
    (ap (λ (x : List ℕ). x ++ 10 ∷ [])
    (below_text a.vote c.ranges.vote c.if-vote-lt0.true
    c.size-n.ensures))
    (append_then a.out.now a.at (omega arith) c.put_byte-next.ensures
    c.put_field.ensures)
