-- What the endings ask of the buffers: counts within the limits, and room for the text.
use Rattle.std.specs.Prelude.{ℕ, ◌+◌, ◌*◌, ◌≤◌, List, length, get_or, drop}
use Rattle.std.proofs.Common.{arith, length-append}
use Rattle.model.specs.Limits.{entry_limit, plan_limit, plan_size, left_size}
use Rattle.answers.specs.declared.NoneKind.{NoneKind}
use Rattle.answers.specs.declared.NoneKind.TheVariants.{Left, Rivalled}
use Rattle.text_lines.specs.Digits.{field_size, field_length}
use Rattle.text_lines.specs.Votes.{vote_size}
use Rattle.text_lines.specs.Texts.{texts_length}
use Rattle.text_lines.specs.Lines.{pair_at, pair_line_size, pair_at_length}
use Rattle.text_lines.specs.Endings.{counted_text, plan_text}

-- a plan buffer whose count byte is one
abbrev pub Counted : List ℕ → Type 0
Counted plan = (get_or plan 0 0 ≤ plan_limit) × (plan_size ≤ length plan)

-- what the ending without a plan asks: a count of left pairs with room for them, or a candidate and a rival in their buffers
abbrev pub NoneHeld : NoneKind → (left plan rival : List ℕ) → Type 0
NoneHeld (Left n) left plan rival = (n ≤ entry_limit) × (left_size ≤ length left)
NoneHeld (Rivalled v) left plan rival = Counted plan × Counted rival

-- "none left ", a count of four digits, byte 10 and 1,024 pair lines: the longest ending
abbrev pub ending_size : ℕ
ending_size = 10 + field_size + pair_line_size * entry_limit

-- "none rivalled ", a vote with its sign and byte 10, and two plans of 64 pair lines
abbrev pub rivalled_size : ℕ
rivalled_size = 14 + vote_size + (10 + field_size + pair_line_size * plan_limit) + (6 + field_size + pair_line_size * plan_limit)

-- "content" and byte 10
abbrev pub group_size : ℕ
group_size = 8

-- "refused ", a number and a space, the group
abbrev pub refused_size : ℕ
refused_size = 8 + field_size + group_size

pub counted_length : (word pairs : List ℕ) (n : ℕ) → length (counted_text word pairs n) ≤ length word + field_size + pair_line_size * n
counted_length word pairs n =
    simp length-append
    (omega (arith, simp length-append at (field_length n 10), texts_length (pair_at pairs) pair_line_size (pair_at_length pairs) n))

pub plan_length : (word plan : List ℕ) → Counted plan → length (plan_text word plan) ≤ length word + field_size + pair_line_size * plan_limit
plan_length word plan h = omega (arith, counted_length word (drop 1 plan) (get_or plan 0 0))
