-- The text read off the code's answer and the buffers' bytes, and what it asks of them: counts within the limits.
use Rattle.std.specs.Prelude.{ℕ, ◌+◌, ◌*◌, ◌≤◌, List, ◌++◌, length, Result}
use Rattle.std.proofs.Common.{arith}
use Rattle.model.specs.Limits.{diary_size}
use Rattle.model.specs.Text.{text}
use Rattle.diary.specs.FlatDiary.{flat_size}
use Rattle.std.specs.declared.result.Result.TheVariants.{Ok, Err}
use Rattle.model.specs.Refusal.{group_of}
use Rattle.answers.specs.declared.Found.{Found}
use Rattle.answers.specs.declared.Found.TheVariants.{Plan, None}
use Rattle.answers.specs.declared.Refusal.{Refusal}
use Rattle.answers.specs.GroupCases.{group_case}
use Rattle.answers.specs.RefusalCases.{number_of}
use Rattle.text_lines.specs.Texts.{texts, texts_length}
use Rattle.text_lines.specs.Lines.{record_at, diary_at, diary_line_size, diary_length}
use Rattle.text_lines.specs.Endings.{plan_text, none_text, refused_text}
use Rattle.text_lines.specs.Room.{Counted, NoneHeld, ending_size}

abbrev pub shown_text : Result Found Refusal → (flat left plan rival : List ℕ) → List ℕ
shown_text (Ok (Plan n)) flat left plan rival = texts (diary_at flat) n ++ plan_text (text "plan ") plan
shown_text (Ok (None n k)) flat left plan rival = texts (diary_at flat) n ++ none_text k left plan rival
shown_text (Err r) flat left plan rival = refused_text (number_of r) (group_case (group_of (number_of r)))

-- so many records in a flat diary
abbrev pub Noted : ℕ → List ℕ → Type 0
Noted n flat = (n ≤ diary_size) × (flat_size ≤ length flat)

-- what the text asks of an answer and its buffers: counts within their limits, and room for what they count
abbrev pub Printable : Result Found Refusal → (flat left plan rival : List ℕ) → Type 0
Printable (Ok (Plan n)) flat left plan rival = Noted n flat × Counted plan
Printable (Ok (None n k)) flat left plan rival = Noted n flat × NoneHeld k left plan rival
Printable (Err r) flat left plan rival = Unit {0}

-- 1,024 diary lines and the longest ending: no text is longer
abbrev pub text_size : ℕ
text_size = diary_line_size * diary_size + ending_size

pub noted_length : (n : ℕ) (flat : List ℕ) → n ≤ diary_size → length (texts (diary_at flat) n) ≤ diary_line_size * diary_size
noted_length n flat h = omega (arith, texts_length (diary_at flat) diary_line_size (λ i. diary_length (record_at flat i)) n)
