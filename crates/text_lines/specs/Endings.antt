-- The endings, read off the code's answer and the buffers' bytes.
use Rattle.std.specs.Prelude.{ℕ, List, [], ◌∷◌, ◌++◌, get_or, drop, ℤ}
use Rattle.model.specs.Text.{text}
use Rattle.model.specs.Printed.{number, signed, group_word}
use Rattle.answers.specs.declared.Group.{Group}
use Rattle.answers.specs.GroupCases.{group_shown}
use Rattle.answers.specs.declared.NoneKind.{NoneKind}
use Rattle.answers.specs.declared.NoneKind.TheVariants.{Left, Rivalled}
use Rattle.text_lines.specs.Texts.{texts}
use Rattle.text_lines.specs.Lines.{pair_at}

-- a word with its space, the count and the pairs
abbrev pub counted_text : (word pairs : List ℕ) → ℕ → List ℕ
counted_text word pairs n = (word ++ (number n ++ 10 ∷ [])) ++ texts (pair_at pairs) n

-- a word with its space, and the count and the pairs of a plan's bytes
abbrev pub plan_text : (word plan : List ℕ) → List ℕ
plan_text word plan = counted_text word (drop 1 plan) (get_or plan 0 0)

-- the ending with a rival: the vote, the candidate and the rival
abbrev pub rivalled_text : ℤ → (plan rival : List ℕ) → List ℕ
rivalled_text v plan rival = ((text "none rivalled " ++ (signed v ++ 10 ∷ [])) ++ plan_text (text "candidate ") plan) ++ plan_text (text "rival ") rival

-- the ending without a plan, for either reason why there is none
abbrev pub none_text : NoneKind → (left plan rival : List ℕ) → List ℕ
none_text (Left n) left plan rival = counted_text (text "none left ") left n
none_text (Rivalled v) left plan rival = rivalled_text v plan rival

abbrev pub group_text : Group → List ℕ
group_text g = group_word (group_shown g) ++ 10 ∷ []

-- the line of a refusal: its number and its group
abbrev pub refused_text : ℕ → Group → List ℕ
refused_text n g = (text "refused " ++ (number n ++ 32 ∷ [])) ++ group_text g
