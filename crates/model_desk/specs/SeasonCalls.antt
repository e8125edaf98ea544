-- The calls that turn a roster of an old season into a new one, and back (W-205): "A call that takes a roster as a file, here or in a later
-- request, needs none loaded and does not use the desk." So 15 alone comes before the file's own refusals, and nothing is held afterwards.
use Rattle.std.specs.Prelude.{ℕ, cond, List}
use Rattle.model.specs.Limits.{roster_size}
use Rattle.model.specs.Reading.{Reading}
use Rattle.model_desk.specs.Desk.{Answer, writes, refusal, short, converted_answer, converted_onto}

-- what such a call answers for the conversion of its file, and the buffer lent to it afterwards: "The buffer written to needs 4,262 (..) bytes
-- either way."
unfoldable pub file_answer : Reading (List ℕ) → (buffer : List ℕ) → Answer writes
file_answer x b = cond (short b roster_size) (refusal 15) (converted_answer x)

-- the buffer after such a call: the file's bytes at its front; a refusal changes no byte
unfoldable pub file_lent : Reading (List ℕ) → (buffer : List ℕ) → List ℕ
file_lent x b = cond (short b roster_size) b (converted_onto x b)
