-- The calls that store a roster in walking order, and unstore it (W-214): "A call that takes a roster as a file (..) needs none loaded and does
-- not use the desk." So 15 alone comes before the file's own refusals, and nothing is held afterwards.
use Rattle.std.specs.Prelude.{ℕ, cond, List}
use Rattle.model.specs.Limits.{stored_size}
use Rattle.model.specs.Reading.{Reading}
use Rattle.model_desk.specs.Desk.{Answer, writes, refusal, short, converted_answer, converted_onto}

-- "Either buffer needs 4,295 bytes, else 15."
unfoldable pub stored_answer : Reading (List ℕ) → (buffer : List ℕ) → Answer writes
stored_answer x b = cond (short b stored_size) (refusal 15) (converted_answer x)

-- the buffer after such a call: the file's bytes at its front; a refusal, 15 too, changes no byte
unfoldable pub stored_lent : Reading (List ℕ) → (buffer : List ℕ) → List ℕ
stored_lent x b = cond (short b stored_size) b (converted_onto x b)
