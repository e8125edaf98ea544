-- Refusals: section "Turned back" of document 01. A refusal is its number; its group follows from the number.
use Rattle.std.specs.Prelude.{ℕ, Bool, cond, ◌&&◌, ◌||◌, eqb, leb}

-- the four groups of refusals
pub data Group : Type 0 where
  form : Group
  content : Group
  plan : Group
  desk : Group

abbrev pub between : ℕ → ℕ → ℕ → Bool
between a b n = leb a n && leb n b

-- "form for 1, 2 and 9; content for 3 to 8; plan for 10 to 12; desk for 13 to 15"; W-207: 20 is desk; a number that no document uses is content
unfoldable pub group_of : ℕ → Group
group_of n = cond (eqb n 1 || (eqb n 2 || eqb n 9)) form (cond (between 10 12 n) plan (cond (between 13 15 n || eqb n 20) desk content))
