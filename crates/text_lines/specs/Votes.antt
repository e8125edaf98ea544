-- A vote in text.
use Rattle.std.specs.Prelude.{ℕ, suc, ◌≤◌, [], ◌∷◌, ◌++◌, length, ℤ, pos, negsuc}
use Rattle.std.proofs.Common.{arith}
use Rattle.model.specs.Text.{text}
use Rattle.model.specs.Printed.{signed}
use Rattle.text_lines.specs.Digits.{field_length}

-- how far a vote is from zero
abbrev pub size_of : ℤ → ℕ
size_of (pos n) = n
size_of (negsuc n) = suc n

-- a sign, a number and the byte behind it
abbrev pub vote_size : ℕ
vote_size = 6

-- a vote with byte 10 behind it has at most six bytes
pub vote_length : (v : ℤ) → length (signed v ++ 10 ∷ []) ≤ vote_size
unfolding text
vote_length (pos n) = omega (arith, field_length n 10)
vote_length (negsuc n) = omega (arith, field_length (suc n) 10)
