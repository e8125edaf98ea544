-- Diary lines and pair lines read off their bytes, and the room that a line needs: a word of at most six letters, numbers of at most
-- four digits, a byte behind each.
use Rattle.std.specs.Prelude.{ℕ, zero, suc, ◌+◌, ◌*◌, ◌≤◌, true, List, [], ◌∷◌, ◌++◌, length, get_or}
use Rattle.std.proofs.Common.{arith, length-append}
use Rattle.model.specs.Limits.{pair_width}
use Rattle.model.specs.Text.{text}
use Rattle.model.specs.Finder.{Record}
use Rattle.model.specs.Printed.{number, fate_word, diary_line}
use Rattle.diary.specs.FlatDiary.{record_width}
use Rattle.pair_bytes.specs.declared.Pair.{Pair}
use Rattle.pair_bytes.specs.PairAt.{pair_from}
use Rattle.text_lines.specs.Digits.{digits_length, field_size}

-- "strike" and a space
abbrev pub fate_size : ℕ
fate_size = 7

-- the most bytes of a pair line: three numbers, a byte behind each
abbrev pub pair_line_size : ℕ
pair_line_size = 3 * field_size

-- the most bytes of a diary line: the fate, a pair and the rule
abbrev pub diary_line_size : ℕ
diary_line_size = fate_size + pair_line_size + field_size

-- the numbers of a pair: a space behind the first two, a byte behind the shift
abbrev pub pair_text : (surveyor stand shift end : ℕ) → List ℕ
pair_text s t k end = number s ++ 32 ∷ (number t ++ 32 ∷ (number k ++ end ∷ []))

-- the i-th record of a flat diary, its line, and the line of the i-th pair of some pair bytes
abbrev pub record_at : List ℕ → ℕ → Record
record_at flat i = record {
  fate = get_or flat (record_width * i) 0;
  surveyor = get_or flat (record_width * i + 1) 0;
  stand = get_or flat (record_width * i + 2) 0;
  shift = get_or flat (record_width * i + 3) 0;
  rule = get_or flat (record_width * i + 4) 0;
}

-- the line of the i-th record of a flat diary
abbrev pub diary_at : List ℕ → ℕ → List ℕ
diary_at flat i = diary_line (record_at flat i)

abbrev pub line_of : Pair → List ℕ
line_of p = pair_text p.surveyor p.stand p.shift 10

-- the line of the i-th pair of some pair bytes
abbrev pub pair_at : List ℕ → ℕ → List ℕ
pair_at pairs i = line_of (pair_from true pairs (pair_width * i))

pub fate_length : (n : ℕ) → length (fate_word n) ≤ 6
unfolding text
fate_length zero = omega arith
fate_length (suc zero) = omega arith
fate_length (suc (suc n)) = omega arith

-- no diary line is longer than its limit
pub diary_length : (x : Record) → length (diary_line x) ≤ diary_line_size
diary_length x = simp length-append (omega (
  arith,
  fate_length x.fate,
  digits_length 4 x.surveyor,
  digits_length 4 x.stand,
  digits_length 4 x.shift,
  digits_length 4 x.rule,
))

-- no pair line is longer than its limit
pub pair_length : (s t k end : ℕ) → length (pair_text s t k end) ≤ pair_line_size
pair_length s t k end = simp length-append (omega (arith, digits_length 4 s, digits_length 4 t, digits_length 4 k))

pub pair_at_length : (pairs : List ℕ) (i : ℕ) → length (pair_at pairs i) ≤ pair_line_size
pair_at_length pairs i = let p = pair_from true pairs (pair_width * i) in pair_length p.surveyor p.stand p.shift 10
