-- The lines of what a buffer holds at its front: the records of a diary, the pairs of some edges.
use Rattle.std.specs.Prelude.{ℕ, zero, suc, ◌+◌, ◌*◌, ◌<◌, ◌≡◌, refl, List, [], ◌∷◌, ◌++◌, length, get_or, drop}
use Rattle.std.proofs.Common.{arith, ap, ap₂, ◌∙◌, append_assoc, get_or-append-add}
use Rattle.std.proofs.Math.ListN.{get_or-append}
use Rattle.lists.specs.Keep.{gather}
use Rattle.model.specs.Limits.{pair_width}
use Rattle.model.specs.Instance.{Instance}
use Rattle.model.specs.PlanFile.{pair_bytes, pair_list}
use Rattle.model.specs.Finder.{Record}
use Rattle.model.specs.Printed.{diary_line, pair_line, pair_lines}
use Rattle.diary.specs.FlatDiary.{numbers, written, record_width}
use Rattle.text_lines.specs.Texts.{texts, texts_gather}
use Rattle.text_lines.specs.Lines.{pair_text, record_at, diary_at, pair_at}

-- bytes of one width for each element, read at the j-th byte of the i-th
module _ {A : Type 0} (w : ℕ) (f : A → List ℕ) (d : A) (wide : (x : A) → length (f x) ≡ w) where
  gather_at : (xs : List A) (rest : List ℕ) (i j : ℕ) → i < length xs → j < w → get_or (gather f xs ++ rest) (w * i + j) 0 ≡ get_or (f (get_or xs i d)) j 0
  gather_at [] rest i j h k = absurd (omega arith)
  gather_at (x ∷ xs) rest zero j h k =
      let e : w * 0 + j ≡ j = omega arith in
      ap₂ (λ (l : List ℕ) n. get_or l n 0) (append_assoc (f x) (gather f xs) rest) e ∙ get_or-append (f x) (gather f xs ++ rest) 0 j (omega (arith, wide x))
  gather_at (x ∷ xs) rest (suc i) j h k =
      let e : w * suc i + j ≡ length (f x) + (w * i + j) = omega (arith, wide x) in
      ap₂ (λ (l : List ℕ) n. get_or l n 0) (append_assoc (f x) (gather f xs) rest) e ∙ get_or-append-add (f x) (gather f xs ++ rest) (w * i + j) 0
      ∙ gather_at xs rest i j (omega arith) k

  -- the same for the first byte, whose place has nothing added
  gather_first : (xs : List A) (rest : List ℕ) (i : ℕ) → i < length xs → 0 < w → get_or (gather f xs ++ rest) (w * i) 0 ≡ get_or (f (get_or xs i d)) 0 0
  gather_first xs rest i h k = let e : w * i ≡ w * i + 0 = omega arith in ap (λ n. get_or (gather f xs ++ rest) n 0) e ∙ gather_at xs rest i 0 h k

-- a flat diary's records
abbrev none : Record
none = record { fate = 0; surveyor = 0; stand = 0; shift = 0; rule = 0 }

record_at_law : (rs : List Record) (d : List ℕ) (i : ℕ) → i < length rs → record_at (written rs d) i ≡ get_or rs i none
unfolding written
record_at_law rs d i h = λ j. record {
  fate = gather_first record_width numbers none (λ x. refl) rs rest i h (omega arith) j;
  surveyor = held 1 (omega arith) j;
  stand = held 2 (omega arith) j;
  shift = held 3 (omega arith) j;
  rule = held 4 (omega arith) j;
}
  where
    rest : List ℕ
    rest = drop (record_width * length rs) d

    held : (j : ℕ) → j < record_width → get_or (gather numbers rs ++ rest) (record_width * i + j) 0 ≡ get_or (numbers (get_or rs i none)) j 0
    held j k = gather_at record_width numbers none (λ x. refl) rs rest i j h k

-- the lines of a flat diary with these records in front are the model's lines of them
pub diary_lines : (rs : List Record) (d : List ℕ) → texts (diary_at (written rs d)) (length rs) ≡ gather diary_line rs
diary_lines rs d = texts_gather diary_line none rs (diary_at (written rs d)) (λ i h. ap diary_line (record_at_law rs d i h))

-- the pairs of some edges
pair_at_law : (G : Instance) (es rest : List ℕ) (i : ℕ) → i < length es → pair_at (pair_list G es ++ rest) i ≡ pair_line G (get_or es i 0)
pair_at_law G es rest i h = λ j. pair_text (gather_first pair_width (pair_bytes G) 0 (λ x. refl) es rest i h (omega arith) j)
    (held 1 (omega arith) j) (held 2 (omega arith) j) 10
  where
    held : (j : ℕ) → j < pair_width → get_or (pair_list G es ++ rest) (pair_width * i + j) 0 ≡ get_or (pair_bytes G (get_or es i 0)) j 0
    held j k = gather_at pair_width (pair_bytes G) 0 (λ x. refl) es rest i j h k

-- the lines of a buffer with the pairs of these edges in front are the model's lines of them
pub pair_lines_law : (G : Instance) (es rest : List ℕ) → texts (pair_at (pair_list G es ++ rest)) (length es) ≡ pair_lines G es
pair_lines_law G es rest = texts_gather (pair_line G) 0 es (pair_at (pair_list G es ++ rest)) (pair_at_law G es rest)
