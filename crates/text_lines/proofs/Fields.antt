-- The words of fates, and fields in a row as one text.
use Prim.Native.Nat.{ℕ, zero, suc}
use mathlib.Core.Path.{◌≡◌, refl}
use mathlib.Core.List.{[], ◌∷◌, ◌++◌, append_assoc}
use Rattle.model.specs.Text.{text}
use Rattle.model.specs.Finder.{Record}
use Rattle.model.specs.Printed.{number, fate_word, diary_line}
use Rattle.text_lines.specs.Lines.{pair_text}

pub fate_none : (n : ℕ) → n ≡ 0 → 32 ∷ [] ≡ fate_word n ++ 32 ∷ []
fate_none n e = rw e

pub fate_fix : (n : ℕ) → n ≡ 1 → text "fix " ≡ fate_word n ++ 32 ∷ []
unfolding text
fate_fix n e = rw e

pub fate_strike : (n : ℕ) → (n ≡ 0 → ⊥) → (n ≡ 1 → ⊥) → text "strike " ≡ fate_word n ++ 32 ∷ []
unfolding text
fate_strike zero f g = absurd (f refl)
fate_strike (suc zero) f g = absurd (g refl)
fate_strike (suc (suc n)) f g = refl

pub pair_fields : (s t k end : ℕ) → ((number s ++ 32 ∷ []) ++ (number t ++ 32 ∷ [])) ++ (number k ++ end ∷ []) ≡ pair_text s t k end
pair_fields s t k end = simp append_assoc

pub record_fields : (x : Record)
    → ((fate_word x.fate ++ 32 ∷ []) ++ pair_text x.surveyor x.stand x.shift 32) ++ (number x.rule ++ 10 ∷ []) ≡ diary_line x
record_fields x = simp append_assoc
