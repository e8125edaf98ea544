-- What a writer of text leaves in a buffer: the text from a place on, every other byte as it was, and the place behind the text. Texts
-- that are written one after the other are one text.
use Rattle.std.specs.Prelude.{ℕ, ◌+◌, ◌≤◌, ◌<◌, ◌≡◌, refl, List, [], ◌∷◌, ◌++◌, length, take, drop, set}
use Rattle.std.proofs.Common.{arith, add-one, sym, ap, ap₂, ◌∙◌, subst, append_assoc, take-append-drop, length-append, length-take-le, take_at, drop_at, drop-drop}
use Rattle.std.proofs.lemmas.List.{set_split}

-- the text x stands in the buffer from a place on, every other byte is as it was, and `next` is the place behind it
pub record Appended (out : List ℕ) (at : ℕ) (x : List ℕ) (after : List ℕ) (next : ℕ) : Type 0 where
  pub place : next ≡ at + length x
  pub bytes : after ≡ take at out ++ (x ++ drop (at + length x) out)

-- the same text in other words
pub append_as : {out after x y : List ℕ} {at next : ℕ} → x ≡ y → Appended out at x after next → Appended out at y after next
append_as {out} {after} {x} {y} {at} {next} e a = subst (λ (z : List ℕ). Appended out at z after next) e a

module _ (out : List ℕ) (at : ℕ) where
  -- no text leaves the buffer and the place as they are
  pub append_none : Appended out at [] out at
  append_none =
      record { place = omega arith; bytes = sym (ap (λ k. take at out ++ drop k out) (let e : at + 0 ≡ at = omega arith in e) ∙ take-append-drop at out) }

  pub append_one : (b : ℕ) → at < length out → Appended out at (b ∷ []) (set out at b) (at + 1)
  append_one b h = record { place = refl; bytes = set_split out at b h ∙ ap (λ k. take at out ++ (b ∷ drop k out)) (sym (add-one at)) }

  module _ {x y mid after : List ℕ} {p q : ℕ} (h : at ≤ length out) (a : Appended out at x mid p) (b : Appended mid p y after q) where
    -- two texts, the second behind the first, are one
    pub append_then : Appended out at (x ++ y) after q
    append_then =
        let l : length (x ++ y) ≡ length x + length y = length-append x y in
        let k : length (take at out) ≡ at = length-take-le at out h in
        let f : length (take at out ++ x) ≡ p = simp length-append (omega (arith, a.place)) in
        let s : mid ≡ (take at out ++ x) ++ drop (at + length x) out = a.bytes ∙ sym (append_assoc (take at out) x (drop (at + length x) out)) in
        let t : take p mid ≡ take at out ++ x = ap (take p) s ∙ take_at (take at out ++ x) (drop (at + length x) out) p f in
        let d : drop (p + length y) mid ≡ drop (at + length (x ++ y)) out =
        sym (drop-drop (length y) p mid)
        ∙ ap (drop (length y)) (ap (drop p) s ∙ drop_at (take at out ++ x) (drop (at + length x) out) p f)
        ∙ drop-drop (length y) (at + length x) out
        ∙ ap (λ n. drop n out) (let e : (at + length x) + length y ≡ at + length (x ++ y) = omega arith in e) in
        record {
          place = omega (arith, a.place, b.place);
          bytes = b.bytes ∙ ap₂ (λ (l r : List ℕ). l ++ (y ++ r)) t d ∙ append_assoc (take at out) x (y ++ drop (at + length (x ++ y)) out)
              ∙ ap (λ (l : List ℕ). take at out ++ l) (sym (append_assoc x y (drop (at + length (x ++ y)) out)));
        }

  -- and so are three
  pub append_three : {x y z first second after : List ℕ} {p q r : ℕ} → at ≤ length out → Appended out at x first p → Appended first p y second q
      → Appended second q z after r → Appended out at ((x ++ y) ++ z) after r
  append_three h a b c = append_then h (append_then h a b) c
