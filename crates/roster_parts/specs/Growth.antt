-- The front of an array that grows: what is appended to it, part by part. What is above a roster's size is cut off.
use Rattle.std.specs.Prelude.{ℕ, zero, suc, ◌+◌, ◌-◌, ◌/◌, ◌≤◌, ◌<◌, ◌≡◌, refl, List, [], ◌∷◌, ◌++◌, length, take, set, min}
use Rattle.std.proofs.Common.{arith, add-one, sym, ap, ◌∙◌, subst, append_assoc, append-nil, length-take, length-append, take_all, take-suc-set}
use Rattle.std.proofs.Math.Decide.{dec_lt}
use Rattle.std.proofs.Math.Logic.{by_cases}
use Rattle.std.proofs.lemmas.List.{take-append-le, take-set-le, take_min}
use Rattle.std.proofs.Math.Seq.{take-append-add, take-set-lt, set_out}
use Rattle.model.specs.Limits.{entry_width, roster_size}
use Rattle.model.specs.RosterFile.{wide_bytes}
use Rattle.roster_parts.specs.declared.RosterBytes.{RosterBytes}

-- what is written
abbrev pub written : RosterBytes → List ℕ
written b = take b.len b.roster

-- xs behind what was there, as much of both as there is room for
pub record Grown (xs : List ℕ) (before after : RosterBytes) : Type 0 where
  pub front : written after ≡ take roster_size (written before ++ xs)

-- those bytes from the first on, as many as there is room for
pub record Holds (bytes : List ℕ) (b : RosterBytes) : Type 0 where
  pub front : written b ≡ take roster_size bytes

-- a section's bytes: the count of its entries, and the bytes of its lists, of which so many are lengths
abbrev pub section_of : (lengths : ℕ) (lists : List ℕ) → List ℕ
section_of k bs = wide_bytes ((length bs - k) / entry_width) ++ bs

cut_front : (c : ℕ) (xs ys : List ℕ) → take c (take c xs ++ ys) ≡ take c (xs ++ ys)
cut_front zero xs ys = refl
cut_front (suc c) [] ys = refl
cut_front (suc c) (x ∷ xs) ys = ap (λ z. x ∷ z) (cut_front c xs ys)

-- ---- nothing, one byte, one part behind another
pub written_few : (b : RosterBytes) → length (written b) ≤ roster_size
written_few b = omega (arith, length-take b.len b.roster, b.few)

grown_none : (b : RosterBytes) → Grown [] b b
grown_none b = record {
  front = sym (ap (take roster_size) (append-nil (written b)) ∙ take_all roster_size (written b) (written_few b));
}

pub grown_byte : (x n : ℕ) (o : List ℕ) → n < roster_size → length o ≡ roster_size → take (n + 1) (set o n x) ≡ take roster_size (take n o ++ x ∷ [])
grown_byte x n o h l = ap (λ k. take k (set o n x)) (add-one n) ∙ take-suc-set o n x (omega arith)
    ∙ sym (take_all roster_size (take n o ++ x ∷ []) (omega (arith, length-take n o, length-append (take n o) (x ∷ []))))

-- as much of a part as there is room for, behind the first n
pub grown_part : (xs : List ℕ) (n k : ℕ) (o q : List ℕ) → n ≤ roster_size → length o ≡ roster_size → k ≡ min (length xs) (roster_size - n)
    → take (n + k) q ≡ take n o ++ take k xs → take (n + k) q ≡ take roster_size (take n o ++ xs)
grown_part xs n k o q h l m e = e ∙ ap (λ z. take n o ++ z) part
    ∙ sym (ap (λ z. take z (take n o ++ xs)) room ∙ take-append-add (take n o) xs (roster_size - n))
  where
    room : roster_size ≡ length (take n o) + (roster_size - n)
    room = omega (arith, length-take n o)

    part : take k xs ≡ take (roster_size - n) xs
    part = let z : k ≡ min (roster_size - n) (length xs) = omega arith in ap (λ z. take z xs) z ∙ take_min (roster_size - n) xs

pub grown_full : (xs : List ℕ) (n : ℕ) (o : List ℕ) → length o ≡ roster_size → n ≡ roster_size → take n o ≡ take roster_size (take n o ++ xs)
grown_full xs n o l e =
    sym (take-append-le roster_size (take n o) xs (omega (arith, length-take n o)) ∙ take_all roster_size (take n o) (omega (arith, length-take n o)))

-- what is appended in two parts, one behind the other, is appended as one
pub grown_then : {xs ys : List ℕ} {b c d : RosterBytes} → Grown xs b c → Grown ys c d → Grown (xs ++ ys) b d
grown_then {xs} {ys} {b} g h = record {
  front = h.front ∙ ap (λ z. take roster_size (z ++ ys)) g.front ∙ cut_front roster_size (written b ++ xs) ys
      ∙ ap (take roster_size) (append_assoc (written b) xs ys);
}

-- the same for bytes that are equal
pub grown_as : {xs ys : List ℕ} {b c : RosterBytes} → xs ≡ ys → Grown xs b c → Grown ys b c
grown_as {xs} {ys} {b} {c} e g = subst (λ z. Grown z b c) e g

-- ---- from the first byte on
pub holds_then : {xs ys : List ℕ} {b c : RosterBytes} → Holds xs b → Grown ys b c → Holds (xs ++ ys) c
holds_then {xs} {ys} g h = record { front = h.front ∙ ap (λ z. take roster_size (z ++ ys)) g.front ∙ cut_front roster_size xs ys }

-- what is appended to nothing
pub holds_all : {xs : List ℕ} {b c : RosterBytes} → Holds [] b → Grown xs b c → Holds xs c
holds_all {xs} g h = holds_then g h

-- the same bytes, said otherwise
pub holds_as : {xs ys : List ℕ} {b : RosterBytes} → xs ≡ ys → Holds xs b → Holds ys b
holds_as {xs} {ys} {b} e g = subst (λ z. Holds z b) e g

-- ---- a loop that appends: some is appended, and with what is left it is the whole
pub record Going (whole left : List ℕ) (before after : RosterBytes) : Type 0 where
  pub done : List ℕ
  pub grown : Grown done before after
  pub is : done ++ left ≡ whole

-- before the first turn nothing is appended, and the whole is left
pub going_starts : (whole : List ℕ) (b : RosterBytes) → Going whole whole b b
going_starts whole b = record { done = []; grown = grown_none b; is = refl }

-- the same for a whole that is made in so many turns
pub going_first : (made : ℕ → List ℕ) (count : ℕ) (b : RosterBytes) → Going (made count) (made (count - 0)) b b
going_first made count b =
    let e : count ≡ count - 0 = omega arith in
    subst (λ k. Going (made count) (made k) b b) e (going_starts (made count) b)

-- a turn that appends the first part of what is left
pub going_on : {whole left more xs : List ℕ} {b c d : RosterBytes} → left ≡ xs ++ more → Going whole left b c → Grown xs c d → Going whole more b d
going_on {whole} {left} {more} {xs} e g h = record {
  done = g.done ++ xs;
  grown = grown_then g.grown h;
  is = append_assoc g.done xs more ∙ ap (λ z. g.done ++ z) (sym e) ∙ g.is;
}

-- a turn that appends nothing
pub going_past : {whole left more : List ℕ} {b c : RosterBytes} → left ≡ more → Going whole left b c → Going whole more b c
going_past e g = record { done = g.done; grown = g.grown; is = ap (λ z. g.done ++ z) (sym e) ∙ g.is }

-- with nothing left, the whole is appended
pub going_ends : {whole left : List ℕ} {b c : RosterBytes} → left ≡ [] → Going whole left b c → Grown whole b c
going_ends e g = grown_as (sym (append-nil g.done) ∙ ap (λ z. g.done ++ z) (sym e) ∙ g.is) g.grown

-- ---- a byte of the front written anew
take_set : (n : ℕ) (xs : List ℕ) (i a : ℕ) → take n (set xs i a) ≡ set (take n xs) i a
take_set n xs i a = by_cases (dec_lt i n) (take-set-lt n xs i a)
    (λ h. take-set-le n xs i a (omega (arith, h)) ∙ sym (set_out (take n xs) i a (omega (arith, h, length-take n xs))))

-- a byte that is set in an array is set in what was written
pub written_set : (xs : List ℕ) (n : ℕ) (o : List ℕ) (i a : ℕ) → take n o ≡ take roster_size xs → take n (set o i a) ≡ take roster_size (set xs i a)
written_set xs n o i a e = take_set n o i a ∙ ap (λ z. set z i a) e ∙ sym (take_set roster_size xs i a)
