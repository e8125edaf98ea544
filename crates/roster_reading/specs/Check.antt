-- Fields of one width in a row: what the model's `read_each` reads there is settled by the whole fields that are there, the first refusal
-- among them, and whether they are all. A field that the bytes end in is not there. So the code checks the part of the file that holds the
-- whole fields, and then asks for their number.
use Prim.Native.Nat.{ℕ, zero, suc, ◌+◌, ◌-◌, ◌*◌, ◌/◌, ◌≤◌, ◌<◌, min}
use native.Mathlib.Omega.{arith}
use Rattle.std.proofs.Common.{add-one, le_refl, not-suc-le-zero, mul-le-mul_left, sym, ◌∙◌, drop_of_length-le, drop-drop, get_or-take, lt-ltb, le-ltb}
use Rattle.std.proofs.Math.Decide.{dec_lt}
use Rattle.std.proofs.Math.Nat.{mul-div-le, lt-mul-div-succ}
use Rattle.std.specs.Prelude.{◌≡◌, cond, List, [], ◌∷◌, length, take, get_or, ltb, eqb}
use Rattle.std.proofs.Math.Path.{refl, ap, ap₂}
use Rattle.std.proofs.Math.Logic.{by_cases}
use Rattle.std.proofs.Math.ListN.{drop, length-drop}
use Rattle.std.proofs.Math.Seq.{drop-cons, take-nil}
use Rattle.std.proofs.Math.Dec.{eqb-suc-zero}
use Rattle.model.specs.Reading.{Reading, accepted, refused, ◌then◌, refuse_by, byte, read_each}
use Rattle.lists.specs.Test.{given}
use Rattle.theory_files.specs.Reads.{read_value, refused-not, refuse_by_read}
use Rattle.roster_reading.specs.Place.{placed}

-- the first refusal of two, 0 for none
abbrev pub first_of : ℕ → ℕ → ℕ
first_of zero n = n
first_of (suc m) n = suc m

-- a field of w bytes: "1 bytes end inside a field", or the bytes in front tell its value
pub record Fixed {A : Type 0} (field : List ℕ → Reading (A × List ℕ)) (w : ℕ) (value : List ℕ → A) : Type 0 where
  pub some : 0 < w
  pub cut : (bs : List ℕ) → length bs < w → field bs ≡ refused 1
  pub whole : (bs : List ℕ) → w ≤ length bs → field bs ≡ accepted (value bs, drop w bs)
  pub near : (bs : List ℕ) (n : ℕ) → w ≤ n → value (take n bs) ≡ value bs

-- the values of n fields in front of the bytes
module _ {A : Type 0} (w : ℕ) (value : List ℕ → A) where
  -- the values of n fields of w bytes each, from the first byte on
  unfoldable pub fields_of : ℕ → List ℕ → List A
  fields_of zero bs = []
  fields_of (suc n) bs = value bs ∷ fields_of n (drop w bs)

  -- as many values as fields
  pub fields_length : (n : ℕ) (bs : List ℕ) → length (fields_of n bs) ≡ n
  unfolding fields_of
  fields_length zero bs = refl
  fields_length (suc n) bs = ap suc (fields_length n (drop w bs))

  -- field i is told by the bytes from w * i on
  pub fields_at : (n : ℕ) (bs : List ℕ) (i : ℕ) (d : A) → i < n → get_or (fields_of n bs) i d ≡ value (drop (w * i) bs)
  unfolding fields_of
  fields_at zero bs i d h = absurd (not-suc-le-zero h)
  fields_at (suc n) bs zero d h = let e : 0 ≡ w * 0 = omega arith in ap (λ k. value (drop k bs)) e
  fields_at (suc n) bs (suc i) d h =
      let e : w + w * i ≡ w * suc i = omega arith in
      fields_at n (drop w bs) i d (omega arith) ∙ ap value (drop-drop (w * i) w bs ∙ ap (λ k. drop k bs) e)

drop_take : (m n : ℕ) (bs : List ℕ) → drop m (take (m + n) bs) ≡ take n (drop m bs)
drop_take zero n bs = let e : 0 + n ≡ n = omega arith in ap (λ k. take k bs) e
drop_take (suc m) n [] = let e : suc m + n ≡ suc (m + n) = omega arith in ap (λ k. drop (suc m) (take {A = ℕ} k [])) e ∙ sym (take-nil n)
drop_take (suc m) n (b ∷ bs) = let e : suc m + n ≡ suc (m + n) = omega arith in ap (λ k. drop (suc m) (take k (b ∷ bs))) e ∙ drop_take m n bs

refuse_then : {A B : Type 0} (n : ℕ) (r : Reading (A × List ℕ)) (k : A → List ℕ → Reading (B × List ℕ)) → (refuse_by n r then k) ≡ refuse_by n (r then k)
refuse_then zero r k = refl
refuse_then (suc n) r k = refl

-- the whole fields of w bytes among n from a place on, in so many bytes
abbrev pub whole_fields : (w size at n : ℕ) → ℕ
whole_fields w size at n = min n ((size - at) / w)

-- there is room for them, and if they are not all, for no further one
module _ (w size at n : ℕ) {k : ℕ} (e : k ≡ whole_fields w size at n) where
  -- the whole fields have room in the bytes from the place on
  pub fields_room : w * k ≤ size - at
  fields_room =
      let h : k ≤ (size - at) / w = omega arith in
      omega (arith, mul-le-mul_left w h, mul-div-le (size - at) w)

  fields_full : 0 < w → k < n → size - at < w * k + w
  fields_full s h =
      let d : k ≡ (size - at) / w = omega arith in
      omega (arith, ap (λ m. w * m) d, lt-mul-div-succ (size - at) s)

-- the answer for such a part that ends at `end`: the refusal of a field that is there, or 1 where not all are
abbrev pub part_answer : (refusal there n end : ℕ) → Reading ℕ
part_answer refusal there n end = cond (eqb refusal 0) (cond (ltb there n) (refused 1) (accepted end)) (refused refusal)

module _ {S A : Type 0} (check : S → A → ℕ) (next : S → A → S) where
  -- the first refusal among the fields, 0 for none; s is what the ones before have made
  unfoldable pub refusal_of : S → List A → ℕ
  refusal_of s [] = 0
  refusal_of s (x ∷ xs) = first_of (check s x) (refusal_of (next s x) xs)

  -- behind the last field no refusal is met
  pub refusal_end : (s : S) (xs : List A) (i : ℕ) → length xs ≤ i → refusal_of s (drop i xs) ≡ 0
  unfolding refusal_of
  refusal_end s xs i h = rw (drop_of_length-le xs h)

  -- from field i on: its own refusal, or else that of the fields behind it
  pub refusal_step : (d : A) (s : S) (xs : List A) (i : ℕ) → i < length xs
      → refusal_of s (drop i xs) ≡ first_of (check s (get_or xs i d)) (refusal_of (next s (get_or xs i d)) (drop (i + 1) xs))
  unfolding refusal_of
  refusal_step d s xs i h = rw (add-one, drop-cons xs i d h)

  module _ {field : List ℕ → Reading (A × List ℕ)} {w : ℕ} {value : List ℕ → A} (F : Fixed field w value) where
    abbrev fields : ℕ → List ℕ → List A
    fields = fields_of w value

    -- a field in front, and the others behind it
    abbrev onto : A → List A → List ℕ → Reading (List A × List ℕ)
    onto x xs rest = accepted (x ∷ xs, rest)

    in_front : (n k : ℕ) (s : S) (bs : List ℕ) (ended : Reading (List A × List ℕ)) → w ≤ length bs
        → read_each field check next n (next s (value bs)) (drop w bs) ≡ refuse_by (refusal_of (next s (value bs)) (fields k (drop w bs))) ended
        → read_each field check next (suc n) s bs ≡ refuse_by (refusal_of s (fields (suc k) bs)) (ended then onto (value bs))
    unfolding read_each refusal_of fields_of
    in_front n k s bs ended h e =
        ap (λ r. r then (λ x rest. refuse_by (check s x) (read_each field check next n (next s x) rest then onto x))) (F.whole bs h)
        ∙ ap (λ r. refuse_by (check s (value bs)) (r then onto (value bs))) e ∙ go (check s (value bs)) (refusal_of (next s (value bs)) (fields k (drop w bs)))
      where
        go : (m p : ℕ) → refuse_by m (refuse_by p ended then onto (value bs)) ≡ refuse_by (first_of m p) (ended then onto (value bs))
        go zero p = refuse_then p ended (onto (value bs))
        go (suc m) p = refl

    -- the bytes end inside the field behind k of them
    each_cut : (n k : ℕ) (s : S) (bs : List ℕ) → k < n → w * k ≤ length bs → length bs < w * k + w
        → read_each field check next n s bs ≡ refuse_by (refusal_of s (fields k bs)) (refused 1)
    unfolding read_each refusal_of fields_of
    each_cut zero k s bs l h r = absurd (not-suc-le-zero l)
    each_cut (suc n) zero s bs l h r =
        ap (λ r. r then (λ x rest. refuse_by (check s x) (read_each field check next n (next s x) rest then onto x))) (F.cut bs (omega arith))
    each_cut (suc n) (suc k) s bs l h r =
        let d = length-drop w bs in
        in_front n k s bs (refused 1) (omega arith) (each_cut n k (next s (value bs)) (drop w bs) (omega arith) (omega arith) (omega arith))

    -- n fields are there
    each_whole : (n : ℕ) (s : S) (bs : List ℕ) → w * n ≤ length bs
        → read_each field check next n s bs ≡ refuse_by (refusal_of s (fields n bs)) (accepted (fields n bs, drop (w * n) bs))
    unfolding read_each refusal_of fields_of
    each_whole zero s bs h = let e : 0 ≡ w * 0 = omega arith in ap (λ k. accepted ([], drop k bs)) e
    each_whole (suc n) s bs h =
        let d = length-drop w bs in
        let e : w + w * n ≡ w * suc n = omega arith in
        in_front n n s bs (accepted (fields n (drop w bs), drop (w * n) (drop w bs))) (omega arith) (each_whole n (next s (value bs)) (drop w bs) (omega arith))
        ∙ ap (λ rest. refuse_by (refusal_of s (fields (suc n) bs)) (accepted (fields (suc n) bs, rest))) (drop-drop (w * n) w bs ∙ ap (λ k. drop k bs) e)

    -- the part of the file that holds the fields tells them
    part_fields : (k : ℕ) (bs : List ℕ) (m : ℕ) → w * k ≤ m → fields k (take m bs) ≡ fields k bs
    unfolding fields_of
    part_fields zero bs m h = refl
    part_fields (suc k) bs m h =
        let e : w + (m - w) ≡ m = omega arith in
        ap₂ (λ x xs. x ∷ xs) (F.near bs m (omega arith))
        (ap (fields k) (sym (ap (λ j. drop w (take j bs)) e) ∙ drop_take w (m - w) bs) ∙ part_fields k (drop w bs) (m - w) (omega arith))

    module _ (s : S) (f : List ℕ) (at n k e : ℕ) (h : at ≤ length f) (c : k ≡ whole_fields w (length f) at n) (d : e ≡ at + w * k) where
      abbrev part : List A
      part = fields k (take (e - at) (drop at f))

      same_part : part ≡ fields k (drop at f)
      same_part = part_fields k (drop at f) (e - at) (omega arith)

      cut : k < n → read_each field check next n s (drop at f) ≡ refuse_by (refusal_of s part) (refused 1)
      cut l = rw same_part (each_cut n k s (drop at f) l (omega (arith, length-drop at f, fields_room w (length f) at n c))
          (omega (arith, length-drop at f, fields_full w (length f) at n c F.some l)))

      whole : (k < n → ⊥) → read_each field check next n s (drop at f) ≡ refuse_by (refusal_of s part) (accepted (part, drop e f))
      whole l =
          let q : n ≡ k = omega (arith, l) in
          let r : drop (w * k) (drop at f) ≡ drop e f = drop-drop (w * k) at f ∙ ap (λ j. drop j f) (sym d) in
          rw same_part (ap (λ m. read_each field check next m s (drop at f)) q
          ∙ each_whole k s (drop at f) (omega (arith, length-drop at f, fields_room w (length f) at n c))
          ∙ ap (λ rest. refuse_by (refusal_of s (fields k (drop at f))) (accepted (fields k (drop at f), rest))) r)

      -- the code's answer for n fields at a place: a refusal of the part that holds the whole ones, or where these are not all, 1
      pub part_is : part_answer (refusal_of s part) k n e ≡ placed f (read_each field check next n s (drop at f))
      part_is = by_cases (dec_lt k n)
          (λ l. simp (lt-ltb k n l) (refuses (refusal_of s part)) ∙ sym (ap (placed f) (cut l)))
          (λ l. let b : e ≡ length f - length (drop e f) = simp length-drop (omega (arith, fields_room w (length f) at n c)) in
          simp (le-ltb k n (omega (arith, l))) (reads (refusal_of s part) b) ∙ sym (ap (placed f) (whole l)))
        where
          refuses : (m : ℕ) → cond (eqb m 0) (refused 1) (refused m) ≡ placed {A = List A} f (refuse_by m (refused 1))
          refuses zero = refl
          refuses (suc m) = rw eqb-suc-zero

          reads : (m : ℕ) → e ≡ length f - length (drop e f)
              → cond (eqb m 0) (accepted e) (refused m) ≡ placed f (refuse_by m (accepted (part, drop e f)))
          reads zero b = ap accepted b
          reads (suc m) b = rw eqb-suc-zero

      -- where all fields pass, they are that part
      pub part_read : {xs : List A} {rest : List ℕ} → read_each field check next n s (drop at f) ≡ accepted (xs, rest)
          → (refusal_of s part ≡ 0) × (xs ≡ part)
      part_read q = by_cases (dec_lt k n)
          (λ l. given (refuse_by_read (refusal_of s part) (sym (cut l) ∙ q)) (λ (z, g). refused-not g))
          (λ l. given (refuse_by_read (refusal_of s part) (sym (whole l) ∙ q)) (λ (z, g). (z, read_value (sym g))))

-- ---- fields of one byte: they are the bytes
-- a field of one byte, whose value is the byte
pub fixed_byte : Fixed byte 1 (λ bs. get_or bs 0 0)
fixed_byte = record {
  some = le_refl 1;
  cut = cut;
  whole = whole;
  near = λ bs n h. get_or-take n bs 0 0 h;
}
  where
    cut : (bs : List ℕ) → length bs < 1 → byte bs ≡ refused 1
    cut [] h = refl
    cut (x ∷ bs) h = absurd (let z : ⊥ = omega arith in z)

    whole : (bs : List ℕ) → 1 ≤ length bs → byte bs ≡ accepted (get_or bs 0 0, drop 1 bs)
    whole [] h = absurd (not-suc-le-zero h)
    whole (x ∷ bs) h = refl

-- fields of one byte are the bytes themselves
pub fields_bytes : (n : ℕ) (bs : List ℕ) → length bs ≡ n → fields_of 1 (λ bs. get_or bs 0 0) n bs ≡ bs
unfolding fields_of
fields_bytes zero [] h = refl
fields_bytes zero (x ∷ bs) h = absurd (let z : ⊥ = omega arith in z)
fields_bytes (suc n) [] h = absurd (let z : ⊥ = omega arith in z)
fields_bytes (suc n) (x ∷ bs) h = ap (λ xs. x ∷ xs) (fields_bytes n bs (omega arith))
