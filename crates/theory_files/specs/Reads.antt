-- A reader and a writer that agree: what is read was written so, and what is written is read back. Fields, and fields in a row.
use Prim.Native.Nat.{ℕ, zero, suc, ◌<◌}
use Rattle.std.proofs.Common.{arith, ap₂, ◌∙◌, lt→ltb}
use Rattle.std.specs.Prelude.{◌≡◌, ◌≢◌, Bool, true, false, not, get_or, T, ltb}
use Rattle.std.proofs.Math.Path.{refl, sym, ap, subst}
use mathlib.Core.List.{List, [], ◌∷◌, ◌++◌, append_assoc}
use Rattle.std.proofs.Math.ListN.{length}
use Rattle.lists.specs.Test.{given, and_r, and_i}
use Rattle.lists.specs.Keep.{gather, All}
use Rattle.model.specs.Reading.{Reading, accepted, refused, ◌then◌, refuse_if, refuse_by, byte, two_bytes, read_each, whole}
pub use Rattle.model.specs.Reading.{is_bytes}

-- numbers that are all below 256 are bytes
pub bytes_are : (bs : List ℕ) → ((i : ℕ) → get_or bs i 0 < 256) → T (is_bytes bs)
bytes_are [] h = tt
bytes_are (b ∷ bs) h = and_i (ltb b 256) (is_bytes bs) (lt→ltb b 256 (h 0)) (bytes_are bs (λ i. h (suc i)))

-- ---- what a result says of the steps that gave it
module _ {A : Type 0} where
  abbrev value_in : A → Reading A → A
  value_in d (accepted a) = a
  value_in d (refused n) = d

  abbrev is_accepted : Reading A → Bool
  is_accepted (accepted a) = true
  is_accepted (refused n) = false

  -- two accepted readings are equal only with the same value
  pub accepted_value : {a b : A} → accepted a ≡ accepted b → a ≡ b
  accepted_value {a} e = ap (value_in a) e

  -- a refusal is no accepted reading
  pub refused-not {ℓ} : {C : Type ℓ} {n : ℕ} {a : A} → ◌≡◌ {A = Reading A} (refused n) (accepted a) → C
  refused-not e = absurd (subst (λ r. T (not (is_accepted r))) e tt)

  abbrev number_in : Reading A → ℕ
  number_in (accepted a) = 0
  number_in (refused n) = n

  -- two refusals are equal only with the same number
  pub refused_number : {n k : ℕ} → ◌≡◌ {A = Reading A} (refused n) (refused k) → n ≡ k
  refused_number e = ap number_in e

  -- a refusal of another number came later
  pub refuse_other : (b : Bool) (n : ℕ) {r : Reading A} {k : ℕ} → n ≢ k → refuse_if b n r ≡ refused k → r ≡ refused k
  refuse_other true n d e = absurd (d (refused_number e))
  refuse_other false n d e = e

  -- what was accepted past a refusal was not refused there: the test said no, and what comes behind it was accepted
  pub refuse_read : (b : Bool) (n : ℕ) {r : Reading A} {a : A} → refuse_if b n r ≡ accepted a → T (not b) × (r ≡ accepted a)
  refuse_read true n e = refused-not e
  refuse_read false n e = (tt, e)

  pub refuse_no : (b : Bool) (n : ℕ) (r : Reading A) → T (not b) → refuse_if b n r ≡ r
  refuse_no true n r t = absurd t
  refuse_no false n r t = refl

-- ---- a field, and a whole file
module _ {A : Type 0} where
  -- two accepted fields are equal only with the same value
  pub read_value : {a b : A} {cs bs : List ℕ} → ◌≡◌ {A = Reading (A × List ℕ)} (accepted (a, cs)) (accepted (b, bs)) → a ≡ b
  read_value e = ap (λ (w : A × List ℕ). w.0) (accepted_value e)

  -- two accepted fields are equal only with the same bytes behind them
  pub read_rest : {a b : A} {cs bs : List ℕ} → ◌≡◌ {A = Reading (A × List ℕ)} (accepted (a, cs)) (accepted (b, bs)) → cs ≡ bs
  read_rest e = ap (λ (w : A × List ℕ). w.1) (accepted_value e)

  -- an accepted file was read to its end
  pub whole_accepted : (r : Reading (A × List ℕ)) {a : A} → whole r ≡ accepted a → r ≡ accepted (a, [])
  whole_accepted (accepted (a, [])) e = ap (λ z. accepted (z, [])) (accepted_value e)
  whole_accepted (accepted (a, x ∷ bs)) e = refused-not e
  whole_accepted (refused n) e = refused-not e

-- two fields were accepted together: the first was, and the second was on the bytes behind it
pub then_read : {A B : Type 0} (r : Reading (A × List ℕ)) (f : A → List ℕ → Reading (B × List ℕ)) {b : B} {bs : List ℕ} → (r then f) ≡ accepted (b, bs)
    → (a : A) × (mid : List ℕ) × (r ≡ accepted (a, mid)) × (f a mid ≡ accepted (b, bs))
then_read (accepted (a, mid)) f e = (a, mid, refl, e)
then_read (refused n) f e = refused-not e

pub byte_read : (bs : List ℕ) {x : ℕ} {rest : List ℕ} → byte bs ≡ accepted (x, rest) → bs ≡ x ∷ rest
byte_read [] e = refused-not e
byte_read (y ∷ bs) e = ap₂ (λ z zs. z ∷ zs) (read_value e) (read_rest e)

pub two_bytes_read : (bs : List ℕ) {w : ℕ × ℕ} {rest : List ℕ} → two_bytes bs ≡ accepted (w, rest) → bs ≡ w.0 ∷ w.1 ∷ rest
two_bytes_read [] e = refused-not e
two_bytes_read (x ∷ []) e = refused-not e
two_bytes_read (x ∷ y ∷ bs) e = ap₂ (λ (w : ℕ × ℕ) zs. w.0 ∷ w.1 ∷ zs) (read_value e) (read_rest e)

-- ---- the agreement
-- for values of which P holds: bytes that are read are what is written of the value and the rest, and what is written is read back
pub record Reads {A : Type 0} (read : List ℕ → Reading (A × List ℕ)) (write : A → List ℕ) (P : A → Type 0) : Type 0 where
  pub back : (bs : List ℕ) (a : A) (rest : List ℕ) → T (is_bytes bs) → read bs ≡ accepted (a, rest) → (bs ≡ write a ++ rest) × P a
  pub forth : (a : A) (rest : List ℕ) → P a → read (write a ++ rest) ≡ accepted (a, rest)

-- what stands behind some bytes of a file is bytes
pub bytes_rest : (cs bs : List ℕ) → T (is_bytes (cs ++ bs)) → T (is_bytes bs)
bytes_rest [] bs t = t
bytes_rest (a ∷ cs) bs t = bytes_rest cs bs (and_r (ltb a 256) (is_bytes (cs ++ bs)) t)

-- what a reader leaves is bytes again
pub rest_bytes : (cs rest : List ℕ) {bs : List ℕ} → bs ≡ cs ++ rest → T (is_bytes bs) → T (is_bytes rest)
rest_bytes cs rest e t = bytes_rest cs rest (subst (λ z. T (is_bytes z)) e t)

-- what was accepted past a check met no refusal there, and what comes behind it was accepted
pub refuse_by_read : {A : Type 0} (n : ℕ) {r : Reading (A × List ℕ)} {a : A} {bs : List ℕ} → refuse_by n r ≡ accepted (a, bs) → (n ≡ 0) × (r ≡ accepted (a, bs))
refuse_by_read zero e = (refl, e)
refuse_by_read (suc n) e = refused-not e

pub refuse_by_no : {A : Type 0} (n : ℕ) (r : Reading (A × List ℕ)) → n ≡ 0 → refuse_by n r ≡ r
refuse_by_no zero r e = refl
refuse_by_no (suc n) r e = absurd (omega arith)

-- ---- fields in a row
module _ {S A : Type 0} (check : S → A → ℕ) (next : S → A → S) where
  -- each field passes its check
  abbrev pub Passes : S → List A → Type 0
  Passes s [] = Unit {0}
  Passes s (x ∷ xs) = (check s x ≡ 0) × Passes (next s x) xs

module _ {S A : Type 0} {field : List ℕ → Reading (A × List ℕ)} {write : A → List ℕ} {P : A → Type 0} (R : Reads field write P) (check : S → A → ℕ)
    (next : S → A → S) where
  abbrev more : S → A → ℕ → List ℕ → Reading (List A × List ℕ)
  more s x n rest = read_each field check next n (next s x) rest then (λ xs rest. accepted (x ∷ xs, rest))

  each_back : (n : ℕ) (s : S) (bs : List ℕ) (xs : List A) (rest : List ℕ) → T (is_bytes bs) → read_each field check next n s bs ≡ accepted (xs, rest)
      → (bs ≡ gather write xs ++ rest) × (length xs ≡ n) × All P xs × Passes check next s xs
  unfolding read_each
  each_back zero s bs xs rest t e = (
    read_rest e ∙ ap (λ (z : List A). gather write z ++ rest) (read_value e),
    ap length (sym (read_value e)),
    subst (All P) (read_value e) tt,
    subst (Passes check next s) (read_value e) tt,
  )
  each_back (suc n) s bs xs rest t e =
      given (then_read (field bs) (λ x rest. refuse_by (check s x) (more s x n rest)) e) (λ (x, mid, e₁, h₁).
      given (refuse_by_read (check s x) h₁) (λ (c, h₂).
      given (then_read (read_each field check next n (next s x) mid) (λ xs rest. accepted (x ∷ xs, rest)) h₂) (λ (ys, end, e₃, h₃).
      given (R.back bs x mid t e₁) (λ (w, p).
      given (each_back n (next s x) mid ys end (rest_bytes (write x) mid w t) e₃) (λ (v, l, q, k).
      given (read_value h₃) (λ (d : x ∷ ys ≡ xs). (
        w ∙ ap (λ z. write x ++ z) (v ∙ ap (λ z. gather write ys ++ z) (read_rest h₃)) ∙ sym (append_assoc (write x) (gather write ys) rest)
            ∙ ap (λ z. gather write z ++ rest) d,
        ap length (sym d) ∙ ap suc l,
        subst (All P) d (p, q),
        subst (Passes check next s) d (c, k),
      )))))))

  each_forth : (s : S) (xs : List A) (rest : List ℕ) → All P xs → Passes check next s xs
      → read_each field check next (length xs) s (gather write xs ++ rest) ≡ accepted (xs, rest)
  unfolding read_each
  each_forth s [] rest p k = refl
  each_forth s (x ∷ xs) rest p k =
      ap (λ z. field z then (λ x rest. refuse_by (check s x) (more s x (length xs) rest))) (append_assoc (write x) (gather write xs) rest)
      ∙ ap (λ r. r then (λ x rest. refuse_by (check s x) (more s x (length xs) rest))) (R.forth x (gather write xs ++ rest) p.0)
      ∙ refuse_by_no (check s x) (more s x (length xs) (gather write xs ++ rest)) k.0
      ∙ ap (λ r. r then (λ xs rest. accepted (x ∷ xs, rest))) (each_forth (next s x) xs rest p.1 k.1)

  -- n fields in a row, each within its check, are read as they are written one behind the other
  pub each : (n : ℕ) (s : S) → Reads (read_each field check next n s) (gather write) (λ xs. (length xs ≡ n) × All P xs × Passes check next s xs)
  each n s = record {
    back = λ bs xs rest t e. given (each_back n s bs xs rest t e) (λ (w, l, p, k). (w, (l, p, k)));
    forth = λ xs rest (l, p, k). subst (λ k. read_each field check next k s (gather write xs ++ rest) ≡ accepted (xs, rest)) l (each_forth s xs rest p k);
  }

-- ---- one byte, and some bytes
abbrev pub any : ℕ → Type 0
any x = Unit {0}

pub a_byte : Reads byte (λ x. x ∷ []) any
a_byte = record { back = λ bs x rest t e. (byte_read bs e, tt); forth = λ x rest p. refl }

pub two_bytes_law : Reads two_bytes (λ (w : ℕ × ℕ). w.0 ∷ w.1 ∷ []) (λ w. Unit {0})
two_bytes_law = record { back = λ bs w rest t e. (two_bytes_read bs e, tt); forth = λ w rest p. refl }

singles : (xs : List ℕ) → gather (λ x. x ∷ []) xs ≡ xs
singles [] = refl
singles (x ∷ xs) = ap (λ z. x ∷ z) (singles xs)

every_any : (xs : List ℕ) → All any xs
every_any [] = tt
every_any (x ∷ xs) = (tt, every_any xs)

pub bytes : {S : Type 0} (check : S → ℕ → ℕ) (next : S → ℕ → S) (n : ℕ) (s : S)
    → Reads (read_each byte check next n s) (λ xs. xs) (λ xs. (length xs ≡ n) × Passes check next s xs)
bytes check next n s = record {
  back = λ bs xs rest t e. given ((each a_byte check next n s).back bs xs rest t e) (λ (w, (l, p, k)). (w ∙ ap (λ z. z ++ rest) (singles xs), (l, k)));
  forth = λ xs rest (l, k). ap (λ z. read_each byte check next n s (z ++ rest)) (sym (singles xs))
      ∙ (each a_byte check next n s).forth xs rest (l, every_any xs, k);
}
