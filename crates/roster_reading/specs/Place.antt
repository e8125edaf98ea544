-- Places of a file. The model's readers take the bytes that are left and give those that are left behind them; the code's readers
-- take a place of the file and give the place behind what they read. Both say the same: the bytes left are those from the place on.
use Rattle.std.specs.Prelude.{ℕ, suc, ◌+◌, ◌-◌, ◌≤◌, ◌≡◌, refl, Bool, true, false, List, [], ◌∷◌, ◌++◌, length, get_or, take, drop, T, ltb}
use Rattle.std.proofs.Common.{arith, sym, ap, ◌∙◌, subst, length-append, length-drop, take-append-drop, drop-drop, drop_at, lt→ltb, Fits}
use Rattle.std.specs.Int.{w8}
use Rattle.lists.specs.Test.{given, and_i}
use Rattle.model.specs.Reading.{Reading, accepted, refused}
use Rattle.theory_files.specs.Reads.{is_bytes, bytes_rest, Reads}

-- the code's answer for a reading of the file
abbrev pub placed : {A : Type 0} → List ℕ → Reading (A × List ℕ) → Reading ℕ
placed f (accepted (a, rest)) = accepted (length f - length rest)
placed f (refused n) = refused n

abbrev is_read : Reading ℕ → Bool
is_read (accepted n) = true
is_read (refused n) = false

abbrev place_of : Reading ℕ → ℕ
place_of (accepted n) = n
place_of (refused n) = 0

abbrev pub refusal_number : Reading ℕ → ℕ
refusal_number (accepted n) = 0
refusal_number (refused n) = n

pub read-not {ℓ} : {C : Type ℓ} {n m : ℕ} → accepted n ≡ refused m → C
read-not e = absurd (subst (λ s. T (is_read s)) e tt)

pub refused-not-read {ℓ} : {C : Type ℓ} {n m : ℕ} → refused m ≡ accepted n → C
refused-not-read e = read-not (sym e)

-- a refusal is the model's
pub place_refused : {A : Type 0} (f : List ℕ) (r : Reading (A × List ℕ)) {n : ℕ} → refused n ≡ placed f r → r ≡ refused n
place_refused f (accepted (a, rest)) e = refused-not-read e
place_refused f (refused m) e = ap (λ s. refused (refusal_number s)) (sym e)

-- ---- what is read, at its place
pub record Found {A : Type 0} (read : List ℕ → Reading (A × List ℕ)) (write : A → List ℕ) (P : A → Type 0) (f : List ℕ) (at next : ℕ) : Type 0 where
  pub value : A
  pub is : read (drop at f) ≡ accepted (value, drop next f)
  pub size : next ≡ at + length (write value)
  pub within : next ≤ length f
  pub fits : P value
  pub bytes : drop at f ≡ write value ++ drop next f

pub bytes_drop : (n : ℕ) (f : List ℕ) → T (is_bytes f) → T (is_bytes (drop n f))
bytes_drop n f t = bytes_rest (take n f) (drop n f) (subst (λ z. T (is_bytes z)) (sym (take-append-drop n f)) t)

-- the elements of a slice of bytes are bytes
pub bytes_of : (f : List ℕ) → ((i : ℕ) → Fits w8 (get_or f i 0)) → T (is_bytes f)
bytes_of [] h = tt
bytes_of (x ∷ f) h = and_i (ltb x 256) (is_bytes f) (lt→ltb x 256 (omega (arith, h 0))) (bytes_of f (λ i. h (suc i)))

-- a place that the code answers is that behind a value which is read as it is written: the value, its bytes and its size
pub place_read : {A : Type 0} {read : List ℕ → Reading (A × List ℕ)} {write : A → List ℕ} {P : A → Type 0} (R : Reads read write P) (f : List ℕ)
    (at : ℕ) {next : ℕ}
    → T (is_bytes f) → at ≤ length f → accepted next ≡ placed f (read (drop at f)) → Found read write P f at next
place_read {A} {read} {write} {P} R f at {next} t h e = go (read (drop at f)) refl e
  where
    go : (r : Reading (A × List ℕ)) → read (drop at f) ≡ r → accepted next ≡ placed f r → Found read write P f at next
    go (refused n) d e = read-not e
    go (accepted (a, rest)) d e =
        given (R.back (drop at f) a rest (bytes_drop at f t) d) (λ (w, p).
        let n : next ≡ length f - length rest = ap place_of e in
        let l = simp (length-drop, length-append) at (ap length w) in
        let k : next ≡ at + length (write a) = omega arith in
        let s : drop next f ≡ rest =
        ap (λ k. drop k f) k ∙ sym (drop-drop (length (write a)) at f) ∙ ap (drop (length (write a))) w ∙ drop_at (write a) rest (length (write a)) refl in
        record {
          value = a;
          is = d ∙ ap ((λ bs. accepted (a, bs))) (sym s);
          size = k;
          within = omega arith;
          fits = p;
          bytes = w ∙ ap (λ z. write a ++ z) (sym s);
        })
