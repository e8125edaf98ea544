-- The first n of some texts, one after the other, as a loop writes them.
use Rattle.std.specs.Prelude.{ℕ, zero, suc, ◌+◌, ◌*◌, ◌≤◌, ◌<◌, ◌≡◌, refl, List, [], ◌∷◌, ◌++◌, length, get_or}
use Rattle.std.proofs.Common.{zero-le, arith, add-one, sym, ap, ap₂, ◌∙◌, append_assoc, append-nil, length-append}
use Rattle.lists.specs.Keep.{gather}
use Rattle.text_lines.specs.Appended.{Appended, append_as, append_none, append_then}

-- the first n texts, one behind the other
unfoldable pub texts : (ℕ → List ℕ) → ℕ → List ℕ
texts f zero = []
texts f (suc n) = texts f n ++ f n

texts_none : (f : ℕ → List ℕ) → texts f 0 ≡ []
unfolding texts
texts_none f = refl

texts_more : (f : ℕ → List ℕ) (n : ℕ) → texts f n ++ f n ≡ texts f (n + 1)
unfolding texts
texts_more f n = ap (texts f) (sym (add-one n))

-- n texts of at most `size` bytes have at most n times as many
pub texts_length : (f : ℕ → List ℕ) (size : ℕ) → ((i : ℕ) → length (f i) ≤ size) → (n : ℕ) → length (texts f n) ≤ size * n
unfolding texts
texts_length f size h zero = zero-le
texts_length f size h (suc n) = let e : size * suc n ≡ size * n + size = omega arith in simp length-append (omega (arith, h n, texts_length f size h n))

-- a loop that appends one text a turn: before the first, one more, and after the last
module _ (f : ℕ → List ℕ) {out : List ℕ} {at : ℕ} where
  pub texts_start : Appended out at (texts f 0) out at
  texts_start = append_as (sym (texts_none f)) (append_none out at)

  pub texts_next : {mid after : List ℕ} {p q i : ℕ} → at ≤ length out → Appended out at (texts f i) mid p → Appended mid p (f i) after q
      → Appended out at (texts f (i + 1)) after q
  texts_next {i = i} h a b = append_as (texts_more f i) (append_then out at h a b)

  pub texts_end : {after : List ℕ} {p i n : ℕ} → i ≤ n → n ≤ i → Appended out at (texts f i) after p → Appended out at (texts f n) after p
  texts_end {i = i} {n = n} a b t = append_as (ap (texts f) (let e : i ≡ n = omega arith in e)) t

-- the first text apart
texts_first : (f : ℕ → List ℕ) (n : ℕ) → texts f (suc n) ≡ f 0 ++ texts (λ i. f (suc i)) n
unfolding texts
texts_first f zero = sym (append-nil (f 0))
texts_first f (suc n) = ap (λ (l : List ℕ). l ++ f (suc n)) (texts_first f n) ∙ append_assoc (f 0) (texts (λ i. f (suc i)) n) (f (suc n))

-- a text for each element of a list
pub texts_gather : {A : Type 0} (g : A → List ℕ) (d : A) (xs : List A) (f : ℕ → List ℕ) → ((i : ℕ) → i < length xs → f i ≡ g (get_or xs i d))
    → texts f (length xs) ≡ gather g xs
texts_gather g d [] f h = texts_none f
texts_gather g d (x ∷ xs) f h =
    texts_first f (length xs) ∙ ap₂ (λ (l r : List ℕ). l ++ r) (h 0 (omega arith)) (texts_gather g d xs (λ i. f (suc i)) (λ i k. h (suc i) (omega arith)))
