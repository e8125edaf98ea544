-- Square tables of 64 columns that lie row after row in one array, filled row by row.
use Rattle.std.specs.Prelude.{ℕ, zero, suc, ◌+◌, ◌-◌, ◌*◌, ◌++◌, take, drop, ◌/◌, ◌%◌, ◌≤◌, ◌<◌, ◌≡◌, cond, List, map, length, set, eqb, ltb}
use Rattle.std.proofs.Common.{get_or-take, get_or-drop, length-take-le, arith, sym, ap, ap₂, ◌∙◌, subst, get_or-set_same, get_or-set_other, lt-ltb, le-ltb, ltb-true, ltb-false}
use borrow.Rule.Slice.PartMut.{put_mid}
use Rattle.std.proofs.lemmas.List.{get_or-append_right, get_or_append_left}
use Rattle.std.proofs.Math.Decide.{dec_lt}
use Rattle.std.proofs.Math.Logic.{by_cases}
use Rattle.lists.specs.Test.{by_bool, by-eq}
use Rattle.lists.specs.Sum.{range}
use Rattle.arrays.specs.ArrayInstance.{at}
use Rattle.arrays.specs.Filled.{Made}

-- ---- a table: the entry of row i, column j; the first n rows and columns are f's; no entry is above k
abbrev pub cell : List ℕ → ℕ → ℕ → ℕ
cell t i j = at t (i * 64 + j)

-- the first n rows and columns are f's
abbrev pub Grid : List ℕ → ℕ → (ℕ → ℕ → ℕ) → Type 0
Grid t n f = (i j : ℕ) → i < n → j < n → cell t i j ≡ f i j

-- the first n rows are f's, in all 64 columns
abbrev pub Rows : List ℕ → ℕ → (ℕ → ℕ → ℕ) → Type 0
Rows t n f = (i j : ℕ) → i < n → j < 64 → cell t i j ≡ f i j

-- row i is another one, the other rows are as they were
abbrev pub Put : List ℕ → List ℕ → ℕ → List ℕ → Type 0
Put t row i r = (a b : ℕ) → b < 64 → cell r a b ≡ cond (eqb a i) (at row b) (cell t a b)

-- a number other than k is below k + 1 if it is below k
other_than : (j k : ℕ) → (j ≡ k → ⊥) → ltb j k ≡ ltb j (k + 1)
other_than j k n = by_bool (ltb j k)
    (λ e. e ∙ sym (lt-ltb j (k + 1) (omega (arith, ltb-true j k e))))
    (λ e. e ∙ sym (le-ltb j (k + 1) (omega (arith, ltb-false j k e))))

-- the list with the row in the place of the 64 entries from row i on
pub put_part : (t row : List ℕ) (i k : ℕ) → i < 64 → length t ≡ 4096 → length row ≡ 64 → k ≡ 64 → Put t row i (put_mid (i * 64) k t row)
put_part t row i k h l w e a b bl = by-eq a i
    (λ q s. get_or-append_right (take (i * 64) t) (row ++ behind) (i * 64) (a * 64 + b) 0 front (omega arith)
    ∙ ap (at (row ++ behind)) (let p : a * 64 + b - i * 64 ≡ b = omega arith in p)
    ∙ get_or_append_left row behind 0 b (omega arith)
    ∙ sym (ap (λ x. cond x (at row b) (cell t a b)) s))
    (λ n s. by_cases (dec_lt a i)
    (λ g. get_or_append_left (take (i * 64) t) (row ++ behind) 0 (a * 64 + b) (omega (arith, front))
    ∙ get_or-take (i * 64) t (a * 64 + b) 0 (omega arith)
    ∙ sym (ap (λ x. cond x (at row b) (cell t a b)) s))
    (λ g. let over : i + 1 ≤ a = omega arith in
    get_or-append_right (take (i * 64) t) (row ++ behind) (i * 64) (a * 64 + b) 0 front (omega arith)
    ∙ get_or-append_right row behind 64 (a * 64 + b - i * 64) 0 w (omega arith)
    ∙ get_or-drop k (drop (i * 64) t) (a * 64 + b - i * 64 - 64) 0
    ∙ get_or-drop (i * 64) t (k + (a * 64 + b - i * 64 - 64)) 0
    ∙ ap (at t) (let p : i * 64 + (k + (a * 64 + b - i * 64 - 64)) ≡ a * 64 + b = omega arith in p)
    ∙ sym (ap (λ x. cond x (at row b) (cell t a b)) s)))
  where
    behind : List ℕ
    behind = drop k (drop (i * 64) t)

    front : length (take (i * 64) t) ≡ i * 64
    front = length-take-le (i * 64) t (omega arith)

-- ---- a table that is written row by row: it is whole, and the entries of its first i rows are as Q says
pub record Written (n : ℕ) (Q : ℕ → ℕ → ℕ → Type 0) (t : List ℕ) (i : ℕ) : Type 0 where
  pub within : i ≤ n
  pub whole : length t ≡ 4096
  pub rows : (a b : ℕ) → a < i → b < 64 → Q a b (cell t a b)

-- no row is written yet
pub written_none : {n : ℕ} {Q : ℕ → ℕ → ℕ → Type 0} {t : List ℕ} → length t ≡ 4096 → Written n Q t 0
written_none l = record { within = omega arith; whole = l; rows = λ a b h. absurd (omega arith) }

module _ {n : ℕ} {Q : ℕ → ℕ → ℕ → Type 0} {t : List ℕ} {i : ℕ} (W : Written n Q t i) where
  -- one row more
  pub written_row : (row r : List ℕ) → i < n → ((b : ℕ) → b < 64 → Q i b (at row b)) → (length r ≡ 4096) × Put t row i r → Written n Q r (i + 1)
  written_row row r h m (l, p) = record {
    within = omega arith;
    whole = l;
    rows = λ a b al bl. by-eq a i
        (λ e s. subst (λ z. Q z b (cell r a b)) (sym e) (subst (Q i b) (sym (p a b bl ∙ ap (λ x. cond x (at row b) (cell t a b)) s)) (m b bl)))
        (λ d s. subst (Q a b) (sym (p a b bl ∙ ap (λ x. cond x (at row b) (cell t a b)) s)) (W.rows a b (omega arith) bl));
  }

  -- all rows are written
  pub written_all : n ≤ i → (a b : ℕ) → a < n → b < 64 → Q a b (cell t a b)
  written_all h a b al bl = W.rows a b (omega arith) bl

-- ---- a row of 64 that is written anew in place, from its front: its first k entries are f's, the others as they were
abbrev pub Remade : List ℕ → (ℕ → ℕ) → ℕ → List ℕ → Type 0
Remade t f k r = (j : ℕ) → j < 64 → at r j ≡ cond (ltb j k) (f j) (at t j)

module _ (t : List ℕ) (f : ℕ → ℕ) where
  -- nothing is written yet
  pub remade_start : Remade t f 0 t
  remade_start j h = sym (ap (λ b. cond b (f j) (at t j)) (le-ltb j 0 (omega arith)))

  -- entry k is as it was
  pub remade_here : (k : ℕ) (r : List ℕ) → k < 64 → Remade t f k r → at r k ≡ at t k
  remade_here k r h m = m k h ∙ ap (λ b. cond b (f k) (at t k)) (le-ltb k k (omega arith))

  -- entry k is written
  pub remade_next : (k : ℕ) (r : List ℕ) (v : ℕ) → length r ≡ 64 → k < 64 → v ≡ f k → Remade t f k r → Remade t f (k + 1) (set r k v)
  remade_next k r v l h e m j g = by-eq j k
      (λ q s. ap (at (set r k v)) q ∙ get_or-set_same r k v 0 (omega arith) ∙ e ∙ ap f (sym q)
      ∙ sym (ap (λ b. cond b (f j) (at t j)) (lt-ltb j (k + 1) (omega arith))))
      (λ n s. get_or-set_other r k j v 0 n ∙ m j g ∙ ap (λ b. cond b (f j) (at t j)) (other_than j k n))

  -- an entry that f leaves as it was needs no writing
  pub remade_stay : (k : ℕ) (r : List ℕ) → f k ≡ at t k → Remade t f k r → Remade t f (k + 1) r
  remade_stay k r e m j g = by-eq j k
      (λ q s. m j g ∙ ap (λ b. cond b (f j) (at t j)) (le-ltb j k (omega arith)) ∙ ap (at t) q ∙ sym e ∙ ap f (sym q)
      ∙ sym (ap (λ b. cond b (f j) (at t j)) (lt-ltb j (k + 1) (omega arith))))
      (λ n s. m j g ∙ ap (λ b. cond b (f j) (at t j)) (other_than j k n))

  -- all is written
  pub remade_end : (k : ℕ) (r : List ℕ) → 64 ≤ k → Remade t f k r → Made 0 r f 64
  remade_end k r h m j g = m j g ∙ ap (λ b. cond b (f j) (at t j)) (lt-ltb j k (omega arith))

-- ---- a table of given entries: there is one for any
at_map : (g : ℕ → ℕ) (i n k : ℕ) → k < n → at (map g (range i n)) k ≡ g (i + k)
at_map g i zero k h = absurd (omega arith)
at_map g i (suc n) zero h = let e : i ≡ i + 0 = omega arith in ap g e
at_map g i (suc n) (suc k) h = let e : suc i + k ≡ i + suc k = omega arith in at_map g (suc i) n k (omega arith) ∙ ap g e

-- the table of f
unfoldable pub table_of : (ℕ → ℕ → ℕ) → ℕ → List ℕ
table_of f size = map (λ k. f (k / 64) (k % 64)) (range 0 size)

-- its rows are f's
pub table_rows : (f : ℕ → ℕ → ℕ) (n : ℕ) → Rows (table_of f (n * 64)) n f
unfolding table_of
table_rows f n i j il jl = at_map (λ k. f (k / 64) (k % 64)) 0 (n * 64) (i * 64 + j) (omega arith) ∙ ap₂ f (row i j jl) (column i j jl)
  where
    row : (i j : ℕ) → j < 64 → (0 + (i * 64 + j)) / 64 ≡ i
    row i j h = omega arith

    column : (i j : ℕ) → j < 64 → (0 + (i * 64 + j)) % 64 ≡ j
    column i j h = omega arith
