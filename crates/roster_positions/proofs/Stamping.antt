-- One turn of each loop, in the words of `specs/Tables.antt`. Assumes nothing.
use mathlib.Core.Path.{◌≡◌, refl, ap}
use mathlib.Core.List.{List, [], ◌∷◌}
use Prim.Native.Nat.{ℕ, zero, suc, ◌+◌, ◌-◌, ◌*◌, ◌%◌, ◌≤◌, ◌<◌}
use native.Mathlib.Omega.{arith}
use native.Mathlib.Numerals.{add-one}
use lib.ListN.{length, take, drop, get_or, set, length-take, length-drop}
use lib.Seq.{drop-cons}
use Rattle.model.specs.Limits.{entry_width}
use Rattle.roster_positions.specs.Tables.{row_width, column, entries_in, stamped, lists_stamped, lists_end, strict_stamped, next_ranks}

-- ---- one list, from its last entry to its first
pub entries_none : (bs : List ℕ) → length bs ≤ 1 → entries_in bs ≡ []
unfolding entries_in
entries_none [] h = refl
entries_none (x ∷ []) h = refl
entries_none (x ∷ k ∷ bs) h = absurd (omega arith)

pub entries_cons : (bs : List ℕ) (i : ℕ) → i + 1 < length bs
    → entries_in (drop i bs) ≡ record { number = get_or bs i 0; shift = get_or bs (i + 1) 0 } ∷ entries_in (drop (i + 2) bs)
unfolding entries_in
entries_cons bs i h =
    let e : i + 1 ≡ suc i = omega arith in
    let g : i + 2 ≡ suc (suc i) = omega arith in
    let l : i < length bs = omega arith in
    let m : suc i < length bs = omega arith in
    simp (e, g, drop-cons bs i 0 l, drop-cons bs (suc i) 0 m)

pub stamped_none : (row : ℕ) (bs : List ℕ) (n k : ℕ) (t : List ℕ) → length bs ≤ entry_width * n + 1 → stamped row (entries_in (drop (entry_width * n) bs)) k t ≡ t
unfolding stamped
stamped_none row bs n k t h = rw (entries_none (drop (entry_width * n) bs) (omega (arith, length-drop (entry_width * n) bs)))

pub stamped_turn : (row : ℕ) (bs : List ℕ) (k : ℕ) (t : List ℕ) → 0 < k → entry_width * k ≤ length bs
    → set (stamped row (entries_in (drop (entry_width * k) bs)) (k + 1) t)
    (row + column (record { number = get_or bs (entry_width * (k - 1)) 0; shift = get_or bs (entry_width * (k - 1) + 1) 0 })) k
    ≡ stamped row (entries_in (drop (entry_width * (k - 1)) bs)) (k - 1 + 1) t
unfolding stamped
stamped_turn row bs zero t h l = absurd (omega arith)
stamped_turn row bs (suc k) t h l =
    let e : suc k - 1 ≡ k = omega arith in
    let f : k + 1 ≡ suc k = omega arith in
    let g : suc k + 1 ≡ suc (suc k) = omega arith in
    let d : entry_width * suc k ≡ entry_width * k + 2 = omega arith in
    simp (e, f, g, d, entries_cons bs (entry_width * k) (omega arith))

-- ---- the lists of all surveyors, of all stands
left_suc : (n i : ℕ) → i < n → n - i ≡ suc (n - (i + 1))
left_suc n i h = omega arith

left_none : (n i : ℕ) → n ≤ i → n - i ≡ 0
left_none n i h = omega arith

next_row : (i : ℕ) → i * row_width + row_width ≡ (i + 1) * row_width
next_row i = omega arith

module _ (f : List ℕ) (n i at : ℕ) where
  pub end_turn : i < n → (b : ℕ) → b ≡ get_or f at 0 → lists_end f (n - i) at ≡ lists_end f (n - (i + 1)) (at + (entry_width * b + 1))
  unfolding lists_end
  end_turn h b e = rw (e, left_suc n i h)

  pub end_done : n ≤ i → lists_end f (n - i) at ≡ at
  unfolding lists_end
  end_done h = rw (left_none n i h)

  pub lists_turn : i < n → (b : ℕ) → b ≡ get_or f at 0 → (xs : List ℕ) → xs ≡ take (entry_width * b) (drop (at + 1) f) → (t u : List ℕ)
      → u ≡ stamped (i * row_width) (entries_in xs) 1 t
      → lists_stamped f (n - i) (i * row_width) at t ≡ lists_stamped f (n - (i + 1)) ((i + 1) * row_width) (at + (entry_width * b + 1)) u
  unfolding lists_stamped
  lists_turn h b e xs x t u w = rw (w, x, e, left_suc n i h, ← next_row i)

  pub lists_done : n ≤ i → (t : List ℕ) → lists_stamped f (n - i) (i * row_width) at t ≡ t
  unfolding lists_stamped
  lists_done h t = rw (left_none n i h)

  pub strict_turn : i < n → (a b : ℕ) → a ≡ get_or f at 0 → b ≡ get_or f (at + 1) 0 → (xs : List ℕ) → xs ≡ take (entry_width * a) (drop (at + 2) f)
      → (t u : List ℕ) → u ≡ stamped (i * row_width) (entries_in xs) 1 t
      → strict_stamped f (n - i) (i * row_width) at t ≡ strict_stamped f (n - (i + 1)) ((i + 1) * row_width) (at + (entry_width * (a + b) + 2)) u
  unfolding strict_stamped
  strict_turn h a b e d xs x t u w = rw (w, x, e, d, left_suc n i h, ← next_row i)

  pub strict_done : n ≤ i → (t : List ℕ) → strict_stamped f (n - i) (i * row_width) at t ≡ t
  unfolding strict_stamped
  strict_done h t = rw (left_none n i h)

  pub next_turn : i < n → (a b : ℕ) → a ≡ get_or f at 0 → b ≡ get_or f (at + 1) 0 → (t : List ℕ)
      → next_ranks f (n - i) i at t ≡ next_ranks f (n - (i + 1)) (i + 1) (at + (entry_width * (a + b) + 2)) (set t i ((a + 1) % 256))
  unfolding next_ranks
  next_turn h a b e d t = rw (e, d, left_suc n i h, add-one i)

  pub next_done : n ≤ i → (t : List ℕ) → next_ranks f (n - i) i at t ≡ t
  unfolding next_ranks
  next_done h t = rw (left_none n i h)

pub left_all : (n : ℕ) → n ≡ n - 0
left_all n = omega arith

-- n bytes are at most k
pub short : (n k : ℕ) (xs ys : List ℕ) → xs ≡ take n ys → n ≤ k → length xs ≤ k
short n k xs ys e h = omega (arith, ap length e, length-take n ys)
