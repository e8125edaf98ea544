-- "a pair .. stands in both lists or in neither", by the marks of both sides' lists: a pair is a surveyor, a stand and a shift.
use Prim.Native.Nat.{ℕ, suc, ◌+◌, ◌*◌, ◌-◌, ◌≤◌, ◌<◌}
use native.Mathlib.Omega.{arith}
use Rattle.std.specs.Prelude.{◌≡◌, refl, true, false, List, get_or}
use Rattle.std.proofs.Math.Path.{sym, ap, ap₂}
use Rattle.std.proofs.Common.{◌∙◌}
use Rattle.std.proofs.Math.Bool.{Bool, ◌&&◌, and-true}
use Rattle.std.specs.Bool.{beq}
use Rattle.lists.specs.Sum.{up_to, up_to_<}
use Rattle.lists.specs.Keep.{all?, all_cong}
use Rattle.model.specs.Limits.{node_limit, shift_limit}
use Rattle.model.specs.Roster.{Roster, surveyor_count, stand_count, list_s, list_t, entries, has, listed, listed_back, shifts, alike, both_or_neither}
use Rattle.roster_reading.specs.Slot.{row_width, slot_at}
use Rattle.roster_reading.specs.Table.{ListsShown, RankingsShown}

-- the code's comparison of two marks
pub same_alike : (x y : Bool) → beq x y ≡ alike x y
same_alike true true = refl
same_alike true false = refl
same_alike false true = refl
same_alike false false = refl

module _ (byS byT : List Bool) where
  -- the marks at two places, of a surveyor's row and of a stand's, are the same, and so are those at the next two
  abbrev pub three_alike : ℕ → ℕ → Bool
  three_alike a b =
      alike (get_or byS a false) (get_or byT b false)
      && (alike (get_or byS (a + 1) false) (get_or byT (b + 1) false) && alike (get_or byS (a + 2) false) (get_or byT (b + 2) false))

  -- surveyor i and stand j, from 0 on: the pairs in all shifts stand side by side, in the surveyor's row and in the stand's
  abbrev pub pairs_alike : ℕ → ℕ → Bool
  pairs_alike i j = three_alike (i * row_width + shift_limit * j) (j * row_width + shift_limit * i)

  -- surveyor i and the first n stands
  unfoldable pub row_alike : (i n : ℕ) → Bool
  row_alike i n = all? (pairs_alike i) (up_to n)

  -- the marks of both sides are the same for every pair of m surveyors and n stands, in every shift
  unfoldable pub both_alike : ℕ → ℕ → Bool
  both_alike m n = all? (λ i. row_alike i n) (up_to m)

  row_step : (i n : ℕ) → 0 < n → row_alike i n ≡ pairs_alike i (n - 1) && row_alike i (n - 1)
  unfolding row_alike
  row_step i n h = let e : n ≡ suc (n - 1) = omega arith in ap (λ k. all? (pairs_alike i) (up_to k)) e

  -- from the last stand on: where its pairs are not alike, the row is not
  pub row_unlike : (i n : ℕ) → 0 < n → pairs_alike i (n - 1) ≡ false → row_alike i n ≡ false
  row_unlike i n h d = row_step i n h ∙ ap (λ b. b && row_alike i (n - 1)) d

  -- where they are, the stands before it decide
  pub row_like : (i n : ℕ) → 0 < n → pairs_alike i (n - 1) ≡ true → row_alike i n ≡ row_alike i (n - 1)
  row_like i n h d = row_step i n h ∙ ap (λ b. b && row_alike i (n - 1)) d

  -- with no stand left the row is alike
  pub row_end : (i n : ℕ) → n ≤ 0 → row_alike i n ≡ true
  unfolding row_alike
  row_end i n h = let e : n ≡ 0 = omega arith in ap (λ k. all? (pairs_alike i) (up_to k)) e

  both_step : (m n : ℕ) → 0 < m → both_alike m n ≡ row_alike (m - 1) n && both_alike (m - 1) n
  unfolding both_alike
  both_step m n h = let e : m ≡ suc (m - 1) = omega arith in ap (λ k. all? (λ i. row_alike i n) (up_to k)) e

  -- from the last surveyor on: where that row is not alike, the marks of both sides are not
  pub both_unlike : (m n : ℕ) → 0 < m → row_alike (m - 1) n ≡ false → both_alike m n ≡ false
  both_unlike m n h d = both_step m n h ∙ ap (λ b. b && both_alike (m - 1) n) d

  -- where the last row is alike, those before it decide
  pub both_like : (m n : ℕ) → 0 < m → row_alike (m - 1) n ≡ true → both_alike m n ≡ both_alike (m - 1) n
  both_like m n h d = both_step m n h ∙ ap (λ b. b && both_alike (m - 1) n) d

  -- with no row left the marks are alike
  pub both_end : (m n : ℕ) → m ≤ 0 → both_alike m n ≡ true
  unfolding both_alike
  both_end m n h = let e : m ≡ 0 = omega arith in ap (λ k. all? (λ i. row_alike i n) (up_to k)) e

  pub both_alike_law : (R : Roster) (m n : ℕ) → surveyor_count R ≡ m → stand_count R ≡ n → m ≤ node_limit → n ≤ node_limit → ListsShown byS R.lists_s
      → RankingsShown byT R.lists_t → both_alike m n ≡ both_or_neither R
  unfolding both_alike row_alike both_or_neither listed listed_back
  both_alike_law R m n a b p q s t = simp (a, b)
      (all_cong (λ i. row_alike i n) (λ i. all? (λ j. all? (alike_in i j) shifts) (up_to n)) (up_to m)
      (λ i l. all_cong (pairs_alike i) (λ j. all? (alike_in i j) shifts) (up_to n) (λ j r.
      let u = up_to_< m l in
      let w = up_to_< n r in
      ap₂ ◌&&◌ (one i j 0 u w (omega arith) (omega arith) (omega arith))
      (ap₂ ◌&&◌ (one i j 1 u w (omega arith) (omega arith) (omega arith))
      (one i j 2 u w (omega arith) (omega arith) (omega arith) ∙ sym (and-true (alike_in i j 3)))))))
    where
      alike_in : ℕ → ℕ → ℕ → Bool
      alike_in i j k = alike (listed R i j k) (listed_back R i j k)

      -- the pair in shift k + 1
      one : (i j k : ℕ) → i < m → j < n → k < shift_limit → {x y : ℕ} → x ≡ i * row_width + (shift_limit * j + k) → y ≡ j * row_width + (shift_limit * i + k)
          → alike (get_or byS x false) (get_or byT y false) ≡ alike_in i j (suc k)
      one i j k u w v d e = ap₂ alike
          (ap (λ z. get_or byS z false) d ∙ s i (shift_limit * j + k) (omega arith) ∙ ap (λ x. has x (list_s R i)) (slot_at j k v))
          (ap (λ z. get_or byT z false) e ∙ t j (shift_limit * i + k) (omega arith) ∙ ap (λ x. has x (entries (list_t R j))) (slot_at i k v))
