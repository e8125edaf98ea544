-- A roster on a grid: surveyor i, stand j and shift k + 1 share the cell i * (3 * w) + (3 * j + k), where a row has room for w stands, at
-- least as many as there are. Its edges are the cells whose pair is listed, row by row.
use Prim.Native.Nat.{ℕ, zero, suc, ◌+◌, ◌-◌, ◌*◌, ◌/◌, ◌%◌, ◌≤◌, ◌<◌}
use native.Mathlib.Omega.{arith}
use Rattle.std.specs.Prelude.{◌≡◌, refl, Bool, false, cond, ◌&&◌, ◌||◌, length, T, eqb, leb}
use Rattle.std.proofs.Common.{sym, ap₂, ◌∙◌}
use Rattle.std.proofs.Math.Path.{ap}
use mathlib.Core.List.{List, [], ◌∷◌, ◌++◌, map, append-nil, append_assoc}
use Rattle.lists.specs.Test.{given, and_l, and_r, eqb_no}
use Rattle.lists.specs.Sum.{range, ∈_range}
use Rattle.lists.specs.Keep.{keep, gather, All}
use Rattle.lists.specs.Ranges.{range_add, gather_append, gather_cong, gather_none, grid}
use Rattle.model.specs.Limits.{list_limit, shift_limit}
use Rattle.model.specs.Roster.{Entry, Roster, entries, surveyor_count, stand_count, list_s, list_t, has, entry_fits, listed, shifts, distinct, fits}
use Rattle.model.specs.Edges.{Edge, pair_edge, edges_of}
use Rattle.theory_files.specs.Entries.{in_range, in_range_law}
use Rattle.theory_files.specs.RosterInstance.{list_fits_law, entries_fit}

-- the entries of a list are from 1 to the other side's count, and their shifts from 1 to 3
abbrev pub Within : ℕ → List Entry → Type 0
Within k xs = All (λ x. (1 ≤ x.number) × (x.number ≤ k) × (1 ≤ x.shift) × (x.shift ≤ shift_limit)) xs

-- entries in range, said of any bound that is not below the other side's count
pub within : (count k : ℕ) → count ≤ k → (xs : List Entry) → T (in_range count xs) → Within k xs
within count k h [] t = tt
within count k h (x ∷ xs) t = given (in_range_law count x (and_l (entry_fits count x) (in_range count xs) t)) (λ (a, b, c, d).
    ((a, omega arith, c, d), within count k h xs (and_r (entry_fits count x) (in_range count xs) t)))

-- an entry above all of them is not among them
pub above_out : (k : ℕ) (y : Entry) → k < y.number → (xs : List Entry) → Within k xs → has y xs ≡ false
above_out k y h [] w = refl
above_out k y h (x ∷ xs) w = ap (λ b. b && eqb y.shift x.shift || has y xs)
    (eqb_no y.number x.number (λ (q : y.number ≡ x.number). omega (arith, w.0.1))) ∙ above_out k y h xs w.1

within_front : (k : ℕ) (xs ys : List Entry) → Within k (xs ++ ys) → Within k xs
within_front k [] ys w = tt
within_front k (x ∷ xs) ys w = (w.0, within_front k xs ys w.1)

-- ---- three cells a stand
triples : {A : Type 0} (f : ℕ → List A) (a n : ℕ)
    → gather f (range (3 * a) (3 * n)) ≡ gather (λ j. f (3 * j) ++ (f (suc (3 * j)) ++ (f (suc (suc (3 * j))) ++ []))) (range a n)
triples f a zero = ap (λ k. gather f (range (3 * a) k)) none
  where
    none : 3 * 0 ≡ 0
    none = omega arith
triples f a (suc n) =
    ap (λ k. gather f (range (3 * a) k)) (three n)
    ∙ ap (λ z. f (3 * a) ++ (f (suc (3 * a)) ++ (f (suc (suc (3 * a))) ++ z))) (ap (λ k. gather f (range k (3 * n))) (next a) ∙ triples f (suc a) n)
    ∙ sym (regroup (f (3 * a)) (f (suc (3 * a))) (f (suc (suc (3 * a))))
    (gather (λ j. f (3 * j) ++ (f (suc (3 * j)) ++ (f (suc (suc (3 * j))) ++ []))) (range (suc a) n)))
  where
    three : (n : ℕ) → 3 * suc n ≡ suc (suc (suc (3 * n)))
    three n = omega arith

    next : (a : ℕ) → suc (suc (suc (3 * a))) ≡ 3 * suc a
    next a = omega arith

    regroup : {A : Type 0} (x y z w : List A) → (x ++ (y ++ (z ++ []))) ++ w ≡ x ++ (y ++ (z ++ w))
    regroup x y z w = append_assoc x (y ++ (z ++ [])) w ∙ ap (λ u. x ++ u) (append_assoc y (z ++ []) w ∙ ap (λ u. y ++ u) (append_assoc z [] w))

module _ (r : Roster) (ok : T (fits r)) where
  -- a surveyor's entries, for any bound that is not below the number of stands
  pub list_within : (k i : ℕ) → stand_count r ≤ k → i < surveyor_count r → Within k (list_s r i)
  list_within k i h l = within (stand_count r) k h (list_s r i)
      (and_l (in_range (stand_count r) (list_s r i)) (distinct (list_s r i)) (and_r (leb (length (list_s r i)) list_limit) _ (list_fits_law r ok i l)))

  -- a stand's strict entries, for any bound that is not below the number of surveyors
  pub strict_within : (k j : ℕ) → surveyor_count r ≤ k → j < stand_count r → Within k (list_t r j).strict
  strict_within k j h l = within_front k (list_t r j).strict (list_t r j).tied
      (within (surveyor_count r) k h (entries (list_t r j))
      (and_l (in_range (surveyor_count r) (entries (list_t r j))) (distinct (entries (list_t r j)))
      (and_r (leb (length (entries (list_t r j))) list_limit) _ (entries_fit r ok j l))))

  -- a surveyor lists no stand behind the last
  pub listed_none : (i j k : ℕ) → i < surveyor_count r → stand_count r ≤ j → listed r i j k ≡ false
  unfolding listed
  listed_none i j k h l = above_out (stand_count r) (record { number = suc j; shift = k })
      (omega arith) (list_s r i) (list_within (stand_count r) i (omega arith) h)

  -- ---- the edges are the listed cells
  abbrev one : ℕ → ℕ → ℕ → List Edge
  one i j k = cond (listed r i j k) (pair_edge r i j k ∷ []) []

  abbrev stand : ℕ → ℕ → List Edge
  stand i j = gather (one i j) shifts

  -- the stand and the shift of a cell
  abbrev pub column_stand : ℕ → ℕ
  column_stand c = c / 3

  abbrev pub column_shift : ℕ → ℕ
  column_shift c = suc (c % 3)

  row : (w i : ℕ) → stand_count r ≤ w → i < surveyor_count r
      → gather (λ c. one i (column_stand c) (column_shift c)) (range 0 (3 * w)) ≡ gather (stand i) (range 0 (stand_count r))
  row w i h l =
      let nt = stand_count r in
      triples (λ c. one i (column_stand c) (column_shift c)) 0 w
      ∙ gather_cong (λ j. at (3 * j) ++ (at (suc (3 * j)) ++ (at (suc (suc (3 * j))) ++ []))) (stand i) (range 0 w)
      (λ j m. ap₂ (λ x y. x ++ y) (cell (3 * j) j 1 (omega arith) (omega arith))
      (ap₂ (λ x y. x ++ (y ++ [])) (cell (suc (3 * j)) j 2 (omega arith) (omega arith)) (cell (suc (suc (3 * j))) j 3 (omega arith) (omega arith))))
      ∙ ap (λ z. gather (stand i) (range 0 z)) (split w nt h)
      ∙ ap (gather (stand i)) (range_add 0 nt (w - nt))
      ∙ gather_append (stand i) (range 0 nt) (range (0 + nt) (w - nt))
      ∙ ap (λ z. gather (stand i) (range 0 nt) ++ z)
      (gather_none (stand i) (range (0 + nt) (w - nt)) (λ j m. given (∈_range (w - nt) (0 + nt) m).0 (λ k. none j (omega arith))))
      ∙ append-nil (gather (stand i) (range 0 nt))
    where
      at : ℕ → List Edge
      at c = one i (column_stand c) (column_shift c)

      cell : (c j k : ℕ) → c / 3 ≡ j → suc (c % 3) ≡ k → at c ≡ one i j k
      cell c j k d e = ap₂ (one i) d e

      split : (w n : ℕ) → n ≤ w → w ≡ n + (w - n)
      split w n h = omega arith

      none : (j : ℕ) → stand_count r ≤ j → stand i j ≡ []
      none j k = gather_none (one i j) shifts (λ s m. ap (λ b. cond b (pair_edge r i j s ∷ []) []) (listed_none i j s l k))

  -- q tells of each cell whether its pair is listed, g gives the edge of a listed pair:
  -- then what g gives of the cells that pass, in their order, are the roster's edges
  pub edges_cells : (w : ℕ) → stand_count r ≤ w → (q : ℕ → Bool) (g : ℕ → Edge)
      → ((i j k : ℕ) → i < surveyor_count r → j < w → k < shift_limit
      → (q (i * (3 * w) + (3 * j + k)) ≡ listed r i j (suc k)) × (T (listed r i j (suc k)) → g (i * (3 * w) + (3 * j + k)) ≡ pair_edge r i j (suc k)))
      → map g (keep q (range 0 (surveyor_count r * (3 * w)))) ≡ edges_of r
  unfolding edges_of
  edges_cells w h q g f =
      let ns = surveyor_count r in
      ap (λ z. map g (keep q (range z (ns * (3 * w))))) (none (3 * w))
      ∙ grid q g (λ i c. listed r i (column_stand c) (column_shift c)) (λ i c. pair_edge r i (column_stand c) (column_shift c)) (3 * w) 0 ns
      (λ i c a b d. given (f i (c / 3) (c % 3) (omega arith) (omega arith) (omega arith)) (λ (x, y).
      (ap (λ z. q (i * (3 * w) + z)) (parts c) ∙ x, λ t. ap (λ z. g (i * (3 * w) + z)) (parts c) ∙ y t)))
      ∙ gather_cong (λ i. gather (λ c. one i (column_stand c) (column_shift c)) (range 0 (3 * w)))
      (λ i. gather (stand i) (range 0 (stand_count r))) (range 0 ns) (λ i m. row w i h (given (∈_range ns 0 m).1 (λ k. omega arith)))
    where
      none : (w : ℕ) → 0 ≡ 0 * w
      none w = omega arith

      parts : (c : ℕ) → c ≡ 3 * (c / 3) + c % 3
      parts c = omega arith
