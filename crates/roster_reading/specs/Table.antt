-- A row of marks for each list of a side, one behind the other: what has been read and marked after some of the lists, and what is
-- read and marked after all.
use Rattle.std.specs.Prelude.{ℕ, ◌+◌, ◌*◌, ◌-◌, ◌≤◌, ◌<◌, ◌≡◌, Bool, false, List, [], ◌∷◌, ◌++◌, length, take, drop, get_or, replicate}
use Rattle.std.proofs.Common.{arith, sym, ap, ◌∙◌, length-append, length-take, length-drop, get_or-take, get_or-drop, get_or-append-add, length-take-le}
use Rattle.std.proofs.Math.Decide.{dec_lt}
use Rattle.std.proofs.Math.Logic.{by_cases}
use Rattle.std.proofs.lemmas.List.{length-replicate, get_or-replicate, get_or_at}
use Rattle.std.proofs.Math.ListN.{get_or-append, get_or-eq_default}
use Rattle.model.specs.Roster.{Entry, Ranking, entries, has}
use Rattle.roster_reading.specs.Slot.{row_width, at_slot}
use Rattle.roster_reading.specs.Row.{Shows}

-- the row of a list, as the code takes it, `table[k * ROW..k * ROW + ROW]`, and the table with the row put back
abbrev span : ℕ → ℕ
span k = k * row_width + row_width - k * row_width

span_is : (k : ℕ) → span k ≡ row_width
span_is k = omega arith

-- the row of list k in the table
abbrev pub row_of : List Bool → ℕ → List Bool
row_of table k = take (span k) (drop (k * row_width) table)

abbrev pub with_row : List Bool → ℕ → List Bool → List Bool
with_row table k row = take (k * row_width) table ++ (row ++ drop (span k) (drop (k * row_width) table))

-- a row that lies inside the table has a place for each entry
pub row_wide : (table : List Bool) (k : ℕ) → k * row_width + row_width ≤ length table → length (row_of table k) ≡ row_width
row_wide table k h = simp (length-take, length-drop) (omega arith)

module _ {A : Type 0} (entries : A → List Entry) (none : A) where
  -- the rows show the lists; behind them no mark is set
  abbrev pub Shown : List Bool → List A → Type 0
  Shown table ls = (i k : ℕ) → k < row_width → get_or table (i * row_width + k) false ≡ has (at_slot k) (entries (get_or ls i none))

  module _ (empty : entries none ≡ []) where
    -- no mark is set
    pub table_clear : (n : ℕ) → Shown (replicate n false) []
    table_clear n i k b =
        by_cases (dec_lt (i * row_width + k) n) (λ h. get_or-replicate n (i * row_width + k) false false h)
        (λ h. get_or-eq_default (replicate n false) false (simp length-replicate (omega (arith, h))))
        ∙ sym (ap (has (at_slot k)) empty)

    -- in the row behind the n lists that are shown no mark is set
    pub row_clear : (table : List Bool) (ls : List A) (n : ℕ) → Shown table ls → length ls ≡ n → Shows (row_of table n) []
    row_clear table ls n h l k = rw span_is (by_cases (dec_lt k row_width)
        (λ s. get_or-take row_width (drop (n * row_width) table) k false s ∙ get_or-drop (n * row_width) table k false ∙ h n k s
        ∙ ap (λ x. has (at_slot k) (entries x)) (get_or-eq_default ls none (omega arith)) ∙ ap (has (at_slot k)) empty)
        (λ s. get_or-eq_default (take row_width (drop (n * row_width) table)) false (simp length-take (omega (arith, s)))))

    pub row_more : (table row : List Bool) (ls : List A) (x : A) (n : ℕ) → Shown table ls → length ls ≡ n → n * row_width + row_width ≤ length table
        → length row ≡ row_width
        → Shows row (entries x) → Shown (with_row table n row) (ls ++ x ∷ [])
    row_more table row ls x n h l room w s i k b = by_cases (dec_lt i n) before (λ p. by_cases (dec_lt n i) (after p) (λ q. here p q))
      where
        low : length (take (n * row_width) table) ≡ n * row_width
        low = length-take-le (n * row_width) table (omega arith)

        before : i < n → get_or (with_row table n row) (i * row_width + k) false ≡ has (at_slot k) (entries (get_or (ls ++ x ∷ []) i none))
        before p = get_or-append (take (n * row_width) table) (row ++ drop (span n) (drop (n * row_width) table)) false (i * row_width + k) (omega (arith, low))
            ∙ get_or-take (n * row_width) table (i * row_width + k) false (omega arith) ∙ h i k b
            ∙ ap (λ y. has (at_slot k) (entries y)) (sym (get_or-append ls (x ∷ []) none i (omega arith)))

        -- behind the rows before it
        rest : (j : ℕ) → get_or (with_row table n row) (n * row_width + j) false ≡ get_or (row ++ drop (span n) (drop (n * row_width) table)) j false
        rest j =
            ap (λ m. get_or (with_row table n row) (m + j) false) (sym low)
            ∙ get_or-append-add (take (n * row_width) table) (row ++ drop (span n) (drop (n * row_width) table)) j false

        here : (i < n → ⊥) → (n < i → ⊥) → get_or (with_row table n row) (i * row_width + k) false ≡ has (at_slot k) (entries (get_or (ls ++ x ∷ []) i none))
        here p q =
            let e : i ≡ n = omega (arith, p, q) in
            ap (λ m. get_or (with_row table n row) (m * row_width + k) false) e ∙ rest k
            ∙ get_or-append row (drop (span n) (drop (n * row_width) table)) false k (omega arith) ∙ s k
            ∙ ap (λ y. has (at_slot k) (entries y)) (sym (ap (λ m. get_or (ls ++ x ∷ []) m none) e ∙ get_or_at ls x [] none n l))

        after : (i < n → ⊥) → n < i → get_or (with_row table n row) (i * row_width + k) false ≡ has (at_slot k) (entries (get_or (ls ++ x ∷ []) i none))
        after p q =
            let e : i * row_width + k ≡ n * row_width + (length row + ((i - n - 1) * row_width + k)) = omega arith in
            let d : n * row_width + (span n + ((i - n - 1) * row_width + k)) ≡ i * row_width + k = omega arith in
            ap (λ m. get_or (with_row table n row) m false) e ∙ rest (length row + ((i - n - 1) * row_width + k))
            ∙ get_or-append-add row (drop (span n) (drop (n * row_width) table)) ((i - n - 1) * row_width + k) false
            ∙ get_or-drop (span n) (drop (n * row_width) table) ((i - n - 1) * row_width + k) false
            ∙ get_or-drop (n * row_width) table (span n + ((i - n - 1) * row_width + k)) false
            ∙ ap (λ m. get_or table m false) d ∙ h i k b
            ∙ ap (λ y. has (at_slot k) (entries y))
            (get_or-eq_default ls none (omega arith) ∙ sym (get_or-eq_default (ls ++ x ∷ []) none (simp length-append (omega arith))))

-- the rows of the surveyors' lists, and of the stands'
abbrev pub ListsShown : List Bool → List (List Entry) → Type 0
ListsShown = Shown (λ xs. xs) []

-- a stand's list without entries: what stands for a list that is not there
abbrev pub no_ranking : Ranking
no_ranking = record { strict = []; tied = [] }

-- the rows show the stands' lists, strict and tied entries alike
abbrev pub RankingsShown : List Bool → List Ranking → Type 0
RankingsShown = Shown entries no_ranking
