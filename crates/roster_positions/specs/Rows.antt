-- What the tables hold, entry by entry: the position of each entry of each list, 0 where it is not listed; and what the loops over a
-- file's bytes write, by the lists that the bytes are.
use Rattle.std.specs.Prelude.{ℕ, zero, suc, ◌+◌, ◌*◌, ◌/◌, ◌%◌, ◌≤◌, ◌<◌, ◌≡◌, refl, ◌≢◌, cond, ◌||◌, List, [], ◌∷◌, ◌++◌, map, length, drop, get_or, set}
use Rattle.std.proofs.Common.{arith, add-zero, sym, ap, ap₂, ◌∙◌, append_assoc, length-set, get_or-set_same, get_or-set_other, T_not}
use Rattle.lists.specs.Test.{given, by_bool, true_t, false_t}
use Rattle.lists.specs.Keep.{gather, All}
use Rattle.lists.specs.Ranges.{gather_append}
use Rattle.model.specs.Limits.{entry_width}
use Rattle.model.specs.Roster.{Entry, Ranking, entries, same, has}
use Rattle.model.specs.RosterFile.{shifted, entries_bytes, ranking_bytes}
use Rattle.model.specs.Edges.{position}
use Rattle.theory_files.specs.Position.{same→eq, eq→same}
use Rattle.theory_files.specs.Cells.{Within}
use Rattle.theory_files.specs.Offsets.{head_is, tail_is, part_is, rest_is}
use Rattle.roster_positions.specs.Tables.{row_width, column, entry_of, entries_in, entry_bytes, stamped, list_at, behind_list, lists_stamped, lists_end}
use Rattle.roster_positions.specs.Tables.{strict_at, tied_at, behind, strict_stamped, next_ranks}

-- ---- one list
pub stamped_length : (row : ℕ) (xs : List Entry) (k : ℕ) (t : List ℕ) → length (stamped row xs k t) ≡ length t
unfolding stamped
stamped_length row [] k t = refl
stamped_length row (x ∷ xs) k t = length-set (stamped row xs (suc k) t) (row + column x) k ∙ stamped_length row xs (suc k) t

column_is : (c : ℕ) → c < row_width → column (entry_of c) ≡ c
column_is c h = omega arith

-- a place belongs to one entry
entry_is : (x : Entry) → 1 ≤ x.number → x.number ≤ 32 → 1 ≤ x.shift → x.shift ≤ 3 → entry_of (column x) ≡ x
entry_is x a b c d =
    let n : suc (column x / 3) ≡ x.number = omega arith in
    let k : suc (column x % 3) ≡ x.shift = omega arith in
    λ i. record { number = n i; shift = k i }

column_not : (x : Entry) (c : ℕ) → entry_of (column x) ≡ x → entry_of c ≢ x → (row : ℕ) → row + c ≢ row + column x
column_not x c e n row q = let d : c ≡ column x = omega (arith, q) in n (ap entry_of d ∙ e)

-- the positions counted from k + 1
pub stamped_at : (row : ℕ) (xs : List Entry) (k : ℕ) (t : List ℕ) (c : ℕ) → row + 95 < length t → c < row_width → Within 32 xs
    → get_or (stamped row xs (suc k) t) (row + c) 0 ≡ cond (has (entry_of c) xs) (k + position (entry_of c) xs) (get_or t (row + c) 0)
unfolding stamped position
stamped_at row [] k t c l h w = refl
stamped_at row (x ∷ xs) k t c l h w = by_bool (same y x)
    (λ b. ap (λ z. get_or (set s (row + z) (suc k)) (row + c) 0) (ap column (sym (same→eq y x (true_t b))) ∙ column_is c h)
    ∙ get_or-set_same s (row + c) (suc k) 0 (omega (arith, stamped_length row xs (suc (suc k)) t))
    ∙ one k ∙ ap (λ z. cond (z || has y xs) (k + cond z 1 (suc (position y xs))) (get_or t (row + c) 0)) (sym b))
    (λ b. get_or-set_other s (row + column x) (row + c) (suc k) 0
    (column_not x c (entry_is x w.0.0 w.0.1 w.0.2 w.0.3) (λ q. T_not (same y x) (false_t b) (eq→same y x q)) row)
    ∙ stamped_at row xs (suc k) t c l h w.1
    ∙ ap (λ z. cond (has y xs) z (get_or t (row + c) 0)) (move k (position y xs))
    ∙ ap (λ z. cond (z || has y xs) (k + cond z 1 (suc (position y xs))) (get_or t (row + c) 0)) (sym b))
  where
    y : Entry
    y = entry_of c

    s : List ℕ
    s = stamped row xs (suc (suc k)) t

    one : (k : ℕ) → suc k ≡ k + 1
    one k = omega arith

    move : (k p : ℕ) → suc k + p ≡ k + suc p
    move k p = omega arith

-- other rows keep their numbers
pub stamped_else : (row : ℕ) (xs : List Entry) (k : ℕ) (t : List ℕ) (c : ℕ) → ((y : ℕ) → y < row_width → c ≢ row + y)
    → get_or (stamped row xs k t) c 0 ≡ get_or t c 0
unfolding stamped
stamped_else row [] k t c h = refl
stamped_else row (x ∷ xs) k t c h =
    get_or-set_other (stamped row xs (suc k) t) (row + column x) c k 0 (h (column x) (omega arith)) ∙ stamped_else row xs (suc k) t c h

-- ---- list after list, row after row
-- the positions of each list's entries, put into the list's row of the table
unfoldable pub all_stamped : ℕ → List (List Entry) → List ℕ → List ℕ
all_stamped row [] t = t
all_stamped row (xs ∷ ls) t = all_stamped (row + row_width) ls (stamped row xs 1 t)

-- an entry's position in a list, 0 where it is not listed
abbrev pub position_in : List Entry → Entry → ℕ
position_in xs y = cond (has y xs) (position y xs) 0

before_rows : (ls : List (List Entry)) (row : ℕ) (t : List ℕ) (c : ℕ) → c < row → get_or (all_stamped row ls t) c 0 ≡ get_or t c 0
unfolding all_stamped
before_rows [] row t c h = refl
before_rows (xs ∷ ls) row t c h =
    before_rows ls (row + row_width) (stamped row xs 1 t) c (omega arith) ∙ stamped_else row xs 1 t c (λ y l. λ (q : c ≡ row + y). omega arith)

-- in a table that was 0 from the first row on, each row has the positions of its list's entries, and 0 elsewhere
pub all_at : (ls : List (List Entry)) (row : ℕ) (t : List ℕ) → row + length ls * row_width ≤ length t → All (Within 32) ls
    → ((c : ℕ) → row ≤ c → get_or t c 0 ≡ 0)
    → (i c : ℕ) → c < row_width → get_or (all_stamped row ls t) (row + i * row_width + c) 0 ≡ position_in (get_or ls i []) (entry_of c)
unfolding all_stamped
all_at [] row t l w z i c h = z (row + i * row_width + c) (omega arith)
all_at (xs ∷ ls) row t l w z zero c h =
    ap (λ d. get_or (all_stamped (row + row_width) ls (stamped row xs 1 t)) d 0) (here row c)
    ∙ before_rows ls (row + row_width) (stamped row xs 1 t) (row + c) (omega arith)
    ∙ stamped_at row xs 0 t c (omega arith) h w.0
    ∙ ap₂ (λ a b. cond (has (entry_of c) xs) a b) (none (position (entry_of c) xs)) (z (row + c) (omega arith))
  where
    here : (row c : ℕ) → row + 0 * row_width + c ≡ row + c
    here row c = omega arith

    none : (p : ℕ) → 0 + p ≡ p
    none p = omega arith
all_at (xs ∷ ls) row t l w z (suc i) c h =
    ap (λ d. get_or (all_stamped (row + row_width) ls (stamped row xs 1 t)) d 0) (down row i c)
    ∙ all_at ls (row + row_width) (stamped row xs 1 t) (omega (arith, stamped_length row xs 1 t)) w.1
    (λ d k. stamped_else row xs 1 t d (λ y m. λ (q : d ≡ row + y). omega arith) ∙ z d (omega arith)) i c h
  where
    down : (row i c : ℕ) → row + suc i * row_width + c ≡ row + row_width + i * row_width + c
    down row i c = omega arith

-- ---- from the bytes: the entries of a part
-- the bytes of some entries, number and shift of each
abbrev pub bytes_of : List Entry → List ℕ
bytes_of xs = gather shifted.bytes xs

-- the bytes of some entries: two for each
pub bytes_length : (xs : List Entry) → length (bytes_of xs) ≡ entry_width * length xs
bytes_length [] = refl
bytes_length (x ∷ xs) = omega (arith, bytes_length xs)

-- the entries that their bytes are
pub entries_are : (xs : List Entry) → entries_in (bytes_of xs) ≡ xs
unfolding entries_in
entries_are [] = refl
entries_are (x ∷ xs) = ap (λ z. x ∷ z) (entries_are xs)

-- n entries at a place, and what follows them
module _ (f : List ℕ) (at n : ℕ) (xs : List Entry) (more : List ℕ) (e : drop at f ≡ bytes_of xs ++ more) (l : n ≡ length xs) where
  size : length (bytes_of xs) ≡ entry_width * n
  size = bytes_length xs ∙ ap (λ k. entry_width * k) (sym l)

  -- so many entries' bytes from the place on
  pub bytes_part : entry_bytes f at n ≡ bytes_of xs
  bytes_part = part_is f at (entry_width * n) (bytes_of xs) more e size

  -- what stands behind them
  pub bytes_rest : drop (at + entry_width * n) f ≡ more
  bytes_rest = rest_is f at (entry_width * n) (bytes_of xs) more e size

-- what was stamped by a part's bytes was by its entries
stamped_part : (row : ℕ) (bs : List ℕ) (xs : List Entry) (t : List ℕ) → bs ≡ bytes_of xs → stamped row (entries_in bs) 1 t ≡ stamped row xs 1 t
stamped_part row bs xs t e = ap (λ z. stamped row z 1 t) (ap entries_in e ∙ entries_are xs)

-- ---- the surveyors' lists
-- the loop over the bytes of surveyors' lists writes their entries' positions, and ends behind them
pub lists_are : (ls : List (List Entry)) (f : List ℕ) (at : ℕ) (post : List ℕ) → drop at f ≡ gather (entries_bytes shifted) ls ++ post
    → (row : ℕ) (t : List ℕ)
    → (lists_stamped f (length ls) row at t ≡ all_stamped row ls t) × (drop (lists_end f (length ls) at) f ≡ post)
unfolding lists_stamped lists_end all_stamped
lists_are [] f at post e row t = (refl, e)
lists_are (xs ∷ ls) f at post e row t =
    let rest = gather (entries_bytes shifted) ls in
    let n = get_or f at 0 in
    given (head_is f at (length xs) ((bytes_of xs ++ rest) ++ post) e) (λ h.
    given (tail_is f at (length xs) ((bytes_of xs ++ rest) ++ post) e ∙ append_assoc (bytes_of xs) rest post) (λ d.
    given (ap (λ k. drop k f) (move at n) ∙ bytes_rest f (at + 1) n xs (rest ++ post) d h) (λ y.
    given (lists_are ls f (behind_list f at) post y (row + row_width) (stamped row (entries_in (list_at f at)) 1 t)) (λ (u, v).
    (u ∙ ap (all_stamped (row + row_width) ls) (stamped_part row (list_at f at) xs t (bytes_part f (at + 1) n xs (rest ++ post) d h)), v)))))
  where
    move : (at b : ℕ) → at + (entry_width * b + 1) ≡ at + 1 + entry_width * b
    move at b = omega arith

-- ---- the stands' lists
-- the strict parts of some stands' lists
abbrev pub strict_lists : List Ranking → List (List Entry)
strict_lists ts = map (λ R. R.strict) ts

-- the ranks behind the strict parts, written from place j on
unfoldable pub next_all : ℕ → List Ranking → List ℕ → List ℕ
next_all j [] t = t
next_all j (R ∷ ts) t = next_all (suc j) ts (set t j ((length R.strict + 1) % 256))

-- a stand's list at its place, and what follows it
pub record RankingIs (f : List ℕ) (at : ℕ) (R : Ranking) (more : List ℕ) : Type 0 where
  pub count : get_or f at 0 ≡ length R.strict
  pub tie_count : get_or f (at + 1) 0 ≡ length R.tied
  pub strict : strict_at f at ≡ bytes_of R.strict
  pub tied : tied_at f at ≡ bytes_of R.tied
  pub rest : drop (behind f at) f ≡ more

-- where a stand's list stands at a place: its lengths, the bytes of its two parts, and what follows it
pub ranking_is : (f : List ℕ) (at : ℕ) (R : Ranking) (more : List ℕ) → drop at f ≡ ranking_bytes shifted R ++ more → RankingIs f at R more
ranking_is f at R more e =
    let a = get_or f at 0 in
    let b = get_or f (at + 1) 0 in
    given (head_is f at (length R.strict) (length R.tied ∷ (bytes_of (entries R) ++ more)) e) (λ h.
    given (tail_is f at (length R.strict) (length R.tied ∷ (bytes_of (entries R) ++ more)) e) (λ d.
    given (head_is f (at + 1) (length R.tied) (bytes_of (entries R) ++ more) d) (λ g.
    given (ap (λ k. drop k f) (two at) ∙ tail_is f (at + 1) (length R.tied) (bytes_of (entries R) ++ more) d
    ∙ ap (λ z. z ++ more) (gather_append shifted.bytes R.strict R.tied)
    ∙ append_assoc (bytes_of R.strict) (bytes_of R.tied) more) (λ d₂.
    given (bytes_rest f (at + 2) a R.strict (bytes_of R.tied ++ more) d₂ h) (λ d₃.
    record {
      count = h;
      tie_count = g;
      strict = bytes_part f (at + 2) a R.strict (bytes_of R.tied ++ more) d₂ h;
      tied = bytes_part f (at + 2 + entry_width * a) b R.tied more d₃ g;
      rest = ap (λ k. drop k f) (move at a b) ∙ bytes_rest f (at + 2 + entry_width * a) b R.tied more d₃ g;
    })))))
  where
    two : (at : ℕ) → at + 2 ≡ at + 1 + 1
    two at = omega arith

    move : (at a b : ℕ) → at + (entry_width * (a + b) + 2) ≡ at + 2 + entry_width * a + entry_width * b
    move at a b = omega arith

-- the loops over the bytes of stands' lists write the positions in the strict parts, and the rank behind each of these
pub rankings_are : (ts : List Ranking) (f : List ℕ) (at : ℕ) (post : List ℕ) → drop at f ≡ gather (ranking_bytes shifted) ts ++ post
    → (row j : ℕ) (t u : List ℕ)
    → (strict_stamped f (length ts) row at t ≡ all_stamped row (strict_lists ts) t) × (next_ranks f (length ts) j at u ≡ next_all j ts u)
unfolding strict_stamped next_ranks all_stamped next_all
rankings_are [] f at post e row j t u = (refl, refl)
rankings_are (R ∷ ts) f at post e row j t u =
    let rest = gather (ranking_bytes shifted) ts in
    given (ranking_is f at R (rest ++ post) (e ∙ append_assoc (ranking_bytes shifted R) rest post)) (λ q.
    given
    (rankings_are ts f (behind f at) post q.rest (row + row_width) (suc j) (stamped row (entries_in (strict_at f at)) 1 t)
    (set u j ((get_or f at 0 + 1) % 256)))
    (λ (x, y). (
      x ∙ ap (all_stamped (row + row_width) (strict_lists ts)) (stamped_part row (strict_at f at) R.strict t q.strict),
      y ∙ ap (λ k. next_all (suc j) ts (set u j ((k + 1) % 256))) q.count,
    )))

-- ---- the ranks behind the strict parts, one by one
next_before : (ts : List Ranking) (j : ℕ) (t : List ℕ) (c : ℕ) → c < j → get_or (next_all j ts t) c 0 ≡ get_or t c 0
unfolding next_all
next_before [] j t c h = refl
next_before (R ∷ ts) j t c h =
    next_before ts (suc j) (set t j ((length R.strict + 1) % 256)) c (omega arith)
    ∙ get_or-set_other t j c ((length R.strict + 1) % 256) 0 (λ (q : c ≡ j). omega arith)

-- the rank behind the strict part of each stand's list, as a byte
pub next_at_law : (ts : List Ranking) (j : ℕ) (t : List ℕ) → j + length ts ≤ length t → (i : ℕ) → i < length ts
    → get_or (next_all j ts t) (j + i) 0 ≡ (length (get_or ts i (record { strict = []; tied = [] })).strict + 1) % 256
unfolding next_all
next_at_law [] j t l i h = absurd (omega arith)
next_at_law (R ∷ ts) j t l zero h =
    ap (λ c. get_or (next_all (suc j) ts (set t j ((length R.strict + 1) % 256))) c 0) (add-zero j)
    ∙ next_before ts (suc j) (set t j ((length R.strict + 1) % 256)) j (omega arith)
    ∙ get_or-set_same t j ((length R.strict + 1) % 256) 0 (omega arith)
next_at_law (R ∷ ts) j t l (suc i) h =
    ap (λ c. get_or (next_all (suc j) ts (set t j ((length R.strict + 1) % 256))) c 0) (move j i)
    ∙ next_at_law ts (suc j) (set t j ((length R.strict + 1) % 256)) (omega (arith, length-set t j ((length R.strict + 1) % 256))) i (omega arith)
  where
    move : (j i : ℕ) → j + suc i ≡ suc j + i
    move j i = omega arith
