-- What the code writes of lists whose numbers it takes from a table, by the places of the file, one turn of each loop, and that these bytes are
-- those of the model's lists under other numbers.
use Prim.Native.Nat.{ℕ, zero, suc, ◌+◌, ◌-◌, ◌*◌, ◌/◌, ◌≤◌, ◌<◌}
use native.Mathlib.Omega.{arith}
use Rattle.std.specs.Prelude.{◌≡◌, take}
use Rattle.std.proofs.Math.Path.{refl, sym, ap, ap₂}
use Rattle.std.proofs.Common.{◌∙◌, length-drop, length-append}
use mathlib.Core.List.{List, [], ◌∷◌, ◌++◌, map, append_assoc, map-append}
use Rattle.std.proofs.Math.ListN.{length, drop, get_or}
use Rattle.std.proofs.lemmas.List.{length-map}
use Rattle.lists.specs.Test.{given}
use Rattle.lists.specs.Keep.{gather}
use Rattle.model.specs.Limits.{entry_width}
use Rattle.model.specs.Roster.{Entry, Ranking, entries}
use Rattle.model.specs.RosterFile.{shifted, entries_bytes, ranking_bytes}
use Rattle.theory_files.specs.Offsets.{head_is, tail_is}
use Rattle.roster_positions.specs.Tables.{entries_in, entry_bytes, list_at, behind_list, behind}
use Rattle.roster_positions.specs.Rows.{bytes_of, bytes_part, bytes_rest, entries_are}
use Rattle.roster_positions.proofs.Stamping.{entries_none, entries_cons}

-- an entry under the number that the table has for it
abbrev pub under : (table : List ℕ) → Entry → Entry
under t x = record { number = get_or t x.number 0; shift = x.shift }

-- a list under the numbers that the table has
abbrev pub all_under : (table : List ℕ) → List Entry → List Entry
all_under t xs = map (under t) xs

-- a stand's list under the numbers that the table has, strict and tied entries alike
abbrev pub ranking_under : (table : List ℕ) → Ranking → Ranking
ranking_under t R = record { strict = all_under t R.strict; tied = all_under t R.tied }

-- ---- the entries of a part, from the i-th on
module _ (t bs : List ℕ) where
  abbrev pub entries_from : ℕ → List Entry
  entries_from i = all_under t (entries_in (drop (entry_width * i) bs))

  pub entry_turn : (i : ℕ) → i < length bs / entry_width → (x : ℕ) → x ≡ get_or t (get_or bs (entry_width * i) 0) 0
      → bytes_of (entries_from i) ≡ (x ∷ get_or bs (entry_width * i + 1) 0 ∷ []) ++ bytes_of (entries_from (i + 1))
  entry_turn i h x d =
      let e : entry_width * i + 2 ≡ entry_width * (i + 1) = omega arith in
      ap (λ xs. bytes_of (all_under t xs)) (entries_cons bs (entry_width * i) (omega arith))
      ∙ ap₂ (λ y k. y ∷ get_or bs (entry_width * i + 1) 0 ∷ bytes_of (all_under t (entries_in (drop k bs)))) (sym d) e

  pub entry_done : (i : ℕ) → length bs / entry_width ≤ i → bytes_of (entries_from i) ≡ []
  entry_done i h = ap (λ xs. bytes_of (all_under t xs)) (entries_none (drop (entry_width * i) bs) (omega (arith, length-drop (entry_width * i) bs)))

-- ---- lists, one behind the other
-- the bytes of n surveyors' lists from a place of the file on, under the numbers that the table has
unfoldable pub lists_under : (table file : List ℕ) (n at : ℕ) → List ℕ
lists_under t f zero at = []
lists_under t f (suc n) at = ((get_or f at 0 ∷ []) ++ bytes_of (all_under t (entries_in (list_at f at)))) ++ lists_under t f n (behind_list f at)

-- the bytes of n stands' lists from a place of the file on, under the numbers that the table has
unfoldable pub rankings_under : (table file : List ℕ) (n at : ℕ) → List ℕ
rankings_under t f zero at = []
rankings_under t f (suc n) at =
    (((get_or f at 0 ∷ []) ++ get_or f (at + 1) 0 ∷ []) ++ bytes_of (all_under t (entries_in (entry_bytes f (at + 2) (get_or f at 0 + get_or f (at + 1) 0)))))
    ++ rankings_under t f n (behind f at)

module _ (t f : List ℕ) (n i at : ℕ) where
  pub lists_turn : i < n → (k : ℕ) (xs : List ℕ) → k ≡ get_or f at 0 → xs ≡ take (entry_width * k) (drop (at + 1) f)
      → lists_under t f (n - i) at ≡ ((k ∷ []) ++ bytes_of (all_under t (entries_in xs))) ++ lists_under t f (n - (i + 1)) (at + (entry_width * k + 1))
  unfolding lists_under
  lists_turn h k xs d x = let m : n - i ≡ suc (n - (i + 1)) = omega arith in rw (x, d, m)

  pub lists_done : n ≤ i → lists_under t f (n - i) at ≡ []
  unfolding lists_under
  lists_done h = let m : n - i ≡ 0 = omega arith in rw m

  pub rankings_turn : i < n → (a b : ℕ) (xs : List ℕ) → a ≡ get_or f at 0 → b ≡ get_or f (at + 1) 0 → xs ≡ take (entry_width * (a + b)) (drop (at + 2) f)
      → rankings_under t f (n - i) at
      ≡ (((a ∷ []) ++ b ∷ []) ++ bytes_of (all_under t (entries_in xs))) ++ rankings_under t f (n - (i + 1)) (at + (entry_width * (a + b) + 2))
  unfolding rankings_under
  rankings_turn h a b xs d e x = let m : n - i ≡ suc (n - (i + 1)) = omega arith in rw (x, d, e, m)

  pub rankings_done : n ≤ i → rankings_under t f (n - i) at ≡ []
  unfolding rankings_under
  rankings_done h = let m : n - i ≡ 0 = omega arith in rw m

-- ---- the bytes are those of the model's lists
module _ (t f : List ℕ) where
  -- where surveyors' lists stand at a place of the file, what is written is their bytes under the table's numbers
  pub lists_under_law : (ls : List (List Entry)) (at : ℕ) (post : List ℕ) → drop at f ≡ gather (entries_bytes shifted) ls ++ post
      → lists_under t f (length ls) at ≡ gather (entries_bytes shifted) (map (all_under t) ls)
  unfolding lists_under
  lists_under_law [] at post e = refl
  lists_under_law (xs ∷ ls) at post e =
      let rest = gather (entries_bytes shifted) ls in
      let n = get_or f at 0 in
      given (head_is f at (length xs) ((bytes_of xs ++ rest) ++ post) e) (λ h.
      given (tail_is f at (length xs) ((bytes_of xs ++ rest) ++ post) e ∙ append_assoc (bytes_of xs) rest post) (λ d.
      given (ap (λ k. drop k f) (move at n) ∙ bytes_rest f (at + 1) n xs (rest ++ post) d h) (λ y.
      ap₂ (λ k bs. (k ∷ bytes_of (all_under t (entries_in bs))) ++ lists_under t f (length ls) (behind_list f at)) (h ∙ sym (length-map xs (under t)))
      (bytes_part f (at + 1) n xs (rest ++ post) d h)
      ∙ ap₂ (λ ys z. (length (all_under t xs) ∷ bytes_of (all_under t ys)) ++ z) (entries_are xs) (lists_under_law ls (behind_list f at) post y))))
    where
      move : (at b : ℕ) → at + (entry_width * b + 1) ≡ at + 1 + entry_width * b
      move at b = omega arith

  -- where stands' lists stand at a place of the file, what is written is their bytes under the table's numbers
  pub rankings_under_law : (ts : List Ranking) (at : ℕ) (post : List ℕ) → drop at f ≡ gather (ranking_bytes shifted) ts ++ post
      → rankings_under t f (length ts) at ≡ gather (ranking_bytes shifted) (map (ranking_under t) ts)
  unfolding rankings_under
  rankings_under_law [] at post e = refl
  rankings_under_law (R ∷ ts) at post e =
      let rest = gather (ranking_bytes shifted) ts in
      let xs = entries R in
      let a = get_or f at 0 in
      let b = get_or f (at + 1) 0 in
      given (head_is f at (length R.strict) (length R.tied ∷ ((bytes_of xs ++ rest) ++ post)) e) (λ h.
      given (tail_is f at (length R.strict) (length R.tied ∷ ((bytes_of xs ++ rest) ++ post)) e) (λ d.
      given (head_is f (at + 1) (length R.tied) ((bytes_of xs ++ rest) ++ post) d) (λ g.
      given (ap (λ k. drop k f) (two at) ∙ tail_is f (at + 1) (length R.tied) ((bytes_of xs ++ rest) ++ post) d
      ∙ append_assoc (bytes_of xs) rest post) (λ d₂.
      given (ap₂ ◌+◌ h g ∙ sym (length-append R.strict R.tied)) (λ l.
      given (ap (λ k. drop k f) (move at (a + b)) ∙ bytes_rest f (at + 2) (a + b) xs (rest ++ post) d₂ l) (λ y.
      ap₂ (λ p q. (p ∷ q ∷ bytes_of (all_under t (entries_in (entry_bytes f (at + 2) (a + b))))) ++ rankings_under t f (length ts) (behind f at))
      (h ∙ sym (length-map R.strict (under t))) (g ∙ sym (length-map R.tied (under t)))
      ∙ ap₂ (λ bs z. (length (all_under t R.strict) ∷ length (all_under t R.tied) ∷ bytes_of (all_under t (entries_in bs))) ++ z)
      (bytes_part f (at + 2) (a + b) xs (rest ++ post) d₂ l) (rankings_under_law ts (behind f at) post y)
      ∙ ap (λ ys. (length (all_under t R.strict) ∷ length (all_under t R.tied) ∷ bytes_of ys) ++ gather (ranking_bytes shifted) (map (ranking_under t) ts))
      (ap (all_under t) (entries_are xs) ∙ map-append (under t) R.strict R.tied)))))))
    where
      two : (at : ℕ) → at + 2 ≡ at + 1 + 1
      two at = omega arith

      move : (at b : ℕ) → at + (entry_width * b + 2) ≡ at + 2 + entry_width * b
      move at b = omega arith
