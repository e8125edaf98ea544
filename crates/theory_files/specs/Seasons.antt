-- Old season files (W-205), rosters: the two conversions undo each other, and both files are the same roster. A new file with only shift 1
-- always fits the old limits, so that nothing but 19 is refused on the way back.
use Prim.Native.Nat.{ℕ, zero, suc, ◌≤◌, ◌<◌}
use Rattle.std.proofs.Common.{arith, le_trans, sym, ap, ◌∙◌, subst, eqb→eq, leb→le, le→leb, T_not}
use Rattle.std.specs.Prelude.{◌≡◌, Bool, true, false, not, cond, ◌&&◌, List, [], ◌∷◌, map, length, eqb, leb}
use Rattle.std.proofs.Math.Path.{refl}
use mathlib.Core.List.Memᴰ
use Rattle.std.proofs.lemmas.List.{length-map}
use Rattle.std.proofs.Math.Dec.{T, eqb_refl}
use Rattle.lists.specs.Test.{given, T_true, T_false, true_t, and_l, and_r, and_i, or_l, or_r, eq→eqb}
use Rattle.lists.specs.Sum.{◌∈◌, range, range_∈, range_length}
use Rattle.lists.specs.Keep.{all?, all_∈, ∈_all, any_∈, none_∈, get_d_∈, All-getD}
use Rattle.lists.specs.Distinct.{Nodup, nodup_le}
use Rattle.model.specs.Limits.{node_limit, list_limit, shift_limit, roster_size, old_roster_size}
use Rattle.model.specs.Reading.{Reading, accepted, refused, is_bytes}
use Rattle.model.specs.Roster.{Entry, Ranking, Roster, entries, surveyor_count, stand_count, list_s, list_t, same, has, listed, listed_back}
use Rattle.model.specs.Roster.{entry_fits, distinct, ascending, no_entry, quotas_fit, list_fits, ranking_fits, fits_by, fits}
use Rattle.model.specs.RosterFile.{plain, read_roster_by, read_roster, write_roster_by, write_roster}
use Rattle.model_desk.specs.Seasons.{is_first, only_first, new_roster, to_new, old_roster, to_old}
use Rattle.theory_files.specs.Reads.{accepted_value, refused-not}
use Rattle.theory_files.specs.Entries.{in_range, in_range_law}
use Rattle.theory_files.specs.Layouts.{in_plain}
use Rattle.theory_files.specs.Sections.{every_all}
use Rattle.theory_files.specs.Rosters.{fits_parts_by, parts_fit_by, read_held, write_read_by, read_write_by, read_fits_by, read_write, read_fits}
use Rattle.theory_files.specs.Rosters.{write_read, roster_size_by, roster_size_law}
use Rattle.theory_files.specs.ByLists.{list_short, list_range, list_distinct, ranking_list, ranking_ascends, fits_lists}

-- ---- within other limits on the lists' lengths
list_as_long : (f g count : ℕ) (xs : List Entry) → T (list_fits f count xs) → length xs ≤ g → T (list_fits g count xs)
list_as_long f g count xs t h = and_i (leb (length xs) g) (in_range count xs && distinct xs) (le→leb (length xs) g h)
    (and_i (in_range count xs) (distinct xs) (list_range f count xs t) (list_distinct f count xs t))

pub fits_as_long : (f g : ℕ → ℕ) (r : Roster) → T (fits_by f r)
    → ((xs : List Entry) → xs ∈ r.lists_s → T (list_fits (f (stand_count r)) (stand_count r) xs) → length xs ≤ g (stand_count r))
    → ((R : Ranking) → R ∈ r.lists_t → T (list_fits (f (surveyor_count r)) (surveyor_count r) (entries R)) → length (entries R) ≤ g (surveyor_count r))
    → T (fits_by g r)
fits_as_long f g r t hs ht =
    given (fits_parts_by f r t) (λ ((p₁, p₂, (l₃, a₃, k₃), (l₄, a₄, k₄)), n). parts_fit_by g r (p₁, p₂, (l₃, lists a₃, k₃), (l₄, rankings a₄, k₄)) n)
  where
    nt : ℕ
    nt = stand_count r

    ns : ℕ
    ns = surveyor_count r

    lists : T (all? (list_fits (f (stand_count r)) (stand_count r)) r.lists_s) → T (all? (list_fits (g (stand_count r)) (stand_count r)) r.lists_s)
    lists a = ∈_all (list_fits (g nt) nt) r.lists_s (λ xs m.
        given (all_∈ (list_fits (f nt) nt) r.lists_s a xs m) (λ u. list_as_long (f nt) (g nt) nt xs u (hs xs m u)))

    ranking : (R : Ranking) → R ∈ r.lists_t → T (ranking_fits (f (surveyor_count r)) (surveyor_count r) R)
        → T (ranking_fits (g (surveyor_count r)) (surveyor_count r) R)
    ranking R m u = and_i (list_fits (g ns) ns (entries R)) (ascending no_entry R.tied)
        (list_as_long (f ns) (g ns) ns (entries R) (ranking_list (f ns) ns R u) (ht R m (ranking_list (f ns) ns R u))) (ranking_ascends (f ns) ns R u)

    rankings : T (all? (ranking_fits (f (surveyor_count r)) (surveyor_count r)) r.lists_t)
        → T (all? (ranking_fits (g (surveyor_count r)) (surveyor_count r)) r.lists_t)
    rankings a = ∈_all (ranking_fits (g ns) ns) r.lists_t (λ R m. ranking R m (all_∈ (ranking_fits (f ns) ns) r.lists_t a R m))

-- no side has more than 32 nodes, so the old limit on a list is within the new one
pub old_fits : (r : Roster) → T (fits_by (λ count. count) r) → T (fits r)
old_fits r t =
    given (fits_parts_by (λ count. count) r t) (λ ((p₁, p₂, s₃, s₄), n).
    fits_as_long (λ count. count) (λ count. list_limit) r t
    (λ xs m u. le_trans (list_short (stand_count r) (stand_count r) xs u) (few r.quotas_t p₂))
    (λ R m u. le_trans (list_short (surveyor_count r) (surveyor_count r) (entries R) u) (few r.quotas_s p₁)))
  where
    few : (qs : List ℕ) → T (quotas_fit qs) → length qs ≤ list_limit
    few qs p = leb→le (length qs) node_limit (and_l (leb (length qs) node_limit) _ p)

-- ---- distinct entries of one shift are distinct numbers, so there are no more of them than numbers
numbers : List Entry → List ℕ
numbers xs = map (λ x. x.number) xs

-- entries of shift 1 with one number are one entry
same_numbered : (x y : Entry) → T (is_first x) → T (is_first y) → x.number ≡ y.number → T (same x y)
same_numbered x y p q e = and_i (eqb x.number y.number) (eqb x.shift y.shift) (eq→eqb x.number y.number e)
    (eq→eqb x.shift y.shift (eqb→eq x.shift 1 p ∙ sym (eqb→eq y.shift 1 q)))

numbers_once : (xs : List Entry) → T (distinct xs) → T (all? is_first xs) → Nodup (numbers xs)
unfolding numbers
numbers_once [] d t = tt
numbers_once (x ∷ xs) d t = given (and_r (is_first x) (all? is_first xs) t) (λ u. (
  (λ m. given (Memᴰ.of_map (λ z. z.number) xs m) (λ (y, k, e).
      T_not (same x y) (none_∈ (same x) xs (and_l (not (has x xs)) (distinct xs) d) y k)
      (same_numbered x y (and_l (is_first x) (all? is_first xs) t) (all_∈ is_first xs u y k) (sym e)))),
  numbers_once xs (and_r (not (has x xs)) (distinct xs) d) u,
))

pub first_short : (count : ℕ) (xs : List Entry) → T (in_range count xs) → T (distinct xs) → T (all? is_first xs) → length xs ≤ count
unfolding numbers
first_short count xs r d t = omega (
  arith,
  nodup_le (numbers xs) (range 1 count) (numbers_once xs d t) (λ a m. given (Memᴰ.of_map (λ z. z.number) xs m) (λ (y, k, e).
      given (in_range_law count y (all_∈ (entry_fits count) xs r y k)) (λ (p, q, s, u).
      subst (λ n. n ∈ range 1 count) e (range_∈ count 1 y.number p (omega arith))))),
  length-map xs (λ z. z.number),
  range_length 1 count,
)

-- ---- "it stands in both lists or in neither": shift 1 in the surveyors' lists alone is shift 1 in all
∈_has : (x : Entry) (xs : List Entry) → x ∈ xs → T (has x xs)
∈_has x [] m = elim m [ ]
∈_has x (y ∷ ys) (Memᴰ.head e) = or_l (same x y) (has x ys) (subst (λ z. T (same x z)) e
    (and_i (eqb x.number x.number) (eqb x.shift x.shift) (eqb_refl x.number) (eqb_refl x.shift)))
∈_has x (y ∷ ys) (Memᴰ.tail m) = or_r (same x y) (has x ys) (∈_has x ys m)

module _ (r : Roster) (t : T (fits r)) (o : T (only_first r)) where
  -- an entry that a surveyor lists
  first_listed : (i : ℕ) → i < length r.lists_s → (x : Entry) → T (has x (list_s r i)) → T (is_first x)
  first_listed i h x p = given (any_∈ (same x) (list_s r i) p) (λ (y, m, s).
      eq→eqb x.shift 1 (eqb→eq x.shift y.shift (and_r (eqb x.number y.number) (eqb x.shift y.shift) s)
      ∙ eqb→eq y.shift 1 (all_∈ is_first (list_s r i) (all_∈ (λ xs. all? is_first xs) r.lists_s o (list_s r i) (get_d_∈ r.lists_s i [] h)) y m)))

  -- an entry of stand j is one of its surveyor's list
  first_back : (j : ℕ) → j < stand_count r → (x : Entry) → x ∈ entries (list_t r j) → T (entry_fits (surveyor_count r) x) → T (is_first x)
  unfolding listed listed_back
  first_back j hj x m fit = given (in_range_law (surveyor_count r) x fit) (λ (p, q, s, u). by_number x.number refl p q s u)
    where
      by_number : (a : ℕ) → x.number ≡ a → 1 ≤ a → a ≤ surveyor_count r → 1 ≤ x.shift → x.shift ≤ shift_limit → T (is_first x)
      by_number zero e p q s u = absurd (omega arith)
      by_number (suc i) e p q s u = first_listed i (subst (λ z. i < z) (sym (fits_lists r t).count_s) q) (record { number = suc j; shift = x.shift })
          (subst T (sym ((fits_lists r t).pairs i j x.shift q hj (range_∈ shift_limit 1 x.shift s (omega arith))))
          (subst (λ b. T (has (record { number = b; shift = x.shift }) (entries (list_t r j)))) e (∈_has x (entries (list_t r j)) m)))

  pub first_stands : T (all? (λ R. all? is_first (entries R)) r.lists_t)
  first_stands = every_all (λ R. all? is_first (entries R)) r.lists_t
      (All-getD (λ R. T (all? is_first (entries R))) (record { strict = []; tied = [] }) r.lists_t (λ j h.
      ∈_all is_first (entries (list_t r j)) (λ x m. first_back j (subst (λ z. j < z) (fits_lists r t).count_t h) x m
      (all_∈ (entry_fits (surveyor_count r)) (entries (list_t r j)) (range_at_law j h) x m))))
    where
      range_at_law : (j : ℕ) → j < length r.lists_t → T (in_range (surveyor_count r) (entries (list_t r j)))
      range_at_law j h = list_range list_limit (surveyor_count r) (entries (list_t r j)) (ranking_list list_limit (surveyor_count r) (list_t r j)
          (all_∈ (ranking_fits list_limit (surveyor_count r)) r.lists_t (fits_lists r t).fit_t (list_t r j) (get_d_∈ r.lists_t j _ h)))

  -- "a new file with only shift 1" fits the old limits
  pub first_fits : T (fits_by (λ count. count) r)
  first_fits = fits_as_long (λ count. list_limit) (λ count. count) r t
      (λ xs m u. short (stand_count r) xs u (all_∈ (λ xs. all? is_first xs) r.lists_s o xs m))
      (λ R m u. short (surveyor_count r) (entries R) u (all_∈ (λ R. all? is_first (entries R)) r.lists_t first_stands R m))
    where
      short : (count : ℕ) (xs : List Entry) → T (list_fits list_limit count xs) → T (all? is_first xs) → length xs ≤ count
      short count xs u h = first_short count xs (list_range list_limit count xs u) (list_distinct list_limit count xs u) h

  -- and, written without shifts, it is accepted and read back the same
  pub old_write_read : read_roster_by plain (write_roster_by plain r) ≡ accepted r
  old_write_read = write_read_by plain in_plain r first_fits (o, first_stands)

-- an old file has shift 1 throughout, and is within the limits of today
module _ (f : List ℕ) (r : Roster) (is_b : T (is_bytes f)) (e : read_roster_by plain f ≡ accepted r) where
  -- what surveyors list in an old file is of shift 1
  pub old_first : T (only_first r)
  old_first = (read_held plain in_plain f r is_b e).0

  pub old_read_fits : T (fits r)
  old_read_fits = old_fits r (read_fits_by plain in_plain f r is_b e)

-- ---- what a conversion says
new_of : (x : Reading Roster) {g : List ℕ} → new_roster x ≡ accepted g → (r : Roster) × (x ≡ accepted r) × (write_roster r ≡ g)
new_of (accepted r) e = (r, refl, accepted_value e)
new_of (refused n) e = refused-not e

old_of : (x : Reading Roster) {f : List ℕ} → old_roster x ≡ accepted f → (r : Roster) × (x ≡ accepted r) × T (only_first r) × (write_roster_by plain r ≡ f)
old_of (accepted r) {f} e = go (only_first r) refl e
  where
    go : (b : Bool) → only_first r ≡ b → cond b (accepted (write_roster_by plain r)) (refused 19) ≡ accepted f
        → (q : Roster) × (accepted r ≡ accepted q) × T (only_first q) × (write_roster_by plain q ≡ f)
    go true h e = (r, refl, true_t h, accepted_value e)
    go false h e = refused-not e
old_of (refused n) e = refused-not e

-- ---- the two files are one roster
pub record OneRoster (f g : List ℕ) : Type 0 where
  pub roster : Roster
  pub old : read_roster_by plain f ≡ accepted roster
  pub new : read_roster g ≡ accepted roster
  pub only : T (only_first roster)
  pub old_bytes : write_roster_by plain roster ≡ f
  pub new_bytes : write_roster roster ≡ g

pub new_one : (f g : List ℕ) → T (is_bytes f) → to_new f ≡ accepted g → OneRoster f g
unfolding to_new
new_one f g is_b e = given (new_of (read_roster_by plain f) e) (λ (r, a, w). record {
  roster = r;
  old = a;
  new = ap read_roster (sym w) ∙ write_read r (old_read_fits f r is_b a);
  only = old_first f r is_b a;
  old_bytes = read_write_by plain in_plain f r is_b a;
  new_bytes = w;
})

pub old_one : (f g : List ℕ) → T (is_bytes g) → to_old g ≡ accepted f → OneRoster f g
unfolding to_old
old_one f g is_b e = given (old_of (read_roster g) e) (λ (r, a, o, w). record {
  roster = r;
  old = ap (read_roster_by plain) (sym w) ∙ old_write_read r (read_fits g r is_b a) o;
  new = a;
  only = o;
  old_bytes = w;
  new_bytes = read_write g r is_b a;
})

-- no accepted old file is turned away, and no accepted new file of shift 1 alone
pub old_taken : (f : List ℕ) (r : Roster) → read_roster_by plain f ≡ accepted r → to_new f ≡ accepted (write_roster r)
unfolding to_new
old_taken f r e = ap new_roster e

-- an accepted file of shift 1 alone goes back to its bytes without shifts
pub new_taken : (g : List ℕ) (r : Roster) → read_roster g ≡ accepted r → T (only_first r) → to_old g ≡ accepted (write_roster_by plain r)
unfolding to_old
new_taken g r e o = ap old_roster e ∙ ap (λ b. cond b (accepted (write_roster_by plain r)) (refused 19)) (T_true {b = only_first r} o)

-- a file that is refused keeps its number
pub old_turned_away : (f : List ℕ) (n : ℕ) → read_roster_by plain f ≡ refused n → to_new f ≡ refused n
unfolding to_new
old_turned_away f n e = ap new_roster e

-- a file with shifts that is refused keeps its number on the way back
pub new_turned_away : (g : List ℕ) (n : ℕ) → read_roster g ≡ refused n → to_old g ≡ refused n
unfolding to_old
new_turned_away g n e = ap old_roster e

-- "It refuses, on the way back, a valid file with another shift (19, ..)"
pub new_refused : (g : List ℕ) (r : Roster) → read_roster g ≡ accepted r → T (not (only_first r)) → to_old g ≡ refused 19
unfolding to_old
new_refused g r e o = ap old_roster e ∙ ap (λ b. cond b (accepted (write_roster_by plain r)) (refused 19)) (T_false {b = only_first r} o)

-- ---- the two conversions undo each other
-- "An old file becomes a new one with shift 1 throughout": and goes back to the same bytes
pub back : (f g : List ℕ) → T (is_bytes f) → to_new f ≡ accepted g → to_old g ≡ accepted f
back f g is_b e = given (new_one f g is_b e) (λ X. new_taken g X.roster X.new X.only ∙ ap accepted X.old_bytes)

-- "a new file with only shift 1 goes back to the identical old bytes": and those become the new file again
pub forth : (f g : List ℕ) → T (is_bytes g) → to_old g ≡ accepted f → to_new f ≡ accepted g
forth f g is_b e = given (old_one f g is_b e) (λ X. old_taken f X.roster X.old ∙ ap accepted X.new_bytes)

-- an accepted old file, there and back; an accepted new file of shift 1 alone, back and there
pub old_and_back : (f : List ℕ) (r : Roster) → T (is_bytes f) → read_roster_by plain f ≡ accepted r
    → (to_new f ≡ accepted (write_roster r)) × (to_old (write_roster r) ≡ accepted f)
old_and_back f r is_b e = (old_taken f r e, back f (write_roster r) is_b (old_taken f r e))

pub new_and_forth : (g : List ℕ) (r : Roster) → T (is_bytes g) → read_roster g ≡ accepted r → T (only_first r)
    → (to_old g ≡ accepted (write_roster_by plain r)) × (to_new (write_roster_by plain r) ≡ accepted g)
new_and_forth g r is_b e o = (new_taken g r e o, forth (write_roster_by plain r) g is_b (new_taken g r e o))

-- what is written has room: "The buffer written to needs 4,262 .. bytes either way."
pub new_size : (f g : List ℕ) → T (is_bytes f) → to_new f ≡ accepted g → length g ≤ roster_size
new_size f g is_b e = given (new_one f g is_b e) (λ X.
    subst (λ z. length z ≤ roster_size) X.new_bytes (roster_size_law X.roster (old_read_fits f X.roster is_b X.old)))

-- a file that went back has at most 2,214 bytes
pub old_size : (f g : List ℕ) → T (is_bytes g) → to_old g ≡ accepted f → length f ≤ old_roster_size
old_size f g is_b e = given (old_one f g is_b e) (λ X.
    subst (λ z. length z ≤ old_roster_size) X.old_bytes
    (roster_size_by plain in_plain (λ count. list_limit) X.roster (read_fits g X.roster is_b X.new)))
