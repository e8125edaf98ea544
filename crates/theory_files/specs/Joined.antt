-- A roster that a joiner enters is within the limits (request W-202), so that its bytes are read back to it, if no stand's list has become too
-- long (W-204): the joiner's number is above every number in the lists, and the joiner's entries at a stand ascend by shift.
use Prim.Native.Nat.{ℕ, zero, suc, ◌+◌, ◌≤◌, ◌<◌}
use native.Mathlib.Omega.{arith}
use Rattle.std.proofs.Math.Decide.{dec_lt}
use Rattle.std.specs.Prelude.{◌≡◌, refl, Bool, not, ◌&&◌, ◌||◌, length, get_or, leb, ltb}
use Rattle.std.proofs.Math.Path.{sym, ap, ap₂, subst}
use Rattle.std.proofs.Common.{◌∙◌, inl, ⊎_elim, length-append, ltb→lt, le→leb, lt→ltb}
use Rattle.std.proofs.Math.Logic.{by_cases}
use Rattle.std.proofs.Math.Bool.{true, false, cond, or-false}
use mathlib.Core.List.Memᴰ
use mathlib.Core.List.{List, [], ◌∷◌, ◌++◌, append_assoc, append-nil}
use Rattle.std.proofs.Math.ListN.{get_or-append}
use Rattle.std.proofs.Math.Seq.{get_or-append_seam}
use Rattle.std.proofs.Math.Dec.{T, nltb→le, nleb→lt}
use Rattle.std.proofs.Math.Arith.{le→nltb, lt→nleb}
use Rattle.lists.specs.Test.{given, and_l, and_r, and_i, or_l, or_r, or_case, nor_l, nor_r, nor_i, false_t, T_true}
use Rattle.lists.specs.Sum.{◌∈◌, sum, sum_append}
use Rattle.lists.specs.Keep.{all?, any?, all_append, any_append, all_∈, ∈_all, All-∈}
use Rattle.model.specs.Limits.{node_limit, quota_limit, quota_sum_limit, list_limit}
use Rattle.model.specs.Reading.{Reading, accepted, refused, whole}
use Rattle.model.specs.Roster.{Entry, Ranking, Roster, entries, surveyor_count, stand_count, list_t, same, has, before, no_entry, shifts, listed, listed_back}
use Rattle.model.specs.Roster.{distinct, ascending, entry_fits, quotas_fit, list_fits, ranking_fits, fits}
use Rattle.model.specs.RosterFile.{shifted, read_list, entries_bytes}
use Rattle.model_changes.specs.Changes.{joiner_at, entered, joined, no_place, too_long, joined_by, join_on}
use Rattle.theory_files.specs.Order.{→before}
use Rattle.theory_files.specs.Reads.{is_bytes, accepted_value, refused-not, refuse_read, refuse_no, refuse_other, whole_accepted}
use Rattle.theory_files.specs.Entries.{apart, distinct_append, in_range, in_range_law, range_in, small}
use Rattle.theory_files.specs.Layouts.{in_shifted}
use Rattle.theory_files.specs.Sections as Sections
use Rattle.theory_files.specs.RosterInstance.{entries_fit}
use Rattle.theory_files.specs.Cells.{Within, within, above_out}
use Rattle.theory_files.specs.ByLists.{list_range, list_distinct, ranking_list, ranking_ascends, fits_lists, lists_fit_law, Storable, storable}
use Rattle.theory_files.specs.Joiner.{joiner_others, joiner_asked, joiner_number, joiner_range, joiner_distinct, joiner_ascends}

-- ---- lists with one more at their end
snoc_length : {A : Type 0} (xs : List A) (x : A) → length (xs ++ x ∷ []) ≡ suc (length xs)
snoc_length xs x = omega (arith, length-append xs (x ∷ []))

snoc_all : {A : Type 0} (p : A → Bool) (xs : List A) (x : A) → T (all? p xs) → T (p x) → T (all? p (xs ++ x ∷ []))
snoc_all p xs x a t = subst T (sym (all_append p xs (x ∷ []))) (and_i (all? p xs) (p x && true) a (and_i (p x) true t tt))

quotas_snoc : (qs : List ℕ) (q : ℕ) → T (quotas_fit qs) → q ≤ quota_limit → length qs < node_limit → sum (λ x. x) qs + q ≤ quota_sum_limit
    → T (quotas_fit (qs ++ q ∷ []))
quotas_snoc qs q t h l s =
    let qs' = qs ++ q ∷ [] in
    and_i (leb (length qs') node_limit) _ (le→leb (length qs') node_limit (omega (arith, snoc_length qs q)))
    (and_i (small qs') (leb (sum (λ x. x) qs') quota_sum_limit)
    (snoc_all (λ q. leb q quota_limit) qs q (and_l (small qs) _ (and_r (leb (length qs) node_limit) _ t)) (le→leb q quota_limit h))
    (le→leb (sum (λ x. x) qs') quota_sum_limit (omega (arith, sum_append (λ x. x) qs (q ∷ [])))))

range_more : (c : ℕ) (xs : List Entry) → T (in_range c xs) → T (in_range (suc c) xs)
range_more c xs t = ∈_all (entry_fits (suc c)) xs (λ x m. given (in_range_law c x (all_∈ (entry_fits c) xs t x m)) (λ (a, b, d, e).
    range_in (suc c) x a (omega arith) d e))

-- a list that ascends goes on where all of it, and what it is behind, comes before the rest
ascending_append : (last : Entry) (xs ys : List Entry) → T (ascending last xs) → ((x : Entry) → x ∈ (last ∷ xs) → T (ascending x ys))
    → T (ascending last (xs ++ ys))
ascending_append last [] ys a h = h last (Memᴰ.head refl)
ascending_append last (x ∷ xs) ys a h = and_i (before last x) (ascending x (xs ++ ys)) (and_l (before last x) (ascending x xs) a)
    (ascending_append x xs ys (and_r (before last x) (ascending x xs) a) (λ y m. h y (Memᴰ.tail m)))

-- ---- a stand's list
abbrev with_tied : List Entry → Ranking → Ranking
with_tied ys R = record { strict = R.strict; tied = R.tied ++ ys }

entries_with : (ys : List Entry) (R : Ranking) → entries (with_tied ys R) ≡ entries R ++ ys
entries_with ys R = sym (append_assoc R.strict R.tied ys)

within_back : (c : ℕ) (xs ys : List Entry) → Within c (xs ++ ys) → Within c ys
within_back c [] ys w = w
within_back c (x ∷ xs) ys w = within_back c xs ys w.1

-- entries of one number more, none twice and in shift order, behind the tie
module _ (c : ℕ) (list : List Entry) (j : ℕ) (R : Ranking) (t : T (ranking_fits list_limit c R)) where
  abbrev s : ℕ
  s = suc c

  abbrev ys : List Entry
  ys = joiner_at s list j

  old_within : Within c (entries R)
  old_within = within c c (omega arith) (entries R) (list_range list_limit c (entries R) (ranking_list list_limit c R t))

  new_apart : T (apart (entries R) ys)
  new_apart = ∈_all (λ y. not (has y (entries R))) ys (λ y m. given (joiner_number s list j y m) (λ e.
      false_t (above_out c y (omega arith) (entries R) old_within)))

  new_ascends : T (ascending no_entry (R.tied ++ ys))
  new_ascends = ascending_append no_entry R.tied ys (ranking_ascends list_limit c R t)
      (λ x m. joiner_ascends s list j x (→before x (record { number = s; shift = 1 }) (inl (lower x m))))
    where
      lower : (x : Entry) → x ∈ (no_entry ∷ R.tied) → x.number < suc c
      lower x (Memᴰ.head e) = subst (λ z. z.number < suc c) (sym e) (omega arith)
      lower x (Memᴰ.tail m) = given (All-∈ _ R.tied (within_back c R.strict R.tied old_within) x m) (λ (a, b, d, e). omega arith)

  ranking_entered : length (entries (with_tied ys R)) ≤ list_limit → T (ranking_fits list_limit s (with_tied ys R))
  ranking_entered h = and_i (list_fits list_limit s (entries (with_tied ys R))) (ascending no_entry (R.tied ++ ys))
      (and_i (leb (length (entries (with_tied ys R))) list_limit) _ (le→leb (length (entries (with_tied ys R))) list_limit h)
      (subst (λ zs. T (in_range s zs && distinct zs)) (sym (entries_with ys R)) (and_i (in_range s (entries R ++ ys)) (distinct (entries R ++ ys))
      (subst T (sym (all_append (entry_fits s) (entries R) ys)) (and_i (in_range s (entries R)) (in_range s ys)
      (range_more c (entries R) (list_range list_limit c (entries R) (ranking_list list_limit c R t))) (joiner_range s list j (omega arith))))
      (distinct_append (entries R) ys (list_distinct list_limit c (entries R) (ranking_list list_limit c R t)) (joiner_distinct s list j) new_apart))))
      new_ascends

-- ---- the stands' lists
-- the list has passed its limit
abbrev long : Ranking → Bool
long R = ltb list_limit (length (entries R))

lists_length : (s : ℕ) (list : List Entry) (j : ℕ) (ts : List Ranking) → length (entered s list j ts) ≡ length ts
lists_length s list j [] = refl
lists_length s list j (R ∷ ts) = ap suc (lists_length s list (suc j) ts)

lists_entered : (c : ℕ) (list : List Entry) (j : ℕ) (ts : List Ranking) → T (all? (ranking_fits list_limit c) ts)
    → T (not (any? long (entered (suc c) list j ts))) → T (all? (ranking_fits list_limit (suc c)) (entered (suc c) list j ts))
lists_entered c list j [] t n = tt
lists_entered c list j (R ∷ ts) t n =
    let R' = with_tied (joiner_at (suc c) list j) R in
    let rest = entered (suc c) list (suc j) ts in
    and_i (ranking_fits list_limit (suc c) R') (all? (ranking_fits list_limit (suc c)) rest)
    (ranking_entered c list j R (and_l (ranking_fits list_limit c R) (all? (ranking_fits list_limit c) ts) t)
    (nltb→le list_limit (length (entries R')) (nor_l (long R') (any? long rest) n)))
    (lists_entered c list (suc j) ts (and_r (ranking_fits list_limit c R) (all? (ranking_fits list_limit c) ts) t) (nor_r (long R') (any? long rest) n))

abbrev no_ranking : Ranking
no_ranking = record { strict = []; tied = [] }

entered_at : (s : ℕ) (list : List Entry) (k : ℕ) (ts : List Ranking) (j : ℕ) → j < length ts
    → get_or (entered s list k ts) j no_ranking ≡ with_tied (joiner_at s list (k + j)) (get_or ts j no_ranking)
entered_at s list k [] j h = absurd (omega arith)
entered_at s list k (R ∷ ts) zero h = ap (λ z. with_tied (joiner_at s list z) R) (plus_zero k)
  where
    plus_zero : (k : ℕ) → k ≡ k + 0
    plus_zero k = omega arith
entered_at s list k (R ∷ ts) (suc j) h = entered_at s list (suc k) ts j (omega arith) ∙ ap (λ z. with_tied (joiner_at s list z) (get_or ts j no_ranking)) (move k j)
  where
    move : (k j : ℕ) → suc k + j ≡ k + suc j
    move k j = omega arith

-- ---- the whole roster
module _ (r : Roster) (q : ℕ) (list : List Entry) (ok : T (fits r)) where
  abbrev ns : ℕ
  ns = surveyor_count r

  abbrev nt : ℕ
  nt = stand_count r

  abbrev h : Roster
  h = joined r q list

  -- with the joiner there is one surveyor more, and there are as many stands as before
  pub joined_counts : (surveyor_count h ≡ suc ns) × (stand_count h ≡ nt)
  unfolding joined
  joined_counts = (snoc_length r.quotas_s q, refl)

  ranking_at_law : (j : ℕ) → j < nt → list_t h j ≡ with_tied (joiner_at (suc ns) list (suc j)) (list_t r j)
  unfolding joined
  ranking_at_law j l = entered_at (suc ns) list 1 r.lists_t j (given (fits_lists r ok).count_t (λ e. omega arith))
      ∙ ap (λ z. with_tied (joiner_at (suc ns) list z) (list_t r j)) (one_plus j)
    where
      one_plus : (j : ℕ) → 1 + j ≡ suc j
      one_plus j = omega arith

  -- a stand's list gains the joiner's entries there
  joined_length : (j : ℕ) → j < nt → length (entries (list_t h j)) ≡ length (entries (list_t r j)) + length (joiner_at (suc ns) list (suc j))
  joined_length j l =
      let ys = joiner_at (suc ns) list (suc j) in
      ap (λ R. length (entries R)) (ranking_at_law j l) ∙ ap length (entries_with ys (list_t r j)) ∙ length-append (entries (list_t r j)) ys

  -- the surveyors who were there list whom they listed; the joiner lists the entries of the list
  pub listed_before : (i j k : ℕ) → i < ns → listed h i j k ≡ listed r i j k
  unfolding joined listed
  listed_before i j k l = ap (has (record { number = suc j; shift = k }))
      (get_or-append r.lists_s (list ∷ []) [] i (given (fits_lists r ok).count_s (λ e. omega arith)))

  listed_joiner : (j k : ℕ) → listed h ns j k ≡ has (record { number = suc j; shift = k }) list
  unfolding joined listed
  listed_joiner j k = ap (λ n. has (record { number = suc j; shift = k }) (get_or (r.lists_s ++ list ∷ []) n [])) (sym (fits_lists r ok).count_s)
      ∙ ap (has (record { number = suc j; shift = k })) (get_or-append_seam r.lists_s list [] [])

  back_is : (i j k : ℕ) → j < nt → listed_back h i j k ≡ listed_back r i j k || has (record { number = suc i; shift = k }) (joiner_at (suc ns) list (suc j))
  unfolding listed_back
  back_is i j k l =
      let x : Entry = record { number = suc i; shift = k } in
      let ys = joiner_at (suc ns) list (suc j) in
      ap (λ R. has x (entries R)) (ranking_at_law j l) ∙ ap (has x) (entries_with ys (list_t r j)) ∙ any_append (same x) (entries (list_t r j)) ys

  back_before : (i j k : ℕ) → i < ns → j < nt → listed_back h i j k ≡ listed_back r i j k
  back_before i j k l m = back_is i j k m
      ∙ ap (λ b. listed_back r i j k || b)
      (joiner_others (suc ns) list (suc j) (record { number = suc i; shift = k }) (λ (e : suc i ≡ suc ns). omega arith))
      ∙ or-false (listed_back r i j k)

  back_joiner : (j k : ℕ) → j < nt → k ∈ shifts → listed_back h ns j k ≡ has (record { number = suc j; shift = k }) list
  unfolding listed_back
  back_joiner j k l m = back_is ns j k l
      ∙ ap₂ (λ a b. a || b) (above_out ns (record { number = suc ns; shift = k }) (omega arith) (entries (list_t r j)) (within ns ns (omega arith)
      (entries (list_t r j)) (list_range list_limit ns (entries (list_t r j)) (entries_fit r ok j l)))) (joiner_asked (suc ns) list (suc j) k m)

  pairs_both : (i j k : ℕ) → i < suc ns → j < nt → k ∈ shifts → listed h i j k ≡ listed_back h i j k
  pairs_both i j k l m s = by_cases (dec_lt i ns)
      (λ b. listed_before i j k b ∙ (fits_lists r ok).pairs i j k b m s ∙ sym (back_before i j k b m))
      (λ n. subst (λ i. listed h i j k ≡ listed_back h i j k) (at i l n) (listed_joiner j k ∙ sym (back_joiner j k m s)))
    where
      at : (i : ℕ) → i < suc ns → (i < ns → ⊥) → ns ≡ i
      at i l n = omega arith

  -- what the tests of a join ask of the quota, the list and the stands' lists
  pub fits_joined : q ≤ quota_limit → ns < node_limit → sum (λ x. x) r.quotas_s + q ≤ quota_sum_limit → T (list_fits list_limit nt list) → T (not (too_long h))
      → T (fits h)
  unfolding joined
  fits_joined hq room hs lf short = given (fits_lists r ok) (λ b. lists_fit_law h (record {
    quota_s = quotas_snoc r.quotas_s q b.quota_s hq room hs;
    quota_t = b.quota_t;
    count_s = snoc_length r.lists_s list ∙ ap suc b.count_s ∙ sym (snoc_length r.quotas_s q);
    count_t = lists_length (suc ns) list 1 r.lists_t ∙ b.count_t;
    fit_s = snoc_all (list_fits list_limit nt) r.lists_s list b.fit_s lf;
    fit_t = subst (λ n. T (all? (ranking_fits list_limit n) h.lists_t)) (sym (snoc_length r.quotas_s q)) (lists_entered ns list 1 r.lists_t b.fit_t short);
    pairs = λ i j k l m s. pairs_both i j k (subst (λ n. i < n) (snoc_length r.quotas_s q) l) m s;
  }))

-- ---- the call
-- what a join that is not refused has found, and what it makes
pub record Joins (r : Roster) (q : ℕ) (file : List ℕ) (h : Roster) : Type 0 where
  pub list : List Entry
  pub is : h ≡ joined r q list
  pub bytes : file ≡ entries_bytes shifted list
  pub quota : q ≤ quota_limit
  pub room : surveyor_count r < node_limit
  pub places : sum (λ x. x) r.quotas_s + q ≤ quota_sum_limit
  pub fit : T (list_fits list_limit (stand_count r) list)
  pub short : T (not (too_long (joined r q list)))

abbrev list_read : Roster → List ℕ → Reading (List Entry)
list_read r file = whole (read_list shifted list_limit (stand_count r) file)

short_at : (ts : List Ranking) → T (not (any? long ts)) → (j : ℕ) → length (entries (get_or ts j no_ranking)) ≤ list_limit
short_at [] n j = omega arith
short_at (R ∷ ts) n zero = nltb→le list_limit (length (entries R)) (nor_l (long R) (any? long ts) n)
short_at (R ∷ ts) n (suc j) = short_at ts (nor_r (long R) (any? long ts) n) j

module _ (r : Roster) (q : ℕ) (file : List ℕ) (h : Roster) (is_b : T (is_bytes file)) (e : join_on r q file ≡ accepted h) where
  pub join_parts : Joins r q file h
  unfolding join_on
  join_parts =
      given (refuse_read (ltb quota_limit q) 3 e) (λ (a, e₁).
      given (refuse_read (no_place r q) 17 e₁) (λ (b, e₂).
      given (listed_by (list_read r file) e₂) (λ (list, w, short, is).
      given ((Sections.list shifted in_shifted list_limit nt).back file list [] is_b (whole_accepted (read_list shifted list_limit nt file) w)) (λ (bytes, fit).
      record {
        list = list;
        is = is;
        bytes = bytes ∙ append-nil (entries_bytes shifted list);
        quota = nltb→le quota_limit q a;
        room = nleb→lt node_limit (surveyor_count r) (nor_l (leb node_limit (surveyor_count r)) (ltb quota_sum_limit (sum (λ x. x) r.quotas_s + q)) b);
        places = nltb→le quota_sum_limit (sum (λ x. x) r.quotas_s + q)
            (nor_r (leb node_limit (surveyor_count r)) (ltb quota_sum_limit (sum (λ x. x) r.quotas_s + q)) b);
        fit = and_r (Sections.held shifted in_shifted list) (list_fits list_limit nt list) fit;
        short = short;
      }))))
    where
      nt : ℕ
      nt = stand_count r

      listed_by : (x : Reading (List Entry)) → joined_by r q x ≡ accepted h
          → (list : List Entry) × (x ≡ accepted list) × T (not (too_long (joined r q list))) × (h ≡ joined r q list)
      listed_by (accepted list) e = given (refuse_read (too_long (joined r q list)) 2 e) (λ (n, e₁). (list, refl, n, sym (accepted_value e₁)))
      listed_by (refused n) e = refused-not e

  -- the changed bytes are read to the changed roster, and fit into the buffer of a roster
  pub join_storable : T (fits r) → Storable h
  join_storable ok = given join_parts (λ J. subst Storable (sym J.is)
      (storable (joined r q J.list) (fits_joined r q J.list ok J.quota J.room J.places J.fit J.short)))

  -- a joiner makes another roster
  pub join_differs : T (fits r) → h ≡ r → ⊥
  join_differs ok i = given join_parts (λ J.
      let n : surveyor_count (joined r q J.list) ≡ suc (surveyor_count r) = (joined_counts r q J.list ok).0 in
      let m : surveyor_count r ≡ surveyor_count (joined r q J.list) = ap surveyor_count (sym i ∙ J.is) in
      omega arith)

  -- no stand's list has passed its limit
  pub no_list_too_long : (j : ℕ) → length (entries (list_t h j)) ≤ list_limit
  no_list_too_long j = given join_parts (λ J. subst (λ h. length (entries (list_t h j)) ≤ list_limit) (sym J.is)
      (short_at (joined r q J.list).lists_t J.short j))

-- ---- "A joiner's entry that takes a stand's list past 32 meets 2, after all checks of the joiner's own list."
long_at : (ts : List Ranking) → T (any? long ts) → (j : ℕ) × (j < length ts) × T (long (get_or ts j no_ranking))
long_at [] t = absurd t
long_at (R ∷ ts) t = ⊎_elim (λ a. (0, omega arith, a)) (λ b. let (j, l, u) = long_at ts b in (suc j, omega arith, u)) (or_case (long R) (any? long ts) t)

at_long : (ts : List Ranking) (j : ℕ) → j < length ts → T (long (get_or ts j no_ranking)) → T (any? long ts)
at_long [] j l t = absurd (omega arith)
at_long (R ∷ ts) zero l t = or_l (long R) (any? long ts) t
at_long (R ∷ ts) (suc j) l t = or_r (long R) (any? long ts) (at_long ts j (omega arith) t)

module _ (r : Roster) (q : ℕ) (file : List ℕ) (list : List Entry) (e : list_read r file ≡ accepted list) (ok : T (fits r)) where
  -- some stand has no room for the joiner's entries
  abbrev pub NoRoom : Type 0
  NoRoom = (j : ℕ) × (j < stand_count r) × (list_limit < length (entries (list_t r j)) + length (joiner_at (suc (surveyor_count r)) list (suc j)))

  lists_count : length (joined r q list).lists_t ≡ stand_count r
  unfolding joined
  lists_count = lists_length (suc (surveyor_count r)) list 1 r.lists_t ∙ (fits_lists r ok).count_t

  pub two_means : join_on r q file ≡ refused 2 → NoRoom
  unfolding join_on
  two_means d =
      given (refuse_other (ltb quota_limit q) 3 (λ (x : 3 ≡ 2). omega arith) d) (λ d₁.
      given (refuse_other (no_place r q) 17 (λ (x : 17 ≡ 2). omega arith) d₁) (λ d₂.
      given (ap (joined_by r q) (sym e) ∙ d₂) (λ d₃.
      given (long_at (joined r q list).lists_t (is_long (too_long (joined r q list)) d₃)) (λ (j, l, t).
      given (subst (λ n. j < n) lists_count l) (λ k. (j, k, subst (λ n. list_limit < n) (joined_length r q list ok j k) (ltb→lt list_limit _ t)))))))
    where
      is_long : (b : Bool) → cond b (refused 2) (accepted (joined r q list)) ≡ refused 2 → T b
      is_long true d = tt
      is_long false d = refused-not (sym d)

  pub two_met : q ≤ quota_limit → surveyor_count r < node_limit → sum (λ x. x) r.quotas_s + q ≤ quota_sum_limit → NoRoom → join_on r q file ≡ refused 2
  unfolding join_on
  two_met hq room hs (j, l, t) =
      refuse_no (ltb quota_limit q) 3 _ (le→nltb quota_limit q hq)
      ∙ refuse_no (no_place r q) 17 _ (nor_i (leb node_limit (surveyor_count r)) (ltb quota_sum_limit (sum (λ x. x) r.quotas_s + q))
      (lt→nleb node_limit (surveyor_count r) room) (le→nltb quota_sum_limit (sum (λ x. x) r.quotas_s + q) hs))
      ∙ ap (joined_by r q) e
      ∙ ap (λ b. cond b (refused 2) (accepted (joined r q list))) (T_true {b = too_long (joined r q list)}
      (at_long (joined r q list).lists_t j (subst (λ n. j < n) (sym lists_count) l)
      (lt→ltb list_limit _ (subst (λ n. list_limit < n) (sym (joined_length r q list ok j l)) t))))
