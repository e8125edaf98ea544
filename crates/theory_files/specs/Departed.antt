-- A roster that a surveyor leaves is within the limits (request W-202), so that its bytes are read back to it: lists only lose entries, and a
-- part of a list has no entry twice and ascends where the list does. To leave twice is to leave once.
use Prim.Native.Nat.{ℕ, zero, suc, ◌-◌, ◌≤◌, ◌<◌}
use Rattle.std.proofs.Common.{arith, ap₂, ◌∙◌, set-set, leb→le, le→leb, nltb→le}
use Rattle.std.specs.Prelude.{◌≡◌, refl, ◌≢◌, Bool, true, false, not, ◌&&◌, ◌||◌, length, set, eqb, leb, ltb}
use Rattle.std.proofs.Math.Path.{sym, ap, subst}
use Rattle.std.proofs.Math.Bool.{cond}
use mathlib.Core.List.Memᴰ
use mathlib.Core.List.{List, [], ◌∷◌, map}
use Rattle.std.proofs.Math.ListN.{get_or, length-set, length-map, get_or-map}
use Rattle.std.proofs.Math.Seq.{get_or-set_same, get_or-set_other}
use Rattle.std.proofs.Math.Dec.{T}
use Rattle.lists.specs.Test.{given, and_l, and_r, and_i, nor_l, nor_r, eqb_no, T_false, by-eq}
use Rattle.lists.specs.Sum.{◌∈◌, sum}
use Rattle.lists.specs.Keep.{all?, keep, keep_cong, keep_keep, ∈_keep, all_∈, ∈_all}
use Rattle.lists.specs.Ranges.{keep_append}
use Rattle.model.specs.Limits.{node_limit, quota_limit, quota_sum_limit, list_limit}
use Rattle.model.specs.Reading.{accepted, refused}
use Rattle.model.specs.Roster.{Entry, Ranking, Roster, entries, surveyor_count, stand_count, list_s, list_t, same, has, before, outside, no_entry, shifts}
use Rattle.model.specs.Roster.{listed, listed_back, distinct, ascending, entry_fits, quotas_fit, list_fits, ranking_fits, fits}
use Rattle.model_changes.specs.Changes.{without, departed, leave_on}
use Rattle.theory_files.specs.Order.{before_on}
use Rattle.theory_files.specs.Reads.{accepted_value, refuse_read, refuse_no}
use Rattle.theory_files.specs.Entries.{in_range, small}
use Rattle.theory_files.specs.ByLists.{list_short, list_range, list_distinct, ranking_list, ranking_ascends, fits_lists, lists_fit_law, Storable, storable}

-- ---- a part of a list
keep_short : {A : Type 0} (p : A → Bool) (xs : List A) → length (keep p xs) ≤ length xs
keep_short p [] = omega arith
keep_short p (x ∷ xs) = go (p x) (keep_short p xs)
  where
    go : (b : Bool) → length (keep p xs) ≤ length xs → length (cond b (x ∷ keep p xs) (keep p xs)) ≤ suc (length xs)
    go true h = omega arith
    go false h = omega arith

keep_twice : {A : Type 0} (p : A → Bool) (xs : List A) → keep p (keep p xs) ≡ keep p xs
keep_twice p xs = keep_keep p p xs ∙ keep_cong (λ x. p x && p x) p xs (λ x m. both (p x))
  where
    both : (b : Bool) → b && b ≡ b
    both true = refl
    both false = refl

-- what is behind an entry is behind every one before that
ascending_lower : (a b : Entry) (xs : List Entry) → T (before a b) → T (ascending b xs) → T (ascending a xs)
ascending_lower a b [] h t = tt
ascending_lower a b (x ∷ xs) h t =
    and_i (before a x) (ascending x xs) (before_on a b x h (and_l (before b x) (ascending x xs) t)) (and_r (before b x) (ascending x xs) t)

module _ (p : Entry → Bool) where
  -- what is not in a list is not in a part of it
  keep_out : (y : Entry) (xs : List Entry) → T (not (has y xs)) → T (not (has y (keep p xs)))
  keep_out y [] n = tt
  keep_out y (x ∷ xs) n = go (p x) (keep_out y xs (nor_r (same y x) (has y xs) n))
    where
      go : (b : Bool) → T (not (has y (keep p xs))) → T (not (has y (cond b (x ∷ keep p xs) (keep p xs))))
      go true m = subst (λ c. T (not (c || has y (keep p xs)))) (sym (T_false {b = same y x} (nor_l (same y x) (has y xs) n))) m
      go false m = m

  keep_distinct : (xs : List Entry) → T (distinct xs) → T (distinct (keep p xs))
  keep_distinct [] d = tt
  keep_distinct (x ∷ xs) d = go (p x) (keep_distinct xs (and_r (not (has x xs)) (distinct xs) d))
    where
      go : (b : Bool) → T (distinct (keep p xs)) → T (distinct (cond b (x ∷ keep p xs) (keep p xs)))
      go true k = and_i (not (has x (keep p xs))) (distinct (keep p xs)) (keep_out x xs (and_l (not (has x xs)) (distinct xs) d)) k
      go false k = k

  keep_ascending : (last : Entry) (xs : List Entry) → T (ascending last xs) → T (ascending last (keep p xs))
  keep_ascending last [] t = tt
  keep_ascending last (x ∷ xs) t =
      go (p x) (and_l (before last x) (ascending x xs) t) (keep_ascending x xs (and_r (before last x) (ascending x xs) t))
    where
      go : (b : Bool) → T (before last x) → T (ascending x (keep p xs)) → T (ascending last (cond b (x ∷ keep p xs) (keep p xs)))
      go true l k = and_i (before last x) (ascending x (keep p xs)) l k
      go false l k = ascending_lower last x (keep p xs) l k

  keep_fits : (longest count : ℕ) (xs : List Entry) → T (list_fits longest count xs) → T (list_fits longest count (keep p xs))
  keep_fits longest count xs t =
      and_i (leb (length (keep p xs)) longest) _ (le→leb (length (keep p xs)) longest (omega (arith, keep_short p xs, list_short longest count xs t)))
      (and_i (in_range count (keep p xs)) (distinct (keep p xs))
      (∈_all (entry_fits count) (keep p xs) (λ x m. all_∈ (entry_fits count) xs (list_range longest count xs t) x (∈_keep p xs m).0))
      (keep_distinct xs (list_distinct longest count xs t)))

-- ---- a stand's list
-- the entries of the others
abbrev other : ℕ → Entry → Bool
other s x = not (eqb s x.number)

abbrev pub others : ℕ → Ranking → Ranking
others s R = record { strict = without s R.strict; tied = without s R.tied }

entries_others : (s : ℕ) (R : Ranking) → entries (others s R) ≡ without s (entries R)
entries_others s R = sym (keep_append (other s) R.strict R.tied)

ranking_others : (longest count s : ℕ) (R : Ranking) → T (ranking_fits longest count R) → T (ranking_fits longest count (others s R))
ranking_others longest count s R t = and_i (list_fits longest count (entries (others s R))) (ascending no_entry (without s R.tied))
    (subst (λ xs. T (list_fits longest count xs)) (sym (entries_others s R))
    (keep_fits (other s) longest count (entries R) (ranking_list longest count R t)))
    (keep_ascending (other s) no_entry R.tied (ranking_ascends longest count R t))

-- the number is gone in every shift, the others are where they were
without_own : (y : Entry) (xs : List Entry) → has y (without y.number xs) ≡ false
without_own y [] = refl
without_own y (x ∷ xs) = go (eqb y.number x.number) refl (without_own y xs)
  where
    go : (b : Bool) → eqb y.number x.number ≡ b → has y (without y.number xs) ≡ false
        → has y (cond (not b) (x ∷ without y.number xs) (without y.number xs)) ≡ false
    go true q e = e
    go false q e = ap (λ b. b && eqb y.shift x.shift || has y (without y.number xs)) q ∙ e

without_other : (s : ℕ) (y : Entry) → y.number ≢ s → (xs : List Entry) → has y (without s xs) ≡ has y xs
without_other s y n [] = refl
without_other s y n (x ∷ xs) = by-eq s x.number
    (λ e b. ap (λ b. has y (cond (not b) (x ∷ without s xs) (without s xs))) b ∙ without_other s y n xs
    ∙ ap (λ b. b && eqb y.shift x.shift || has y xs) (sym (eqb_no y.number x.number (λ (q : y.number ≡ x.number). n (q ∙ sym e)))))
    (λ e b. ap (λ b. has y (cond (not b) (x ∷ without s xs) (without s xs))) b ∙ ap (λ z. same y x || z) (without_other s y n xs))

-- ---- one place set
set_all : {A : Type 0} (p : A → Bool) (xs : List A) (i : ℕ) (x : A) → T (p x) → T (all? p xs) → T (all? p (set xs i x))
set_all p [] i x t a = a
set_all p (y ∷ ys) zero x t a = and_i (p x) (all? p ys) t (and_r (p y) (all? p ys) a)
set_all p (y ∷ ys) (suc i) x t a =
    and_i (p y) (all? p (set ys i x)) (and_l (p y) (all? p ys) a) (set_all p ys i x t (and_r (p y) (all? p ys) a))

set_sum : (qs : List ℕ) (i : ℕ) → sum (λ x. x) (set qs i 0) ≤ sum (λ x. x) qs
set_sum [] i = omega arith
set_sum (q ∷ qs) zero = omega arith
set_sum (q ∷ qs) (suc i) = omega (arith, set_sum qs i)

quotas_set : (qs : List ℕ) (i : ℕ) → T (quotas_fit qs) → T (quotas_fit (set qs i 0))
quotas_set qs i t =
    let qs' = set qs i 0 in
    let u = and_r (leb (length qs) node_limit) _ t in
    let s = leb→le (sum (λ x. x) qs) quota_sum_limit (and_r (small qs) (leb (sum (λ x. x) qs) quota_sum_limit) u) in
    and_i (leb (length qs') node_limit) _ (subst (λ n. T (leb n node_limit)) (sym (length-set qs i 0)) (and_l (leb (length qs) node_limit) _ t))
    (and_i (small qs') (leb (sum (λ x. x) qs') quota_sum_limit) (set_all (λ q. leb q quota_limit) qs i 0 tt (and_l (small qs) _ u))
    (le→leb (sum (λ x. x) qs') quota_sum_limit (omega (arith, s, set_sum qs i))))

pub one_less : (v : ℕ) → suc v - 1 ≡ v
one_less v = omega arith

-- ---- the whole roster
module _ (r : Roster) (v : ℕ) where
  abbrev h : Roster
  h = departed r (suc v)

  -- who leaves keeps the number: there are as many surveyors and stands as before
  pub departed_counts : (surveyor_count h ≡ surveyor_count r) × (stand_count h ≡ stand_count r)
  unfolding departed
  departed_counts = (length-set r.quotas_s (suc v - 1) 0, refl)

  -- the others have the quota that they had, and list whom they listed
  pub departed_quota : (i : ℕ) → i ≢ v → get_or h.quotas_s i 0 ≡ get_or r.quotas_s i 0
  unfolding departed
  departed_quota i n = ap (λ k. get_or (set r.quotas_s k 0) i 0) (one_less v) ∙ get_or-set_other r.quotas_s v i 0 0 n

  pub listed_others : (i j k : ℕ) → i ≢ v → listed h i j k ≡ listed r i j k
  unfolding departed listed
  listed_others i j k n = ap (has (record { number = suc j; shift = k }))
      (ap (λ k. get_or (set r.lists_s k []) i []) (one_less v) ∙ get_or-set_other r.lists_s v i [] [] n)

  back_is : (i j k : ℕ) → listed_back h i j k ≡ has (record { number = suc i; shift = k }) (without (suc v) (entries (list_t r j)))
  unfolding departed listed_back
  back_is i j k =
      ap (λ R. has (record { number = suc i; shift = k }) (entries R)) (get_or-map (others (suc v)) r.lists_t j (record { strict = []; tied = [] }))
      ∙ ap (has (record { number = suc i; shift = k })) (entries_others (suc v) (list_t r j))

  back_others : (i j k : ℕ) → i ≢ v → listed_back h i j k ≡ listed_back r i j k
  unfolding listed_back
  back_others i j k n = back_is i j k
      ∙ without_other (suc v) (record { number = suc i; shift = k }) (λ (e : suc i ≡ suc v). n (omega arith)) (entries (list_t r j))

  module _ (ok : T (fits r)) (l : v < surveyor_count r) where
    -- the leaver lists nobody
    departed_list : list_s h v ≡ []
    unfolding departed
    departed_list = ap (λ k. get_or (set r.lists_s k []) v []) (one_less v)
        ∙ get_or-set_same r.lists_s v [] [] (given (fits_lists r ok).count_s (λ e. omega arith))

    pub listed_leaver : (j k : ℕ) → listed h v j k ≡ false
    unfolding listed
    listed_leaver j k = ap (has (record { number = suc j; shift = k })) departed_list

    pairs_both : (i j k : ℕ) → i < surveyor_count r → j < stand_count r → k ∈ shifts → listed h i j k ≡ listed_back h i j k
    pairs_both i j k a b c = by-eq i v
        (λ e t. subst (λ i. listed h i j k ≡ listed_back h i j k) (sym e)
        (listed_leaver j k ∙ sym (back_is v j k ∙ without_own (record { number = suc v; shift = k }) (entries (list_t r j)))))
        (λ n t. listed_others i j k n ∙ (fits_lists r ok).pairs i j k a b c ∙ sym (back_others i j k n))

    -- the roster without the leaver is within the limits
    pub fits_departed : T (fits h)
    unfolding departed
    fits_departed = given (fits_lists r ok) (λ b. given (sym departed_counts.0) (λ same. lists_fit_law h (record {
      quota_s = quotas_set r.quotas_s (suc v - 1) b.quota_s;
      quota_t = b.quota_t;
      count_s = length-set r.lists_s (suc v - 1) [] ∙ b.count_s ∙ same;
      count_t = length-map r.lists_t (others (suc v)) ∙ b.count_t;
      fit_s = set_all (list_fits list_limit (stand_count r)) r.lists_s (suc v - 1) [] tt b.fit_s;
      fit_t = subst (λ n. T (all? (ranking_fits list_limit n) h.lists_t)) same (∈_all (ranking_fits list_limit (surveyor_count r)) h.lists_t (λ Q m.
          given (Memᴰ.of_map (others (suc v)) r.lists_t m) (λ (R, k, e). subst (λ z. T (ranking_fits list_limit (surveyor_count r) z)) e
          (ranking_others list_limit (surveyor_count r) (suc v) R (all_∈ (ranking_fits list_limit (surveyor_count r)) r.lists_t b.fit_t R k)))));
      pairs = λ i j k a c d. pairs_both i j k (subst (λ n. i < n) (sym same) a) c d;
    })))

-- ---- a number that left already leaves the roster as it is
pub left_twice : (r : Roster) (s : ℕ) → departed (departed r s) s ≡ departed r s
unfolding departed
left_twice r s =
    ap₂ (λ qs ls. record { quotas_s = qs; quotas_t = r.quotas_t; lists_s = ls; lists_t = map (others s) (map (others s) r.lists_t) })
    (set-set r.quotas_s (s - 1) 0 0) (set-set r.lists_s (s - 1) [] [])
    ∙ ap (λ ts. record { quotas_s = set r.quotas_s (s - 1) 0; quotas_t = r.quotas_t; lists_s = set r.lists_s (s - 1) []; lists_t = ts }) (again r.lists_t)
  where
    again : (ts : List Ranking) → map (others s) (map (others s) ts) ≡ map (others s) ts
    again [] = refl
    again (R ∷ ts) = ap₂ (λ a b. record { strict = a; tied = b } ∷ map (others s) (map (others s) ts))
        (keep_twice (other s) R.strict) (keep_twice (other s) R.tied)
        ∙ ap (λ z. others s R ∷ z) (again ts)

-- ---- the call
-- what a leave that is not refused makes
pub record Leaves (r : Roster) (s : ℕ) (h : Roster) : Type 0 where
  pub place : ℕ
  pub number : s ≡ suc place
  pub inside : place < surveyor_count r
  pub is : h ≡ departed r (suc place)

module _ (r : Roster) (s : ℕ) (h : Roster) (e : leave_on r s ≡ accepted h) where
  pub leave_parts : Leaves r s h
  unfolding leave_on
  leave_parts = given (refuse_read (outside (surveyor_count r) s) 16 e) (λ (a, e₁).
      by_number s (nor_l (eqb s 0) (ltb (surveyor_count r) s) a) (nltb→le (surveyor_count r) s (nor_r (eqb s 0) (ltb (surveyor_count r) s) a))
      (sym (accepted_value e₁)))
    where
      by_number : (s : ℕ) → T (not (eqb s 0)) → s ≤ surveyor_count r → h ≡ departed r s → Leaves r s h
      by_number zero n l is = absurd n
      by_number (suc v) n l is = record { place = v; number = refl; inside = omega arith; is = is }

  -- the changed bytes are read to the changed roster, and fit into the buffer of a roster
  pub leave_storable : T (fits r) → Storable h
  leave_storable ok = given leave_parts (λ L. subst Storable (sym L.is) (storable (departed r (suc L.place)) (fits_departed r L.place ok L.inside)))

  -- the number is still inside, and to leave again is no change
  pub leave_again : leave_on h s ≡ accepted h
  unfolding leave_on
  leave_again = given leave_parts (λ L.
      ap (λ n. cond (outside n s) (refused 16) (accepted (departed h s))) (ap surveyor_count L.is ∙ (departed_counts r L.place).0)
      ∙ refuse_no (outside (surveyor_count r) s) 16 (accepted (departed h s)) (refuse_read (outside (surveyor_count r) s) 16 e).0
      ∙ ap accepted (ap₂ departed L.is L.number ∙ left_twice r (suc L.place) ∙ sym L.is))
