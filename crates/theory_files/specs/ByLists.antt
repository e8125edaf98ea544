-- A roster within the limits, list by list: where every list is within its limit, so are the section counts. And what a roster within the
-- limits is good for: its bytes are read back to it, and fit into the buffer of a roster.
use Rattle.std.specs.Prelude.{ℕ, ◌*◌, ◌≤◌, ◌<◌, ◌≡◌, refl, Bool, true, false, List, [], ◌∷◌, length, T, leb}
use Rattle.std.proofs.Common.{arith, sym, subst, leb→le, le→leb}
use mathlib.Core.List.Memᴰ
use Rattle.lists.specs.Test.{given, and_l, and_r, T_true}
use Rattle.lists.specs.Sum.{◌∈◌, sum, up_to, up_to_∈, up_to_<}
use Rattle.lists.specs.Keep.{all?, all_∈, ∈_all}
use Rattle.model.specs.Limits.{node_limit, entry_limit, list_limit, roster_size}
use Rattle.model.specs.Reading.{accepted}
use Rattle.model.specs.Roster.{Entry, Ranking, Roster, entries, surveyor_count, stand_count, listed, listed_back, alike, shifts, both_or_neither, no_entry}
use Rattle.model.specs.Roster.{distinct, ascending, quotas_fit, list_fits, ranking_fits, total_s, total_t, fits}
use Rattle.model.specs.RosterFile.{read_roster, write_roster}
use Rattle.theory_files.specs.Entries.{in_range}
use Rattle.theory_files.specs.Rosters.{fits_parts, parts_fit_by, write_read, roster_size_law}

-- what holds of a list within its limits
module _ (longest count : ℕ) (xs : List Entry) (t : T (list_fits longest count xs)) where
  -- it has no more entries than a list may have
  pub list_short : length xs ≤ longest
  list_short = leb→le (length xs) longest (and_l (leb (length xs) longest) _ t)

  -- its numbers and shifts are in range
  pub list_range : T (in_range count xs)
  list_range = and_l (in_range count xs) (distinct xs) (and_r (leb (length xs) longest) _ t)

  -- no entry stands in it twice
  pub list_distinct : T (distinct xs)
  list_distinct = and_r (in_range count xs) (distinct xs) (and_r (leb (length xs) longest) _ t)

-- and of a stand's list
module _ (longest count : ℕ) (R : Ranking) (t : T (ranking_fits longest count R)) where
  -- its strict and its tied entries together are a list within the limits
  pub ranking_list : T (list_fits longest count (entries R))
  ranking_list = and_l (list_fits longest count (entries R)) (ascending no_entry R.tied) t

  -- its tie ascends
  pub ranking_ascends : T (ascending no_entry R.tied)
  ranking_ascends = and_r (list_fits longest count (entries R)) (ascending no_entry R.tied) t

-- the limits but for the section counts: quotas, as many lists as nodes, each list by itself, and each pair in both lists or in neither
pub record ByLists (r : Roster) : Type 0 where
  pub quota_s : T (quotas_fit r.quotas_s)
  pub quota_t : T (quotas_fit r.quotas_t)
  pub count_s : length r.lists_s ≡ surveyor_count r
  pub count_t : length r.lists_t ≡ stand_count r
  pub fit_s : T (all? (list_fits list_limit (stand_count r)) r.lists_s)
  pub fit_t : T (all? (ranking_fits list_limit (surveyor_count r)) r.lists_t)
  pub pairs : (i j k : ℕ) → i < surveyor_count r → j < stand_count r → k ∈ shifts → listed r i j k ≡ listed_back r i j k

same_alike : (a b : Bool) → a ≡ b → T (alike a b)
same_alike true b e = subst T e tt
same_alike false true e = absurd (subst T (sym e) tt)
same_alike false false e = tt

alike_same : (a b : Bool) → T (alike a b) → a ≡ b
alike_same true b t = sym (T_true t)
alike_same false true t = absurd t
alike_same false false t = refl

-- a pair is listed by both or by neither: in one shift, in all three, with every stand
module _ (r : Roster) where
  abbrev in_shift : ℕ → ℕ → ℕ → Bool
  in_shift i j k = alike (listed r i j k) (listed_back r i j k)

  abbrev in_shifts : ℕ → ℕ → Bool
  in_shifts i j = all? (in_shift i j) shifts

  abbrev with_stands : ℕ → Bool
  with_stands i = all? (in_shifts i) (up_to (stand_count r))

-- a roster within the limits is within them list by list
pub fits_lists : (r : Roster) → T (fits r) → ByLists r
unfolding both_or_neither
fits_lists r ok = given (fits_parts r ok) (λ ((a, b, (cl, dl, el), (ct, dt, et)), n). record {
  quota_s = a;
  quota_t = b;
  count_s = cl;
  count_t = ct;
  fit_s = dl;
  fit_t = dt;
  pairs = λ i j k hi hj hk. alike_same (listed r i j k) (listed_back r i j k)
      (all_∈ (in_shift r i j) shifts
      (all_∈ (in_shifts r i) (up_to (stand_count r))
      (all_∈ (with_stands r) (up_to (surveyor_count r)) n i (up_to_∈ (surveyor_count r) i hi)) j (up_to_∈ (stand_count r) j hj)) k hk);
})

-- so many lists, none of them too long
total_small : {A : Type 0} (size : A → ℕ) (ls : List A) → ((x : A) → x ∈ ls → size x ≤ list_limit) → sum size ls ≤ list_limit * length ls
total_small size [] h = omega arith
total_small size (x ∷ ls) h = omega (arith, h x (Memᴰ.head refl), total_small size ls (λ y m. h y (Memᴰ.tail m)))

node_count : (qs : List ℕ) → T (quotas_fit qs) → length qs ≤ node_limit
node_count qs t = leb→le (length qs) node_limit (and_l (leb (length qs) node_limit) _ t)

-- list by list is enough: 32 lists of at most 32 entries have no more than 1,024
pub lists_fit_law : (r : Roster) → ByLists r → T (fits r)
unfolding both_or_neither
lists_fit_law r b =
    let ns = surveyor_count r in
    let nt = stand_count r in
    given (node_count r.quotas_s b.quota_s) (λ hs.
    given (node_count r.quotas_t b.quota_t) (λ ht.
    given (total_small length r.lists_s (λ xs m. list_short list_limit nt xs (all_∈ (list_fits list_limit nt) r.lists_s b.fit_s xs m))) (λ fewS.
    given (total_small (λ R. length (entries R)) r.lists_t (λ R m. list_short list_limit ns (entries R)
    (ranking_list list_limit ns R (all_∈ (ranking_fits list_limit ns) r.lists_t b.fit_t R m)))) (λ fewT.
    parts_fit_by (λ count. list_limit) r (
      b.quota_s,
      b.quota_t,
      (b.count_s, b.fit_s, le→leb (total_s r.lists_s) entry_limit (omega (arith, b.count_s))),
      (b.count_t, b.fit_t, le→leb (total_t r.lists_t) entry_limit (omega (arith, b.count_t))),
    )
    (∈_all (with_stands r) (up_to ns) (λ i mi. ∈_all (in_shifts r i) (up_to nt) (λ j mj. ∈_all (in_shift r i j) shifts (λ k mk.
    same_alike (listed r i j k) (listed_back r i j k) (b.pairs i j k (up_to_< ns mi) (up_to_< nt mj) mk)))))))))

-- ---- a roster that can be stored as bytes
abbrev pub Storable : Roster → Type 0
Storable h = T (fits h) × (read_roster (write_roster h) ≡ accepted h) × (length (write_roster h) ≤ roster_size)

-- every roster within the limits can be stored
pub storable : (h : Roster) → T (fits h) → Storable h
storable h t = (t, write_read h t, roster_size_law h t)
