-- Two rosters side by side, whose sums are within the limits, are a roster within the limits: so its bytes are read back to it. And the sums that
-- the check looks at: where the counts are in order, so are the section counts.
use Prim.Native.Nat.{ℕ, suc, ◌+◌, ◌-◌, ◌*◌, ◌≤◌, ◌<◌}
use Rattle.std.proofs.Common.{arith, ◌∙◌, leb→le, le→leb}
use Rattle.std.proofs.Math.Decide.{dec_lt}
use Rattle.std.specs.Prelude.{◌≡◌, refl, Bool, true, false, not, ◌||◌, length, leb, ltb}
use Rattle.std.proofs.Math.Path.{sym, ap, ap₂, subst}
use Rattle.std.proofs.Math.Logic.{by_cases}
use Rattle.std.proofs.Math.Bool.{cond}
use mathlib.Core.List.Memᴰ
use mathlib.Core.List.{List, [], ◌∷◌, ◌++◌, map}
use Rattle.std.proofs.Math.ListN.{get_or, length-append, get_or-append}
use Rattle.std.proofs.lemmas.List.{length-map}
use Rattle.std.proofs.Math.Seq.{get_or-append-add}
use Rattle.std.proofs.Math.Dec.{T, nltb→le}
use Rattle.std.proofs.Math.Arith.{le→nltb}
use Rattle.lists.specs.Test.{given, and_l, and_r, and_i, nor_l, nor_r, T_false}
use Rattle.lists.specs.Sum.{◌∈◌, sum, sum_append}
use Rattle.lists.specs.Keep.{all?, all_append, all_∈, ∈_all}
use Rattle.lists.specs.Ranges.{map_at}
use Rattle.model.specs.Limits.{node_limit, quota_limit, quota_sum_limit, entry_limit, list_limit}
use Rattle.model.specs.Roster.{Entry, Ranking, Roster, entries, surveyor_count, stand_count, list_s, list_t, has, listed, listed_back, shifts, total_s, total_t}
use Rattle.model.specs.Roster.{quotas_fit, list_fits, ranking_fits, fits}
use Rattle.model_files.specs.Districts.{list_up, ranking_up, side_by_side, quotas_past, sums_check}
use Rattle.theory_files.specs.Entries.{small}
use Rattle.theory_files.specs.RosterInstance.{list_fits_law, entries_fit, lists_count, rankings_count}
use Rattle.theory_files.specs.Cells.{within, above_out, listed_none}
use Rattle.theory_files.specs.ByLists.{list_range, fits_lists, lists_fit_law}
use Rattle.theory_renamed.specs.MovedUp.{entry_up_law, has_up, has_low, entries_up, list_more, ranking_more, list_up_law, ranking_up_law, from_one}

-- a number below a + b: of the first, or so many behind them
of_two {ℓ} : {C : Type ℓ} (a b i : ℕ) → i < a + b → (i < a → C) → ((x : ℕ) → x < b → a + x ≡ i → C) → C
of_two a b i h f g = by_cases (dec_lt i a) f (λ n. g (i - a) (omega arith) (omega arith))

abbrev no_ranking : Ranking
no_ranking = record { strict = []; tied = [] }

-- ---- the sums
-- the counts of both sides and the sums of their quotas, of two rosters together, are within the limits
pub record Room (r q : Roster) : Type 0 where
  pub count_s : surveyor_count r + surveyor_count q ≤ node_limit
  pub count_t : stand_count r + stand_count q ≤ node_limit
  pub quota_s : sum (λ x. x) r.quotas_s + sum (λ x. x) q.quotas_s ≤ quota_sum_limit
  pub quota_t : sum (λ x. x) r.quotas_t + sum (λ x. x) q.quotas_t ≤ quota_sum_limit

-- the check as it is where both rosters are within the limits: the section counts never decide
abbrev pub sums_by_counts : Roster → Roster → ℕ
sums_by_counts r q = cond (ltb node_limit (surveyor_count r + surveyor_count q) || ltb node_limit (stand_count r + stand_count q)) 2
    (cond (quotas_past r q) 3 0)

total_small : {A : Type 0} (size : A → ℕ) (ls : List A) → ((x : A) → x ∈ ls → size x ≤ list_limit) → sum size ls ≤ list_limit * length ls
total_small size [] h = omega arith
total_small size (x ∷ ls) h = omega (arith, h x (Memᴰ.head refl), total_small size ls (λ y m. h y (Memᴰ.tail m)))

module _ (r : Roster) (ok : T (fits r)) where
  total_s_small : total_s r.lists_s ≤ list_limit * surveyor_count r
  total_s_small = given (fits_lists r ok) (λ b. omega (
    arith,
    b.count_s,
    total_small length r.lists_s (λ xs m.
        leb→le (length xs) list_limit (and_l (leb (length xs) list_limit) _ (all_∈ (list_fits list_limit (stand_count r)) r.lists_s b.fit_s xs m))),
  ))

  total_t_small : total_t r.lists_t ≤ list_limit * stand_count r
  total_t_small = given (fits_lists r ok) (λ b. omega (
    arith,
    b.count_t,
    total_small (λ R. length (entries R)) r.lists_t (λ R m.
        leb→le (length (entries R)) list_limit (and_l (leb (length (entries R)) list_limit) _ (and_l (list_fits list_limit (surveyor_count r) (entries R)) _
        (all_∈ (ranking_fits list_limit (surveyor_count r)) r.lists_t b.fit_t R m)))),
  ))

module _ (r q : Roster) (okr : T (fits r)) (okq : T (fits q)) where
  abbrev ns : ℕ
  ns = surveyor_count r

  abbrev nt : ℕ
  nt = stand_count r

  abbrev ns' : ℕ
  ns' = surveyor_count q

  abbrev nt' : ℕ
  nt' = stand_count q

  abbrev J : Roster
  J = side_by_side r q

  -- of two rosters within the limits the model's check looks at the counts and the quotas alone
  pub sums_by_counts_law : sums_check r q ≡ sums_by_counts r q
  unfolding sums_check
  sums_by_counts_law = go (ltb node_limit (ns + ns')) (ltb node_limit (nt + nt')) (λ a. nltb→le node_limit (ns + ns') a) (λ b. nltb→le node_limit (nt + nt') b)
    where
      -- what is met behind 2
      rest : ℕ
      rest = cond (quotas_past r q) 3 0

      few : (a : ℕ) → a ≤ entry_limit → ltb entry_limit a ≡ false
      few a h = T_false (le→nltb entry_limit a h)

      go : (a b : Bool) → (T (not a) → ns + ns' ≤ node_limit) → (T (not b) → nt + nt' ≤ node_limit)
          → cond (a || (b || (ltb entry_limit (total_s r.lists_s + total_s q.lists_s) || ltb entry_limit (total_t r.lists_t + total_t q.lists_t)))) 2 rest
          ≡ cond (a || b) 2 rest
      go true b h k = refl
      go false true h k = refl
      go false false h k = ap₂ (λ x y. cond (x || y) 2 rest)
          (few (total_s r.lists_s + total_s q.lists_s) (omega (arith, h tt, total_s_small r okr, total_s_small q okq)))
          (few (total_t r.lists_t + total_t q.lists_t) (omega (arith, k tt, total_t_small r okr, total_t_small q okq)))

  pub no_sums : sums_check r q ≡ 0 → Room r q
  no_sums e =
      let a = ltb node_limit (ns + ns') in
      let b = ltb node_limit (nt + nt') in
      let c = ltb quota_sum_limit (sum (λ x. x) r.quotas_s + sum (λ x. x) q.quotas_s) in
      let d = ltb quota_sum_limit (sum (λ x. x) r.quotas_t + sum (λ x. x) q.quotas_t) in
      given (none (a || b) (c || d) (sym sums_by_counts_law ∙ e)) (λ (u, v). record {
        count_s = nltb→le node_limit _ (nor_l a b u);
        count_t = nltb→le node_limit _ (nor_r a b u);
        quota_s = nltb→le quota_sum_limit _ (nor_l c d v);
        quota_t = nltb→le quota_sum_limit _ (nor_r c d v);
      })
    where
      none : (a b : Bool) → ◌≡◌ {A = ℕ} (cond a 2 (cond b 3 0)) 0 → T (not a) × T (not b)
      none true b e = absurd (let z : ⊥ = omega arith in z)
      none false true e = absurd (let z : ⊥ = omega arith in z)
      none false false e = (tt, tt)

  -- ---- the counts and the lists
  -- the joined roster has as many surveyors and stands as both together
  pub joined_counts : (surveyor_count J ≡ ns + ns') × (stand_count J ≡ nt + nt')
  unfolding side_by_side
  joined_counts = (length-append r.quotas_s q.quotas_s, length-append r.quotas_t q.quotas_t)

  pub first_list : (i : ℕ) → i < ns → list_s J i ≡ list_s r i
  unfolding side_by_side
  first_list i l = get_or-append r.lists_s (map (list_up nt) q.lists_s) [] i (omega (arith, lists_count r okr))

  pub second_list : (i : ℕ) → i < ns' → list_s J (ns + i) ≡ list_up nt (list_s q i)
  unfolding side_by_side
  second_list i l = ap (λ n. get_or (r.lists_s ++ map (list_up nt) q.lists_s) (n + i) []) (sym (lists_count r okr))
      ∙ get_or-append-add r.lists_s (map (list_up nt) q.lists_s) i []
      ∙ map_at (list_up nt) q.lists_s i [] [] (omega (arith, lists_count q okq))

  pub first_ranking : (j : ℕ) → j < nt → list_t J j ≡ list_t r j
  unfolding side_by_side
  first_ranking j l = get_or-append r.lists_t (map (ranking_up ns) q.lists_t) no_ranking j (omega (arith, rankings_count r okr))

  pub second_ranking : (j : ℕ) → j < nt' → list_t J (nt + j) ≡ ranking_up ns (list_t q j)
  unfolding side_by_side
  second_ranking j l = ap (λ n. get_or (r.lists_t ++ map (ranking_up ns) q.lists_t) (n + j) no_ranking) (sym (rankings_count r okr))
      ∙ get_or-append-add r.lists_t (map (ranking_up ns) q.lists_t) j no_ranking
      ∙ map_at (ranking_up ns) q.lists_t j no_ranking no_ranking (omega (arith, rankings_count q okq))

  -- ---- which pairs are listed: the first's and the second's, and none across
  pub listed_first : (i j k : ℕ) → i < ns → listed J i j k ≡ listed r i j k
  unfolding listed
  listed_first i j k l = ap (has (record { number = suc j; shift = k })) (first_list i l)

  pub listed_second : (i j k : ℕ) → i < ns' → listed J (ns + i) (nt + j) k ≡ listed q i j k
  unfolding listed
  listed_second i j k l = ap₂ has (entry_up_law nt j k) (second_list i l) ∙ has_up nt (record { number = suc j; shift = k }) (list_s q i)

  pub listed_across : (i j k : ℕ) → i < ns' → j < nt → listed J (ns + i) j k ≡ false
  unfolding listed
  listed_across i j k l m = ap (has (record { number = suc j; shift = k })) (second_list i l)
      ∙ has_low nt (record { number = suc j; shift = k }) (list_s q i) (omega arith)
      (from_one nt' (list_s q i) (list_range list_limit nt' (list_s q i) (list_fits_law q okq i l)))

  back_first : (i j k : ℕ) → j < nt → listed_back J i j k ≡ listed_back r i j k
  unfolding listed_back
  back_first i j k l = ap (λ R. has (record { number = suc i; shift = k }) (entries R)) (first_ranking j l)

  back_second : (i j k : ℕ) → j < nt' → listed_back J (ns + i) (nt + j) k ≡ listed_back q i j k
  unfolding listed_back
  back_second i j k l = ap₂ (λ x R. has x (entries R)) (entry_up_law ns i k) (second_ranking j l)
      ∙ ap (has _) (entries_up ns (list_t q j)) ∙ has_up ns (record { number = suc i; shift = k }) (entries (list_t q j))

  back_across : (i j k : ℕ) → i < ns → j < nt' → listed_back J i (nt + j) k ≡ false
  unfolding listed_back
  back_across i j k l m =
      let x : Entry = record { number = suc i; shift = k } in
      ap (λ R. has x (entries R)) (second_ranking j m) ∙ ap (has x) (entries_up ns (list_t q j))
      ∙ has_low ns x (entries (list_t q j)) (omega arith)
      (from_one ns' (entries (list_t q j)) (list_range list_limit ns' (entries (list_t q j)) (entries_fit q okq j m)))

  -- the first's stands list none of the second's surveyors
  back_none : (i j k : ℕ) → j < nt → ns ≤ i → listed_back r i j k ≡ false
  unfolding listed_back
  back_none i j k l h = above_out ns (record { number = suc i; shift = k }) (omega arith) (entries (list_t r j))
      (within ns ns (omega arith) (entries (list_t r j)) (list_range list_limit ns (entries (list_t r j)) (entries_fit r okr j l)))

  pairs_both : (i j k : ℕ) → i < ns + ns' → j < nt + nt' → k ∈ shifts → listed J i j k ≡ listed_back J i j k
  pairs_both i j k hi hj hk = of_two ns ns' i hi
      (λ l. of_two nt nt' j hj
      (λ m. listed_first i j k l ∙ (fits_lists r okr).pairs i j k l m hk ∙ sym (back_first i j k m))
      (λ y m e. subst (λ j. listed J i j k ≡ listed_back J i j k) e
      (listed_first i (nt + y) k l ∙ listed_none r okr i (nt + y) k l (omega arith) ∙ sym (back_across i y k l m))))
      (λ x l d. of_two nt nt' j hj
      (λ m. subst (λ i. listed J i j k ≡ listed_back J i j k) d
      (listed_across x j k l m ∙ sym (back_first (ns + x) j k m ∙ back_none (ns + x) j k m (omega arith))))
      (λ y m e. subst (λ i. listed J i j k ≡ listed_back J i j k) d (subst (λ j. listed J (ns + x) j k ≡ listed_back J (ns + x) j k) e
      (listed_second x y k l ∙ (fits_lists q okq).pairs x y k l m hk ∙ sym (back_second x y k m)))))

  -- ---- within the limits
  quotas_both : (xs ys : List ℕ) → T (quotas_fit xs) → T (quotas_fit ys) → length xs + length ys ≤ node_limit
      → sum (λ x. x) xs + sum (λ x. x) ys ≤ quota_sum_limit → T (quotas_fit (xs ++ ys))
  quotas_both xs ys t u l s =
      and_i (leb (length (xs ++ ys)) node_limit) _ (le→leb (length (xs ++ ys)) node_limit (omega (arith, length-append xs ys)))
      (and_i (small (xs ++ ys)) (leb (sum (λ x. x) (xs ++ ys)) quota_sum_limit)
      (subst T (sym (all_append (λ x. leb x quota_limit) xs ys)) (and_i (small xs) (small ys)
      (and_l (small xs) _ (and_r (leb (length xs) node_limit) _ t)) (and_l (small ys) _ (and_r (leb (length ys) node_limit) _ u))))
      (le→leb (sum (λ x. x) (xs ++ ys)) quota_sum_limit (omega (arith, sum_append (λ x. x) xs ys))))

  -- all of one list, and all of another after a map
  all_both : {A : Type 0} (p s t : A → Bool) (f : A → A) (xs ys : List A) → ((x : A) → T (s x) → T (p x)) → ((y : A) → T (t y) → T (p (f y)))
      → T (all? s xs) → T (all? t ys) → T (all? p (xs ++ map f ys))
  all_both p s t f xs ys a b u v = subst T (sym (all_append p xs (map f ys))) (and_i (all? p xs) (all? p (map f ys))
      (∈_all p xs (λ x m. a x (all_∈ s xs u x m))) (mapped ys v))
    where
      mapped : (ys : List _) → T (all? t ys) → T (all? p (map f ys))
      mapped [] v = tt
      mapped (y ∷ ys) v = and_i (p (f y)) (all? p (map f ys)) (b y (and_l (t y) (all? t ys) v)) (mapped ys (and_r (t y) (all? t ys) v))

  lists_length : {A : Type 0} (f : A → A) (xs ys : List A) → length (xs ++ map f ys) ≡ length xs + length ys
  lists_length f xs ys = length-append xs (map f ys) ∙ ap (λ n. length xs + n) (length-map ys f)

  -- where there is room for both, the two side by side are a roster within the limits
  pub fits_joined : Room r q → T (fits J)
  unfolding side_by_side
  fits_joined room = given (fits_lists r okr) (λ a. given (fits_lists q okq) (λ b. lists_fit_law J (record {
    quota_s = quotas_both r.quotas_s q.quotas_s a.quota_s b.quota_s room.count_s room.quota_s;
    quota_t = quotas_both r.quotas_t q.quotas_t a.quota_t b.quota_t room.count_t room.quota_t;
    count_s = lists_length (list_up nt) r.lists_s q.lists_s ∙ ap₂ ◌+◌ a.count_s b.count_s ∙ sym joined_counts.0;
    count_t = lists_length (ranking_up ns) r.lists_t q.lists_t ∙ ap₂ ◌+◌ a.count_t b.count_t ∙ sym joined_counts.1;
    fit_s = subst (λ n. T (all? (list_fits list_limit n) J.lists_s)) (sym joined_counts.1)
        (all_both (list_fits list_limit (nt + nt')) (list_fits list_limit nt) (list_fits list_limit nt') (list_up nt) r.lists_s q.lists_s
        (list_more nt (nt + nt') (omega arith)) (list_up_law nt nt') a.fit_s b.fit_s);
    fit_t = subst (λ n. T (all? (ranking_fits list_limit n) J.lists_t)) (sym joined_counts.0)
        (all_both (ranking_fits list_limit (ns + ns')) (ranking_fits list_limit ns) (ranking_fits list_limit ns') (ranking_up ns) r.lists_t q.lists_t
        (ranking_more ns (ns + ns') (omega arith)) (ranking_up_law ns ns') a.fit_t b.fit_t);
    pairs = λ i j k l m s. pairs_both i j k (subst (λ n. i < n) joined_counts.0 l) (subst (λ n. j < n) joined_counts.1 m) s;
  })))
