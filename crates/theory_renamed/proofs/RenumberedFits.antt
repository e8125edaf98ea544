-- The theorems that rest on specs/RenumberedFits.antt. They stand here so that a wrong definition there is refused by a proof.
use Prim.Native.Nat.{ℕ, suc, ◌-◌, ◌<◌}
use Rattle.std.proofs.Common.{arith, ◌∙◌, ext_get_or}
use Rattle.std.specs.Prelude.{◌≡◌, Bool, not, get_or}
use Rattle.std.proofs.Math.Path.{refl, sym, ap, ap₂, subst}
use mathlib.Core.List.Memᴰ
use mathlib.Core.List.{List, [], ◌∷◌, map, map-map}
use Rattle.std.proofs.Math.ListN.{length, length-map}
use Rattle.std.proofs.Math.Dec.{T, leb}
use Rattle.lists.specs.Test.{given, and_l, and_r, and_i}
use Rattle.lists.specs.Sum.{◌∈◌, sum, sum_cong, sum_map, up_to, up_to_<}
use Rattle.lists.specs.Keep.{all?, all_∈, get_d_∈}
use Rattle.lists.specs.Ranges.{map_at}
use Rattle.model.specs.Limits.{node_limit, quota_limit, quota_sum_limit, list_limit}
use Rattle.model.specs.Roster.{Entry, Ranking, Roster, entries, surveyor_count, stand_count, has, listed_back}
use Rattle.model.specs.Roster.{distinct, entry_fits, quotas_fit, list_fits, ranking_fits, total_s, total_t, fits}
use Rattle.model_files.specs.Routes.{new_number, entry_by, renumbered, way_back}
use Rattle.theory_files.specs.EdgeCount.{sum_by_place}
use Rattle.theory_files.specs.Entries.{in_range, in_range_law, range_in, small}
use Rattle.theory_files.specs.RosterInstance.{rankings_count}
use Rattle.theory_files.specs.ByLists.{list_range, list_distinct, fits_lists, lists_fit_law}
use Rattle.theory_renamed.proofs.Numberings.{sum_back}
use Rattle.theory_renamed.specs.RouteNumbers.{Names, number_pos, number_most, new_place, old_place, new_suc, places}
use Rattle.theory_renamed.specs.RouteNumbers.{back_at, back_names}
use Rattle.theory_renamed.proofs.RouteNumbers.{number_back}
use Rattle.theory_renamed.specs.RenumberedFits.{has_by, listed_renumbered, ordered_at, ordered_count, ranking_renumbered, renumbered_counts}

abbrev no_ranking : Ranking
no_ranking = record { strict = []; tied = [] }

map_same : {A : Type 0} (f : A → A) (xs : List A) → ((x : A) → x ∈ xs → f x ≡ x) → map f xs ≡ xs
map_same f [] h = refl
map_same f (x ∷ xs) h = ap₂ ◌∷◌ (h x (Memᴰ.head refl)) (map_same f xs (λ y m. h y (Memᴰ.tail m)))

module _ (route : List ℕ) (n : ℕ) (N : Names route n) {A : Type 0} (d : A) (xs : List A) (l : length xs ≡ n) where
  abbrev ordered : List A
  ordered = map (λ t. get_or xs (t - 1) d) route

  ordered_sum : (f : A → ℕ) → sum f ordered ≡ sum f xs
  ordered_sum f =
      let g : ℕ → ℕ = λ i. f (get_or xs i d) in
      given (places route n N) (λ P.
      sym (sum_by_place f d ordered) ∙ ap (λ k. sum (λ i. f (get_or ordered i d)) (up_to k)) (ordered_count route n N {A = A} d xs l)
      ∙ sum_cong (λ i. f (get_or ordered i d)) (λ i. g (old_place route n N i)) (up_to n) (λ i m. ap f (ordered_at route n N {A = A} d xs l i (up_to_< n m)))
      ∙ sum_back n (old_place route n N) (new_place route n N) (record { into = P.back; back = P.into; there = P.here; here = P.there }) g
      ∙ ap (λ k. sum g (up_to k)) (sym l) ∙ sum_by_place f d xs)

  ordered_all : (p : A → Bool) → T (all? p xs) → T (all? p ordered)
  ordered_all p t = all_mapped route (λ s m. given (N.inside s m) (λ (a, b). all_∈ p xs t (get_or xs (s - 1) d) (get_d_∈ xs (s - 1) d (omega (arith, l)))))
    where
      all_mapped : (ts : List ℕ) → ((s : ℕ) → s ∈ ts → T (p (get_or xs (s - 1) d))) → T (all? p (map (λ t. get_or xs (t - 1) d) ts))
      all_mapped [] h = tt
      all_mapped (s ∷ ts) h = and_i (p (get_or xs (s - 1) d)) (all? p (map (λ t. get_or xs (t - 1) d) ts)) (h s (Memᴰ.head refl))
          (all_mapped ts (λ y m. h y (Memᴰ.tail m)))

  -- in the order of the way back it is as it was
  ordered_back : map (λ t. get_or ordered (t - 1) d) (way_back route) ≡ xs
  ordered_back = ext_get_or d (map (λ t. get_or ordered (t - 1) d) (way_back route)) xs
      (length-map (way_back route) (λ t. get_or ordered (t - 1) d) ∙ (back_names route n N).count ∙ sym l)
      (λ j h. given (subst (λ m. j < m) (length-map (way_back route) (λ t. get_or ordered (t - 1) d) ∙ (back_names route n N).count) h) (λ k.
      map_at (λ t. get_or ordered (t - 1) d) (way_back route) j 0 d (subst (λ m. j < m) (sym (back_names route n N).count) k)
      ∙ ap (λ z. get_or ordered (z - 1) d) (back_at route n N j k)
      ∙ ordered_at route n N {A = A} d xs l (new_place route n N j) ((places route n N).into j k)
      ∙ ap (λ i. get_or xs i d) ((places route n N).here j k)))

module _ (route : List ℕ) (n : ℕ) (N : Names route n) where
  abbrev by_route : List Entry → List Entry
  by_route xs = map (entry_by route) xs

  range_by : (xs : List Entry) → T (in_range n xs) → T (in_range n (by_route xs))
  range_by [] t = tt
  range_by (x ∷ xs) t = and_i (entry_fits n (entry_by route x)) (in_range n (by_route xs))
      (given (in_range_law n x (and_l (entry_fits n x) (in_range n xs) t)) (λ (a, b, c, d).
      range_in n (entry_by route x) (number_pos route x.number) (number_most route n N x.number a b) c d))
      (range_by xs (and_r (entry_fits n x) (in_range n xs) t))

  distinct_by : (xs : List Entry) → T (in_range n xs) → T (distinct xs) → T (distinct (by_route xs))
  distinct_by [] t u = tt
  distinct_by (x ∷ xs) t u = given (in_range_law n x (and_l (entry_fits n x) (in_range n xs) t)) (λ (a, b, c, d).
      let v = x.number - 1 in
      let e : suc (x.number - 1) ≡ x.number = omega arith in
      let l : x.number - 1 < n = omega arith in
      given (new_suc route n N v ∙ ap (new_number route) e) (λ new.
      given (ap suc ((places route n N).here v l) ∙ e) (λ old.
      and_i (not (has (entry_by route x) (by_route xs))) (distinct (by_route xs))
      (subst (λ z. T (not z)) (sym (ap (λ y. has (record { number = y; shift = x.shift }) (by_route xs)) (sym new)
      ∙ has_by route n N (new_place route n N v) x.shift ((places route n N).into v l) xs (and_r (entry_fits n x) (in_range n xs) t)
      ∙ ap (λ y. has (record { number = y; shift = x.shift }) xs) old)) (and_l (not (has x xs)) (distinct xs) u))
      (distinct_by xs (and_r (entry_fits n x) (in_range n xs) t) (and_r (not (has x xs)) (distinct xs) u)))))

  list_by_law : (xs : List Entry) → T (list_fits list_limit n xs) → T (list_fits list_limit n (by_route xs))
  list_by_law xs t = and_i (leb (length (by_route xs)) list_limit) _
      (subst (λ k. T (leb k list_limit)) (sym (length-map xs (entry_by route))) (and_l (leb (length xs) list_limit) _ t))
      (and_i (in_range n (by_route xs)) (distinct (by_route xs)) (range_by xs (list_range list_limit n xs t))
      (distinct_by xs (list_range list_limit n xs t) (list_distinct list_limit n xs t)))

  lists_by : (ls : List (List Entry)) → T (all? (list_fits list_limit n) ls) → T (all? (list_fits list_limit n) (map by_route ls))
  lists_by [] t = tt
  lists_by (xs ∷ ls) t = and_i (list_fits list_limit n (by_route xs)) (all? (list_fits list_limit n) (map by_route ls))
      (list_by_law xs (and_l (list_fits list_limit n xs) (all? (list_fits list_limit n) ls) t))
      (lists_by ls (and_r (list_fits list_limit n xs) (all? (list_fits list_limit n) ls) t))

  -- by the way back each entry is as it was
  entry_back : (x : Entry) → T (entry_fits n x) → entry_by (way_back route) (entry_by route x) ≡ x
  entry_back x t = given (in_range_law n x t) (λ (a, b, c, d).
      ap {B = Entry} (λ z. record { number = z; shift = x.shift }) (number_back route n N x.number a b))

  list_back : (xs : List Entry) → T (in_range n xs) → map (entry_by (way_back route)) (by_route xs) ≡ xs
  list_back xs t = map-map (entry_by (way_back route)) (entry_by route) xs
      ∙ map_same (λ x. entry_by (way_back route) (entry_by route x)) xs (λ x m. entry_back x (all_∈ (entry_fits n) xs t x m))

  lists_back : (ls : List (List Entry)) → T (all? (list_fits list_limit n) ls) → map (map (entry_by (way_back route))) (map by_route ls) ≡ ls
  lists_back ls t = map-map (map (entry_by (way_back route))) by_route ls
      ∙ map_same (λ xs. map (entry_by (way_back route)) (by_route xs)) ls
      (λ xs m. list_back xs (list_range list_limit n xs (all_∈ (list_fits list_limit n) ls t xs m)))

module _ (route : List ℕ) (r : Roster) (ok : T (fits r)) (N : Names route (stand_count r)) where
  abbrev n : ℕ
  n = stand_count r

  abbrev H : Roster
  H = renumbered route r

  abbrev old : ℕ → ℕ
  old = old_place route n N

  back_renumbered : (i j k : ℕ) → j < n → listed_back H i j k ≡ listed_back r i (old j) k
  unfolding listed_back
  back_renumbered i j k m = ap (λ R. has (record { number = suc i; shift = k }) (entries R)) (ranking_renumbered route r ok N j m)

  quotas_fit_law : T (quotas_fit r.quotas_t) → T (quotas_fit H.quotas_t)
  unfolding renumbered
  quotas_fit_law t =
      let qt = r.quotas_t in
      and_i (leb (stand_count H) node_limit) _ (subst (λ k. T (leb k node_limit)) (sym (renumbered_counts route r ok N).1) (and_l (leb n node_limit) _ t))
      (and_i (small H.quotas_t) (leb (sum (λ x. x) H.quotas_t) quota_sum_limit)
      (ordered_all route n N 0 qt refl (λ x. leb x quota_limit) (and_l (small qt) _ (and_r (leb n node_limit) _ t)))
      (subst (λ k. T (leb k quota_sum_limit)) (sym (ordered_sum route n N 0 qt refl (λ x. x)))
      (and_r (small qt) (leb (sum (λ x. x) qt) quota_sum_limit) (and_r (leb n node_limit) _ t))))

  -- the renumbered roster is within the limits
  pub fits_renumbered : T (fits H)
  unfolding renumbered
  fits_renumbered = given (fits_lists r ok) (λ b. lists_fit_law H (record {
    quota_s = b.quota_s;
    quota_t = quotas_fit_law b.quota_t;
    count_s = length-map r.lists_s (map (entry_by route)) ∙ b.count_s;
    count_t = ordered_count route n N no_ranking r.lists_t b.count_t ∙ sym (renumbered_counts route r ok N).1;
    fit_s = subst (λ m. T (all? (list_fits list_limit m) H.lists_s)) (sym (renumbered_counts route r ok N).1) (lists_by route n N r.lists_s b.fit_s);
    fit_t = ordered_all route n N no_ranking r.lists_t b.count_t (ranking_fits list_limit (surveyor_count r)) b.fit_t;
    pairs = λ i j k hi hj hk. given (subst (λ m. j < m) (renumbered_counts route r ok N).1 hj) (λ l.
        (listed_renumbered route r ok N) i j k hi l ∙ b.pairs i (old j) k hi ((places route n N).back j l) hk ∙ sym (back_renumbered i j k l));
  }))

  -- as many entries on both sides
  pub totals_renumbered : (total_s H.lists_s ≡ total_s r.lists_s) × (total_t H.lists_t ≡ total_t r.lists_t)
  unfolding renumbered
  totals_renumbered = (
    sum_map length (map (entry_by route)) r.lists_s
        ∙ sum_cong (λ xs. length (map (entry_by route) xs)) length r.lists_s (λ xs m. length-map xs (entry_by route)),
    ordered_sum route n N no_ranking r.lists_t (rankings_count r ok) (λ R. length (entries R)),
  )

  -- "unstoring gives the original"
  pub renumbered_back : renumbered (way_back route) H ≡ r
  unfolding renumbered
  renumbered_back = given (fits_lists r ok) (λ b.
      let qt = ordered_back route n N 0 r.quotas_t refl in
      let ls = lists_back route n N r.lists_s b.fit_s in
      let ts = ordered_back route n N no_ranking r.lists_t b.count_t in
      λ i. record { quotas_s = r.quotas_s; quotas_t = qt i; lists_s = ls i; lists_t = ts i })
