-- The instance of a roster within the limits is lawful, and two of its edges with the same ends and the same shift are one.
use Rattle.std.specs.Prelude.{ℕ, suc, ◌+◌, ◌≤◌, ◌<◌, ◌≡◌, refl, ◌⊎◌, Bool, true, false, not, ◌||◌, List, [], ◌∷◌, ◌++◌, length, get_or}
use Rattle.std.proofs.Common.{arith, ◌∙◌, ⊎_elim, length-append, leb→le, T_not}
use Rattle.std.proofs.Math.Nat.{suc_inj}
use Rattle.std.proofs.Math.Decide.{dec_lt}
use Rattle.std.proofs.Math.Path.{sym, ap, subst}
use Rattle.std.proofs.Math.Logic.{by_cases}
use Rattle.std.proofs.Math.ListN.{get_or-eq_default}
use Rattle.std.proofs.Math.Dec.{T, leb}
use Rattle.lists.specs.Test.{given, and_l, and_r, or_case, or_r}
use Rattle.lists.specs.Sum.{sum, sum_places, up_to, up_to_∈, range_∈}
use Rattle.lists.specs.Keep.{all?, all_∈, any_append, get_d_∈}
use Rattle.model.specs.Limits.{node_limit, list_limit, shift_limit, quota_limit, quota_sum_limit, plan_limit, empty_rank}
use Rattle.model.specs.Roster.{Entry, Roster, entries, surveyor_count, stand_count, list_s, list_t, same, has, no_entry, distinct, entry_fits, listed}
use Rattle.model.specs.Roster.{listed_back, alike, shifts, both_or_neither, list_fits, ranking_fits, fits, ascending}
use Rattle.model.specs.Edges.{Edge, position, edges_of, no_edge, edge_at, instance_of}
use Rattle.theory_instance.specs.Lawful.{Lawful}
use Rattle.theory_files.specs.Rosters.{fits_parts}
use Rattle.theory_files.specs.Position.{same→eq, position_in_law, position_out, position_≤, position_same}
use Rattle.theory_files.specs.PlanFiles.{Fileable}
use Rattle.theory_files.specs.Ascending.{IsEdge, edge_is, edges_ascend, ends_differ}

same_bool : (a b : Bool) → T (alike a b) → T a → T b
same_bool true b t s = t
same_bool false b t s = absurd s

-- an entry of the second part of a list without repeats is not in the first
distinct_apart : (x : Entry) (xs ys : List Entry) → T (distinct (xs ++ ys)) → T (has x ys) → T (not (has x xs))
distinct_apart x [] ys d t = tt
distinct_apart x (y ∷ xs) ys d t = go (same x y) refl (distinct_apart x xs ys (and_r (not (has y (xs ++ ys))) (distinct (xs ++ ys)) d) t)
  where
    here : x ≡ y → T (has y (xs ++ ys))
    here e = subst (λ z. T (has z (xs ++ ys))) e (subst T (sym (any_append (same x) xs ys)) (or_r (has x xs) (has x ys) t))

    go : (b : Bool) → same x y ≡ b → T (not (has x xs)) → T (not (b || has x xs))
    go true e n = T_not (has y (xs ++ ys)) (and_l (not (has y (xs ++ ys))) (distinct (xs ++ ys)) d) (here (same→eq x y (subst T (sym e) tt)))
    go false e n = n

module _ (r : Roster) (ok : T (fits r)) where
  abbrev ns : ℕ
  ns = surveyor_count r

  abbrev nt : ℕ
  nt = stand_count r

  -- the limits, list by list
  pub ns_small : ns ≤ node_limit
  ns_small = given (fits_parts r ok) (λ ((q, u, l, v), n). leb→le ns node_limit (and_l (leb ns node_limit) _ q))

  -- at most 32 stands
  pub nt_small : nt ≤ node_limit
  nt_small = given (fits_parts r ok) (λ ((q, u, l, v), n). leb→le nt node_limit (and_l (leb nt node_limit) _ u))

  -- a list for each surveyor
  pub lists_count : length r.lists_s ≡ ns
  lists_count = given (fits_parts r ok) (λ ((q, u, (l, a, k), v), n). l)

  -- a list for each stand
  pub rankings_count : length r.lists_t ≡ nt
  rankings_count = given (fits_parts r ok) (λ ((q, u, v, (l, a, k)), n). l)

  -- each surveyor's list is within its limits
  pub list_fits_law : (i : ℕ) → i < ns → T (list_fits list_limit nt (list_s r i))
  list_fits_law i h = given (fits_parts r ok) (λ ((q, u, (l, a, k), v), n).
      all_∈ (list_fits list_limit nt) r.lists_s a (list_s r i) (get_d_∈ r.lists_s i [] (omega arith)))

  ranking_fits_law : (j : ℕ) → j < nt → T (ranking_fits list_limit ns (list_t r j))
  ranking_fits_law j h = given (fits_parts r ok) (λ ((q, u, v, (l, a, k)), n).
      all_∈ (ranking_fits list_limit ns) r.lists_t a (list_t r j) (get_d_∈ r.lists_t j (record { strict = []; tied = [] }) (omega arith)))

  back : (i j k : ℕ) → i < ns → j < nt → 1 ≤ k → k ≤ shift_limit → T (listed r i j k) → T (listed_back r i j k)
  unfolding both_or_neither
  back i j k hi hj h₁ h₂ t = given (fits_parts r ok) (λ (p, n). same_bool (listed r i j k) (listed_back r i j k)
      (all_∈ (λ k. alike (listed r i j k) (listed_back r i j k)) shifts
      (all_∈ (λ j. all? (λ k. alike (listed r i j k) (listed_back r i j k)) shifts) (up_to nt)
      (all_∈ (λ i. all? (λ j. all? (λ k. alike (listed r i j k) (listed_back r i j k)) shifts) (up_to nt)) (up_to ns) n i (up_to_∈ ns i hi)) j
      (up_to_∈ nt j hj)) k (range_∈ shift_limit 1 k h₁ (omega arith))) t)

  list_length : (i : ℕ) → i < ns → length (list_s r i) ≤ list_limit
  list_length i h = leb→le (length (list_s r i)) list_limit (and_l (leb (length (list_s r i)) list_limit) _ (list_fits_law i h))

  abbrev S : ℕ → List Entry
  S j = (list_t r j).strict

  abbrev D : ℕ → List Entry
  D j = (list_t r j).tied

  -- the strict and the tied entries of each stand together are a list within its limits
  pub entries_fit : (j : ℕ) → j < nt → T (list_fits list_limit ns (entries (list_t r j)))
  entries_fit j h = and_l (list_fits list_limit ns (entries (list_t r j))) (ascending no_entry (D j)) (ranking_fits_law j h)

  -- a stand has at most 32 entries, the strict and the tied ones together
  pub strict_length_law : (j : ℕ) → j < nt → length (S j) + length (D j) ≤ list_limit
  strict_length_law j h = subst (λ k. k ≤ list_limit) (length-append (S j) (D j))
      (leb→le (length (entries (list_t r j))) list_limit (and_l (leb (length (entries (list_t r j))) list_limit) _ (entries_fit j h)))

  distinct_entries : (j : ℕ) → j < nt → T (distinct (S j ++ D j))
  distinct_entries j h = and_r (all? (entry_fits ns) (S j ++ D j)) (distinct (S j ++ D j))
      (and_r (leb (length (entries (list_t r j))) list_limit) _ (entries_fit j h))

  -- ---- an edge by its number
  abbrev es : List Edge
  es = edges_of r

  at : (e : ℕ) → e < length es → IsEdge r (edge_at es e)
  at e h = edge_is r (edge_at es e) (get_d_∈ es e no_edge h)

  -- the entry of an edge in its surveyor's list, in its stand's
  abbrev of_s : (x : Edge) → IsEdge r x → Entry
  of_s x a = record { number = suc a.j; shift = a.k }

  abbrev of_t : (x : Edge) → IsEdge r x → Entry
  of_t x a = record { number = suc a.i; shift = a.k }

  -- ---- surveyors: the rank is a place in a list without repeats
  placed_s_law : (x : Edge) (a : IsEdge r x) → x.rank_s < empty_rank
  unfolding listed
  placed_s_law x a = subst (λ z. z.rank_s < empty_rank) (sym a.is) (omega (arith, position_in_law (of_s x a) (list_s r a.i) a.pair, list_length a.i a.i_in))

  same_s : (x y : Edge) (a : IsEdge r x) (b : IsEdge r y) → x.surveyor ≡ y.surveyor → x.rank_s ≡ y.rank_s → (x.stand ≡ y.stand) × (x.shift ≡ y.shift)
  unfolding listed
  same_s x y a b s k =
      let i : a.i ≡ b.i = sym (ap (λ z. z.surveyor) a.is) ∙ s ∙ ap (λ z. z.surveyor) b.is in
      let p : position (of_s x a) (list_s r a.i) ≡ position (of_s y b) (list_s r b.i) = sym (ap (λ z. z.rank_s) a.is) ∙ k ∙ ap (λ z. z.rank_s) b.is in
      let q : of_s x a ≡ of_s y b = position_same (of_s x a) (of_s y b) (list_s r a.i) a.pair (p ∙ ap (λ z. position (of_s y b) (list_s r z)) (sym i)) in (
        ap (λ z. z.stand) a.is ∙ suc_inj (ap (λ z. z.number) q) ∙ sym (ap (λ z. z.stand) b.is),
        ap (λ z. z.shift) a.is ∙ ap (λ z. z.shift) q ∙ sym (ap (λ z. z.shift) b.is),
      )

  -- ---- stands: strict entries by their place, tied ones behind them
  -- the entry of an edge in its stand's list is a strict one or a tied one
  pub strict_or_tied : (x : Edge) (a : IsEdge r x) → T (has (of_t x a) (S a.j)) ⊎ T (has (of_t x a) (D a.j))
  unfolding listed_back
  strict_or_tied x a = or_case (has (of_t x a) (S a.j)) (has (of_t x a) (D a.j))
      (subst T (any_append (same (of_t x a)) (S a.j) (D a.j)) (back a.i a.j a.k a.i_in a.j_in a.k_from a.k_in a.pair))

  -- a tied entry of a stand is not among its strict ones
  pub tied_not_strict : (x : Entry) (j : ℕ) → j < nt → T (has x (D j)) → T (not (has x (S j)))
  tied_not_strict x j h t = distinct_apart x (S j) (D j) (distinct_entries j h) t

  some_length : (x : Entry) (xs : List Entry) → T (has x xs) → 0 < length xs
  some_length x [] t = absurd t
  some_length x (y ∷ xs) t = omega arith

  placed_t_law : (x : Edge) (a : IsEdge r x) → x.rank_t < empty_rank
  placed_t_law x a = subst (λ z. z.rank_t < empty_rank) (sym a.is) (⊎_elim
      (λ s. omega (arith, position_in_law (of_t x a) (S a.j) s, strict_length_law a.j a.j_in))
      (λ d. omega (arith, position_≤ (of_t x a) (S a.j), some_length (of_t x a) (D a.j) d, strict_length_law a.j a.j_in))
      (strict_or_tied x a))

  strict_in : (x : Edge) (a : IsEdge r x) → T (not x.tied) → T (has (of_t x a) (S a.j))
  strict_in x a n = ⊎_elim (λ s. s) (λ d. absurd (T_not (has (of_t x a) (D a.j)) (subst (λ z. T (not z.tied)) a.is n) d)) (strict_or_tied x a)

  tied_last : (x : Edge) (a : IsEdge r x) → T x.tied → x.rank_t ≡ suc (length (S a.j))
  tied_last x a t = ap (λ z. z.rank_t) a.is
      ∙ position_out (of_t x a) (S a.j) (tied_not_strict (of_t x a) a.j a.j_in (subst (λ z. T z.tied) a.is t))

  same_stand : (x y : Edge) (a : IsEdge r x) (b : IsEdge r y) → x.stand ≡ y.stand → a.j ≡ b.j
  same_stand x y a b s = sym (ap (λ z. z.stand) a.is) ∙ s ∙ ap (λ z. z.stand) b.is

  same_t : (x y : Edge) (a : IsEdge r x) (b : IsEdge r y) → x.stand ≡ y.stand
      → x.rank_t ≡ y.rank_t → T (not x.tied) → (x.surveyor ≡ y.surveyor) × (x.shift ≡ y.shift)
  same_t x y a b s k n =
      let j = same_stand x y a b s in
      let p : position (of_t x a) (S a.j) ≡ position (of_t y b) (S b.j) = sym (ap (λ z. z.rank_t) a.is) ∙ k ∙ ap (λ z. z.rank_t) b.is in
      let q : of_t x a ≡ of_t y b = position_same (of_t x a) (of_t y b) (S a.j) (strict_in x a n) (p ∙ ap (λ z. position (of_t y b) (S z)) (sym j)) in (
        ap (λ z. z.surveyor) a.is ∙ suc_inj (ap (λ z. z.number) q) ∙ sym (ap (λ z. z.surveyor) b.is),
        ap (λ z. z.shift) a.is ∙ ap (λ z. z.shift) q ∙ sym (ap (λ z. z.shift) b.is),
      )

  tie_last : (x y : Edge) (a : IsEdge r x) (b : IsEdge r y) → x.stand ≡ y.stand → T x.tied → y.rank_t ≤ x.rank_t
  tie_last x y a b s t =
      let p = tied_last x a t ∙ ap (λ z. suc (length (S z))) (same_stand x y a b s) in
      omega (arith, p, ap (λ z. z.rank_t) b.is, position_≤ (of_t y b) (S b.j))

  tie_below : (x y : Edge) (a : IsEdge r x) (b : IsEdge r y) → x.stand ≡ y.stand → T x.tied → T (not y.tied) → y.rank_t < x.rank_t
  tie_below x y a b s t n =
      let p = tied_last x a t ∙ ap (λ z. suc (length (S z))) (same_stand x y a b s) in
      omega (arith, p, ap (λ z. z.rank_t) b.is, position_in_law (of_t y b) (S b.j) (strict_in y b n))

  -- two edges with the same ends and the same shift are one
  pub pairs_differ : (d e : ℕ) → d < (instance_of r).m → e < (instance_of r).m → (instance_of r).sv d ≡ (instance_of r).sv e
      → (instance_of r).st d ≡ (instance_of r).st e → (instance_of r).sh d ≡ (instance_of r).sh e → d ≡ e
  unfolding instance_of
  pairs_differ = ends_differ es (edges_ascend r)

  -- the instance of a roster within the limits has what the theory asks of one
  pub lawful : Lawful (instance_of r)
  unfolding instance_of
  lawful = record {
    at_s = record {
      inside = λ e h. subst (λ z. z.surveyor < ns) (sym (at e h).is) (at e h).i_in;
      placed = λ e h. placed_s_law (edge_at es e) (at e h);
      strict = λ d e h k s p n. let t = same_s (edge_at es d) (edge_at es e) (at d h) (at e k) s p in pairs_differ d e h k s t.0 t.1;
      last = λ d e h k s t. absurd t;
      below = λ d e h k s t n. absurd t;
    };
    at_t = record {
      inside = λ e h. subst (λ z. z.stand < nt) (sym (at e h).is) (at e h).j_in;
      placed = λ e h. placed_t_law (edge_at es e) (at e h);
      strict = λ d e h k s p n. let t = same_t (edge_at es d) (edge_at es e) (at d h) (at e k) s p n in pairs_differ d e h k t.0 s t.1;
      last = λ d e h k s t. tie_last (edge_at es d) (edge_at es e) (at d h) (at e k) s t;
      below = λ d e h k s t n. tie_below (edge_at es d) (edge_at es e) (at d h) (at e k) s t n;
    };
  }

  -- a quota is within its limit; where there is no node it is 0
  quota_small : (qs : List ℕ) → T (all? (λ q. leb q quota_limit) qs) → (v : ℕ) → get_or qs v 0 ≤ quota_limit
  quota_small qs t v = by_cases (dec_lt v (length qs))
      (λ h. leb→le (get_or qs v 0) quota_limit (all_∈ (λ q. leb q quota_limit) qs t (get_or qs v 0) (get_d_∈ qs v 0 h)))
      (λ n. omega (arith, no_quota (omega arith)))
    where
      no_quota : length qs ≤ v → get_or qs v 0 ≡ 0
      no_quota h = get_or-eq_default qs 0 h

  -- no quota is above 8
  pub quotas_small : (v : ℕ) → ((instance_of r).quota_s v ≤ quota_limit) × ((instance_of r).quota_t v ≤ quota_limit)
  unfolding instance_of
  quotas_small v = given (fits_parts r ok) (λ ((q, u, l, k), n). (
    quota_small r.quotas_s (and_l (all? (λ q. leb q quota_limit) r.quotas_s) _ (and_r (leb ns node_limit) _ q)) v,
    quota_small r.quotas_t (and_l (all? (λ q. leb q quota_limit) r.quotas_t) _ (and_r (leb nt node_limit) _ u)) v,
  ))

  -- what the laws of plan files ask of an instance
  pub fileable : Fileable (instance_of r)
  unfolding instance_of
  fileable = record {
    inside_s = lawful.at_s.inside;
    inside_t = lawful.at_t.inside;
    differ = pairs_differ;
    few = given (fits_parts r ok) (λ ((q, u, l, v), n). subst (λ k. k ≤ plan_limit) (sym (sum_places r.quotas_s))
        (leb→le (sum (λ q. q) r.quotas_s) quota_sum_limit
        (and_r (all? (λ q. leb q quota_limit) r.quotas_s) (leb (sum (λ q. q) r.quotas_s) quota_sum_limit) (and_r (leb ns node_limit) _ q))));
  }
