-- The roster's order by lists is the order by edges: `place_s_law` and `place_t_law`. So what Worst.antt says of places over the edges of an instance holds
-- of the bytes, one for each list entry in the roster's order.
use Prim.Native.Nat.{ℕ, suc, ◌+◌, ◌*◌, ◌<◌}
use Rattle.std.proofs.Common.{arith, sym, ap, ◌∙◌, inl, inr, ⊎_elim, T_not, eqb→eq, lt-ltb, le-ltb}
use Rattle.std.proofs.Math.Decide.{dec_lt}
use Rattle.std.proofs.Math.Nat.{suc_inj}
use Rattle.std.specs.Prelude.{◌≡◌, refl, ◌⊎◌, Bool, true, false, not, ◌&&◌, ◌||◌, List, [], ◌++◌, length, ltb, eqb}
use Rattle.std.proofs.Math.Path.{ap₂, subst}
use Rattle.std.proofs.Math.Logic.{by_cases}
use Rattle.std.proofs.Math.Dec.{T}
use Rattle.lists.specs.Test.{by-test, by_bool, true_t, or_case, eqb_yes, eqb_no, pk}
use Rattle.lists.specs.Sum.{sum, up_to, range_∈}
use Rattle.lists.specs.Keep.{all_∈, any_append, get_d_∈}
use Rattle.model.specs.Limits.{list_limit, shift_limit}
use Rattle.model.specs.Roster.{Entry, Roster, entries, surveyor_count, stand_count, list_s, list_t, has, before, no_entry, ascending, total_s}
use Rattle.model.specs.Roster.{total_t}
use Rattle.model.specs.Roster.{listed, listed_back, ranking_fits, fits}
use Rattle.model.specs.Roster as R
use Rattle.model.specs.Edges.{Edge, position, edges_of, no_edge, edge_at}
use Rattle.model.specs.Ranges.{place_s, place_t, entry_count}
use Rattle.theory_files.specs.EdgeCount.{sum_by_place}
use Rattle.theory_files.specs.Position.{position_pos, position_in_law, position_out, position_same}
use Rattle.theory_files.specs.Order.{→before}
use Rattle.theory_files.specs.Ascending.{IsEdge, edge_is, edges_ascend, later, ends_differ, Before}
use Rattle.theory_files.specs.ByLists.{list_distinct, ranking_ascends, fits_lists}
use Rattle.theory_files.specs.RosterInstance.{list_fits_law, entries_fit, lists_count, rankings_count}
use Rattle.theory_ranges.specs.Places.{place_in}
use Rattle.theory_ranges.specs.Entries.{position_left, position_right, ascending_places}
use Rattle.theory_ranges.specs.Counted.{sooner, all_edges, place_is}
use Rattle.theory_ranges.specs.RosterSums.{entry, surveyor_sum, stand_sum}

or_none : (a b : Bool) → b ≡ false → a || b ≡ a
or_none true b e = refl
or_none false b e = e

-- ---- two entries of a list whose second part is a tie: by rank, and where ranks are equal by number, is by position
module _ (S D : List Entry) (asc : T (ascending no_entry D)) (y z : Entry) (d e : ℕ) (one : y ≡ z → d ≡ e) (same : d ≡ e → y ≡ z)
    (up : d < e → T (before y z)) (down : e < d → T (before z y)) where
  abbrev a : ℕ
  a = position y S

  abbrev b : ℕ
  b = position z S

  -- equal positions are one entry
  equal : T (has y S) → eqb a b && ltb d e ≡ false
  equal t = by_bool (eqb a b)
      (λ q. let i = one (position_same y z S t (eqb→eq a b (true_t q))) in ap₂ (λ u v. u && v) q (le-ltb d e (omega arith)))
      (λ q. ap (λ u. u && ltb d e) q)

  tie : T (has y D) → T (has z D) → ltb d e ≡ ltb (length S + position y D) (length S + position z D)
  tie t u = by_cases (dec_lt d e)
      (λ l. lt-ltb d e l ∙ sym (lt-ltb (length S + position y D) (length S + position z D) (omega (arith, ascending_places no_entry D asc y z t u (up l)))))
      (λ n. le-ltb d e (omega arith) ∙ sym (le-ltb (length S + position y D) (length S + position z D) (by_cases (dec_lt e d)
      (λ l. omega (arith, ascending_places no_entry D asc z y u t (down l)))
      (λ m. let q = same (omega arith) in omega (arith, ap (λ w. position w D) q)))))

  in_tie : (w : Entry) → T (has w (S ++ D)) → T (not (has w S)) → T (has w D)
  in_tie w t n = ⊎_elim (λ s. absurd (T_not (has w S) n s)) (λ s. s) (or_case (has w S) (has w D) (subst T (any_append (R.same w) S D) t))

  pub by_position : T (has y (S ++ D)) → T (has z (S ++ D)) → (ltb a b || (eqb a b && ltb d e)) ≡ ltb (position y (S ++ D)) (position z (S ++ D))
  by_position t u = by-test (has y S)
      (λ p. by-test (has z S)
      (λ q. or_none (ltb a b) (eqb a b && ltb d e) (equal p) ∙ sym (ap₂ ltb (position_left y S D p) (position_left z S D q)))
      (λ q. ap (λ w. w || (eqb a b && ltb d e)) (lt-ltb a b (omega (arith, position_in_law y S p, position_out z S q)))
      ∙ sym (lt-ltb (position y (S ++ D)) (position z (S ++ D))
      (omega (arith, position_left y S D p, position_in_law y S p, position_right z S D q, position_pos z D)))))
      (λ p. by-test (has z S)
      (λ q. ap₂ (λ w x. w || (x && ltb d e)) (le-ltb a b (omega (arith, position_out y S p, position_in_law z S q)))
      (eqb_no a b (λ (i : a ≡ b). omega (arith, position_out y S p, position_in_law z S q)))
      ∙ sym (le-ltb (position y (S ++ D)) (position z (S ++ D))
      (omega (arith, position_right y S D p, position_pos y D, position_left z S D q, position_in_law z S q))))
      (λ q. ap₂ (λ w x. w || (x && ltb d e)) (le-ltb a b (omega (arith, position_out y S p, position_out z S q)))
      (eqb_yes a b (position_out y S p ∙ sym (position_out z S q)))
      ∙ tie (in_tie y t p) (in_tie z u q) ∙ sym (ap₂ ltb (position_right y S D p) (position_right z S D q))))

module _ (r : Roster) (ok : T (fits r)) where
  abbrev ns : ℕ
  ns = surveyor_count r

  abbrev nt : ℕ
  nt = stand_count r

  abbrev es : List Edge
  es = edges_of r

  abbrev at : ℕ → Edge
  at e = edge_at es e

  is : (e : ℕ) → e < length es → IsEdge r (at e)
  is e h = edge_is r (at e) (get_d_∈ es e no_edge h)

  abbrev of_s : ℕ → Entry
  of_s e = entry (at e).stand (at e).shift

  abbrev of_t : ℕ → Entry
  of_t e = entry (at e).surveyor (at e).shift

  -- an edge's ends, ranks and lists
  surveyor_in : (e : ℕ) → e < length es → (at e).surveyor < ns
  surveyor_in e h = let a = is e h in subst (λ x. x.surveyor < ns) (sym a.is) a.i_in

  stand_in : (e : ℕ) → e < length es → (at e).stand < nt
  stand_in e h = let a = is e h in subst (λ x. x.stand < nt) (sym a.is) a.j_in

  pub rank_s_is : (e : ℕ) → e < length es → (at e).rank_s ≡ position (of_s e) (list_s r (at e).surveyor)
  rank_s_is e h = subst (λ x. x.rank_s ≡ position (entry x.stand x.shift) (list_s r x.surveyor)) (sym (is e h).is) refl

  pub rank_t_is : (e : ℕ) → e < length es → (at e).rank_t ≡ position (of_t e) (list_t r (at e).stand).strict
  rank_t_is e h = subst (λ x. x.rank_t ≡ position (entry x.surveyor x.shift) (list_t r x.stand).strict) (sym (is e h).is) refl

  pub has_s : (e : ℕ) → e < length es → T (has (of_s e) (list_s r (at e).surveyor))
  unfolding listed
  has_s e h = let a = is e h in subst (λ x. T (has (entry x.stand x.shift) (list_s r x.surveyor))) (sym a.is) a.pair

  pub has_t : (e : ℕ) → e < length es → T (has (of_t e) (entries (list_t r (at e).stand)))
  unfolding listed_back
  has_t e h = let a = is e h in
      subst (λ x. T (has (entry x.surveyor x.shift) (entries (list_t r x.stand)))) (sym a.is)
      (subst T ((fits_lists r ok).pairs a.i a.j a.k a.i_in a.j_in (range_∈ shift_limit 1 a.k a.k_from (omega (arith, a.k_in)))) a.pair)

  -- two edges at one stand are in the order of their entries
  rises : (d e : ℕ) → d < e → e < length es → (at d).stand ≡ (at e).stand → T (before (of_t d) (of_t e))
  rises d e l h q = →before (of_t d) (of_t e) (go (later es (edges_ascend r) d e l h))
    where
      go : Before (at d) (at e) → (suc (at d).surveyor < suc (at e).surveyor) ⊎ ((suc (at d).surveyor ≡ suc (at e).surveyor) × ((at d).shift < (at e).shift))
      go (inl k) = inl (omega arith)
      go (inr (s, inl k)) = absurd (omega arith)
      go (inr (s, inr (t, k))) = inr (ap suc s, k)

  tie_ascends : (j : ℕ) → j < nt → T (ascending no_entry (list_t r j).tied)
  tie_ascends j h = let F = fits_lists r ok in
      ranking_ascends list_limit ns (list_t r j)
      (all_∈ (ranking_fits list_limit ns) r.lists_t F.fit_t (list_t r j) (get_d_∈ r.lists_t j (record { strict = []; tied = [] }) (omega (arith, F.count_t))))

  -- ---- the surveyors' side
  pub whole_s : (v : ℕ) → v < ns → (h : Entry → ℕ) → sum (λ d. pk (eqb (at d).surveyor v) (h (of_s d))) (up_to (length es)) ≡ sum h (list_s r v)
  whole_s v l h = sum_by_place (λ x. pk (eqb x.surveyor v) (h (entry x.stand x.shift))) no_edge es ∙ surveyor_sum r ok v l h

  order_s : (d e : ℕ) → d < length es → e < length es → (at d).surveyor ≡ (at e).surveyor
      → sooner (λ x. (at x).rank_s) d e ≡ ltb (position (of_s d) (list_s r (at e).surveyor)) (position (of_s e) (list_s r (at e).surveyor))
  order_s d e hd he q = or_none (ltb (at d).rank_s (at e).rank_s) (eqb (at d).rank_s (at e).rank_s && ltb d e) none ∙ ap₂ ltb pd (rank_s_is e he)
    where
      pd : (at d).rank_s ≡ position (of_s d) (list_s r (at e).surveyor)
      pd = rank_s_is d hd ∙ ap (λ i. position (of_s d) (list_s r i)) q

      alike : of_s d ≡ of_s e → d ≡ e
      alike s = ends_differ es (edges_ascend r) d e hd he q (suc_inj (ap (λ x. x.number) s)) (ap (λ x. x.shift) s)

      none : eqb (at d).rank_s (at e).rank_s && ltb d e ≡ false
      none = by_bool (eqb (at d).rank_s (at e).rank_s)
          (λ t. let i = alike (position_same (of_s d) (of_s e) (list_s r (at e).surveyor) (subst (λ i. T (has (of_s d) (list_s r i))) q (has_s d hd))
          (sym pd ∙ eqb→eq (at d).rank_s (at e).rank_s (true_t t) ∙ rank_s_is e he)) in
          ap₂ (λ u v. u && v) t (le-ltb d e (omega arith)))
          (λ t. ap (λ u. u && ltb d e) t)

  pub place_s_law : (e : ℕ) → e < length es
      → place_in (length es) (λ x. (at x).surveyor) (λ x. (at x).rank_s) e ≡ place_s r (at e).surveyor (at e).stand (at e).shift
  unfolding place_s
  place_s_law e h = place_is (length es) ns (λ x. (at x).surveyor) (λ x. (at x).rank_s) (list_s r) of_s whole_s e (surveyor_in e h)
      (list_distinct list_limit nt (list_s r (at e).surveyor) (list_fits_law r ok (at e).surveyor (surveyor_in e h))) (has_s e h) (λ d l q. order_s d e l h q)

  -- as many edges as the surveyors' lists have entries
  pub total_s_law : total_s r.lists_s ≡ length es
  total_s_law =
      sym (sum_by_place length [] r.lists_s)
      ∙ ap (λ n. sum (λ a. length (list_s r a)) (up_to n)) (lists_count r ok)
      ∙ sym (all_edges (length es) ns (λ x. (at x).surveyor) (λ x. (at x).rank_s) (list_s r) of_s whole_s surveyor_in)

  -- ---- the stands' side
  whole_t : (v : ℕ) → v < nt → (h : Entry → ℕ) → sum (λ d. pk (eqb (at d).stand v) (h (of_t d))) (up_to (length es)) ≡ sum h (entries (list_t r v))
  whole_t v l h = sum_by_place (λ x. pk (eqb x.stand v) (h (entry x.surveyor x.shift))) no_edge es ∙ stand_sum r ok v l h

  order_t : (d e : ℕ) → d < length es → e < length es → (at d).stand ≡ (at e).stand
      → sooner (λ x. (at x).rank_t) d e ≡ ltb (position (of_t d) (entries (list_t r (at e).stand))) (position (of_t e) (entries (list_t r (at e).stand)))
  order_t d e hd he q =
      ap₂ (λ x y. ltb x y || (eqb x y && ltb d e)) (rank_t_is d hd ∙ ap (λ j. position (of_t d) (list_t r j).strict) q) (rank_t_is e he)
      ∙ by_position (list_t r (at e).stand).strict (list_t r (at e).stand).tied (tie_ascends (at e).stand (stand_in e he)) (of_t d) (of_t e) d e
      (λ s. ends_differ es (edges_ascend r) d e hd he (suc_inj (ap (λ x. x.number) s)) q (ap (λ x. x.shift) s))
      (λ s. ap of_t s) (λ l. rises d e l he q) (λ l. rises e d l hd (sym q))
      (subst (λ j. T (has (of_t d) (entries (list_t r j)))) q (has_t d hd)) (has_t e he)

  pub place_t_law : (e : ℕ) → e < length es
      → length es + place_in (length es) (λ x. (at x).stand) (λ x. (at x).rank_t) e ≡ place_t r (at e).surveyor (at e).stand (at e).shift
  unfolding place_t
  place_t_law e h = ap₂ ◌+◌ (sym total_s_law) (place_is (length es) nt (λ x. (at x).stand) (λ x. (at x).rank_t) (λ j. entries (list_t r j)) of_t whole_t e (stand_in e h)
      (list_distinct list_limit ns (entries (list_t r (at e).stand)) (entries_fit r ok (at e).stand (stand_in e h))) (has_t e h) (λ d l q. order_t d e l h q))

  pub total_t_law : total_t r.lists_t ≡ length es
  total_t_law =
      sym (sum_by_place (λ R. length (entries R)) (record { strict = []; tied = [] }) r.lists_t)
      ∙ ap (λ n. sum (λ b. length (entries (list_t r b))) (up_to n)) (rankings_count r ok)
      ∙ sym (all_edges (length es) nt (λ x. (at x).stand) (λ x. (at x).rank_t) (λ j. entries (list_t r j)) of_t whole_t stand_in)

  -- two entries a pair, one in either list
  pub entries_twice : entry_count r ≡ 2 * length es
  entries_twice = omega (arith, total_s_law, total_t_law)
