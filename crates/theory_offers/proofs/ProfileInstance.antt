-- The theorems that rest on specs/ProfileInstance.antt. They stand here so that a wrong definition there is refused by a proof.
use Prim.Native.Nat.{ℕ, suc, ◌-◌, ◌<◌}
use native.Mathlib.Omega.{arith}
use Rattle.std.specs.Prelude.{◌≡◌, refl, Bool, not, ◌&&◌, eqb}
use Rattle.std.proofs.Common.{sym, ◌∙◌, subst}
use Rattle.std.proofs.Math.Path.{ap}
use mathlib.Core.List.Memᴰ
use mathlib.Core.List.{List, [], ◌∷◌}
use Rattle.std.proofs.Math.ListN.{length, get_or}
use Rattle.std.proofs.Math.Dec.{T, T_not, eqb→eq}
use Rattle.lists.specs.Test.{given, bool_eq, and_l, and_r, and_i, eq→eqb, or_l, or_r}
use Rattle.lists.specs.Sum.{◌∈◌, up_to, up_to_∈, up_to_<, range_∈}
use Rattle.lists.specs.Keep.{all?, all_∈, ∈_all, any_∈, get_d_∈, All-getD}
use Rattle.model.specs.Limits.{list_limit, shift_limit}
use Rattle.model.specs.Roster.{Entry, Roster, entries, surveyor_count, stand_count, list_s, list_t, same, has, listed, listed_back, fits}
use Rattle.model.specs.Roster.{entry_fits, list_fits, ranking_fits}
use Rattle.model.specs.Edges.{Edge, edges_of, edge_at, instance_of}
use Rattle.model_desk.specs.Seasons.{is_first, only_first}
use Rattle.model_files.specs.Profile.{all_one, untied, one_to_one}
use Rattle.theory_files.specs.Entries.{in_range_law}
use Rattle.theory_files.specs.Sections.{every_all}
use Rattle.theory_files.specs.Position.{eq→same}
use Rattle.theory_files.specs.ByLists.{list_range, ranking_list, fits_lists}
use Rattle.theory_offers.specs.ProfileInstance.{at, each_one, edge_strict, listed_edge, one_at, plain_edges, unitary}

quotas_one : (qs : List ℕ) → all_one qs ≡ each_one (λ v. get_or qs v 0) (length qs)
unfolding each_one
quotas_one qs = bool_eq (all_one qs) (each_one (λ v. get_or qs v 0) (length qs))
    (λ t. ∈_all (λ v. eqb (get_or qs v 0) 1) (up_to (length qs)) (λ v m. eq→eqb (get_or qs v 0) 1 (one_at qs t v (up_to_< (length qs) m))))
    (λ t. every_all (λ q. eqb q 1) qs (All-getD (λ q. T (eqb q 1)) 0 qs
    (λ v h. all_∈ (λ v. eqb (get_or qs v 0) 1) (up_to (length qs)) t v (up_to_∈ (length qs) v h))))

-- ---- entries
∈_has : (x : Entry) (xs : List Entry) → x ∈ xs → T (has x xs)
∈_has x [] m = elim m [ ]
∈_has x (y ∷ ys) (Memᴰ.head e) = or_l (same x y) (has x ys) (eq→same x y e)
∈_has x (y ∷ ys) (Memᴰ.tail m) = or_r (same x y) (has x ys) (∈_has x ys m)

module _ (r : Roster) (ok : T (fits r)) where
  abbrev es : List Edge
  es = edges_of r

  abbrev ns : ℕ
  ns = surveyor_count r

  abbrev nt : ℕ
  nt = stand_count r

  edge_first : T (only_first r) → (e : ℕ) → e < length es → (edge_at es e).shift ≡ 1
  unfolding listed
  edge_first t e h = given (at r ok e h) (λ a. ap (λ x. x.shift) a.is
      ∙ given (any_∈ (same (record { number = suc a.j; shift = a.k })) (list_s r a.i) a.pair)
      (λ (y, m, s). eqb→eq a.k y.shift (and_r (eqb (suc a.j) y.number) (eqb a.k y.shift) s)
      ∙ eqb→eq y.shift 1 (all_∈ is_first (list_s r a.i) (all_∈ (λ xs. all? is_first xs) r.lists_s t (list_s r a.i)
      (get_d_∈ r.lists_s a.i [] (subst (λ n. a.i < n) (sym (fits_lists r ok).count_s) a.i_in))) y m)))

  -- ---- each edge passes: so does the roster
  module _ (tied-none : (e : ℕ) → e < length es → T (not (edge_at es e).tied)) (first-all : (e : ℕ) → e < length es → (edge_at es e).shift ≡ 1) where
    -- an entry of surveyor i
    list_first : (i : ℕ) → i < ns → T (list_fits list_limit nt (list_s r i)) → (x : Entry) → x ∈ list_s r i → T (is_first x)
    unfolding listed
    list_first i hi f x m = given (in_range_law nt x (all_∈ (entry_fits nt) (list_s r i) (list_range list_limit nt (list_s r i) f) x m)) (λ (p, q, s, u).
        let back : suc (x.number - 1) ≡ x.number = omega arith in
        given (listed_edge r ok i (x.number - 1) x.shift hi (omega arith) s u
        (subst (λ n. T (has (record { number = n; shift = x.shift }) (list_s r i))) (sym back) (∈_has x (list_s r i) m)))
        (λ (e, l, w). eq→eqb x.shift 1 (sym (ap (λ y. y.shift) w) ∙ first-all e l)))

    -- a tied entry of stand j
    none_tied : (j : ℕ) → j < nt → T (ranking_fits list_limit ns (list_t r j)) → (x : Entry) → x ∈ (list_t r j).tied → ⊥
    unfolding listed listed_back
    none_tied j hj f x m =
        let into : x ∈ entries (list_t r j) = Memᴰ.append_right (list_t r j).strict m in
        given (in_range_law ns x (all_∈ (entry_fits ns) (entries (list_t r j)) (list_range list_limit ns (entries (list_t r j))
        (ranking_list list_limit ns (list_t r j) f)) x into)) (λ (p, q, s, u).
        let back : suc (x.number - 1) ≡ x.number = omega arith in
        let hi : x.number - 1 < ns = omega arith in
        given (listed_edge r ok (x.number - 1) j x.shift hi hj s u
        (subst T (sym ((fits_lists r ok).pairs (x.number - 1) j x.shift hi hj (range_∈ shift_limit 1 x.shift s (omega arith))))
        (subst (λ n. T (has (record { number = n; shift = x.shift }) (entries (list_t r j)))) (sym back) (∈_has x (entries (list_t r j)) into))))
        (λ (e, l, w). T_not (edge_at es e).tied (tied-none e l) (subst (λ y. T y.tied) (sym w)
        (subst (λ n. T (has (record { number = n; shift = x.shift }) (list_t r j).tied)) (sym back) (∈_has x (list_t r j).tied m)))))

    roster_first : T (only_first r)
    roster_first = every_all (λ xs. all? is_first xs) r.lists_s (All-getD (λ xs. T (all? is_first xs)) [] r.lists_s (λ i h.
        ∈_all is_first (list_s r i) (λ x m. list_first i (subst (λ n. i < n) (fits_lists r ok).count_s h)
        (all_∈ (list_fits list_limit nt) r.lists_s (fits_lists r ok).fit_s (list_s r i) (get_d_∈ r.lists_s i [] h)) x m)))

    empty : (xs : List Entry) → ((x : Entry) → x ∈ xs → ⊥) → T (eqb (length xs) 0)
    empty [] h = tt
    empty (x ∷ xs) h = absurd (h x (Memᴰ.head refl))

    roster_untied : T (untied r)
    roster_untied = every_all (λ R. eqb (length R.tied) 0) r.lists_t
        (All-getD (λ R. T (eqb (length R.tied) 0)) (record { strict = []; tied = [] }) r.lists_t (λ j h.
        empty (list_t r j).tied (none_tied j (subst (λ n. j < n) (fits_lists r ok).count_t h)
        (all_∈ (ranking_fits list_limit ns) r.lists_t (fits_lists r ok).fit_t (list_t r j) (get_d_∈ r.lists_t j (record { strict = []; tied = [] }) h)))))

  -- ---- the two tests are one
  abbrev plain : ℕ → Bool
  plain e = not ((instance_of r).tied e) && eqb ((instance_of r).sh e) 1

  lists_plain : untied r && only_first r ≡ plain_edges (instance_of r).tied (instance_of r).sh (instance_of r).m
  unfolding plain_edges instance_of
  lists_plain = bool_eq (untied r && only_first r) (plain_edges (instance_of r).tied (instance_of r).sh (instance_of r).m)
      (λ t. ∈_all plain (up_to (length es)) (λ e m. let h = up_to_< (length es) m in and_i (not (edge_at es e).tied) (eqb (edge_at es e).shift 1)
      (edge_strict r ok (and_l (untied r) (only_first r) t) e h) (eq→eqb (edge_at es e).shift 1 (edge_first (and_r (untied r) (only_first r) t) e h))))
      (λ t. given (λ e h. all_∈ plain (up_to (length es)) t e (up_to_∈ (length es) e h)) (λ (a : (e : ℕ) → e < length es → T (plain e)).
      given (λ e h. and_l (not (edge_at es e).tied) (eqb (edge_at es e).shift 1) (a e h)) (λ (b : (e : ℕ) → e < length es → T (not (edge_at es e).tied)).
      given (λ e h. eqb→eq (edge_at es e).shift 1 (and_r (not (edge_at es e).tied) (eqb (edge_at es e).shift 1) (a e h)))
      (λ (c : (e : ℕ) → e < length es → (edge_at es e).shift ≡ 1). and_i (untied r) (only_first r) (roster_untied b c) (roster_first b c)))))

  -- a roster within the limits is of the profile exactly if its instance passes this test
  pub profile_is : one_to_one r ≡ unitary (instance_of r)
  unfolding one_to_one instance_of
  profile_is = ap (λ b. b && (untied r && only_first r)) (ap (λ b. b && all_one r.quotas_t) (quotas_one r.quotas_s)
      ∙ ap (λ b. each_one (λ v. get_or r.quotas_s v 0) ns && b) (quotas_one r.quotas_t))
      ∙ ap (λ b. (each_one (λ v. get_or r.quotas_s v 0) ns && each_one (λ v. get_or r.quotas_t v 0) nt) && b) lists_plain
