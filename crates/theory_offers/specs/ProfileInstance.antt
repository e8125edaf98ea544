-- The one-to-one profile, seen from the instance (W-212): a roster within the limits has quotas of one, no ties and shift 1 alone exactly if its
-- instance has; so a roster that passes gives a lawful instance with all quotas one and no ties.
use Prim.Native.Nat.{ℕ, suc, ◌≤◌, ◌<◌}
use native.Mathlib.Omega.{arith}
use Rattle.std.proofs.Math.Decide.{dec_lt}
use Rattle.std.specs.Prelude.{◌≡◌, refl, Bool, not, ◌&&◌, eqb}
use Rattle.std.proofs.Common.{sym, subst}
use Rattle.std.proofs.Math.Logic.{by_cases}
use Rattle.std.proofs.Math.Bool.{cond}
use mathlib.Core.List.Memᴰ
use mathlib.Core.List.{List, [], ◌∷◌}
use Rattle.std.proofs.Math.ListN.{length, get_or, get_or-eq_default}
use Rattle.std.proofs.Math.Dec.{T, eqb→eq}
use Rattle.lists.specs.Test.{given, T_true, and_l, and_r}
use Rattle.lists.specs.Sum.{◌∈◌, up_to, range, range_∈}
use Rattle.lists.specs.Keep.{all?, all_∈, gather, ∈_gather, get_d_∈}
use Rattle.model.specs.Limits.{shift_limit}
use Rattle.model.specs.Roster.{Entry, Roster, surveyor_count, stand_count, list_t, has, shifts, listed, fits}
use Rattle.model.specs.Edges.{Edge, pair_edge, edges_of, no_edge, edge_at, instance_of}
use Rattle.model.specs.Instance.{Instance}
use Rattle.model_desk.specs.Seasons.{only_first}
use Rattle.model_files.specs.Profile.{all_one, untied, one_to_one}
use Rattle.theory_files.specs.Ascending.{IsEdge, edge_is}
use Rattle.theory_files.specs.ByLists.{fits_lists}
use Rattle.theory_offers.specs.OffersPlan.{OneToOne}

-- ---- the instance's own test
-- each of n quotas is one
unfoldable pub each_one : (ℕ → ℕ) → ℕ → Bool
each_one q n = all? (λ v. eqb (q v) 1) (up_to n)

-- no edge is tied, and each is in shift 1
unfoldable pub plain_edges : (ℕ → Bool) → (ℕ → ℕ) → ℕ → Bool
plain_edges tied sh m = all? (λ e. not (tied e) && eqb (sh e) 1) (up_to m)

-- all quotas are one, and no edge is tied or in another shift than 1
abbrev pub unitary : Instance → Bool
unitary G = (each_one G.quota_s G.ns && each_one G.quota_t G.nt) && plain_edges G.tied G.sh G.m

-- ---- quotas
pub one_at : (qs : List ℕ) → T (all_one qs) → (v : ℕ) → v < length qs → get_or qs v 0 ≡ 1
one_at qs t v h = eqb→eq (get_or qs v 0) 1 (all_∈ (λ q. eqb q 1) qs t (get_or qs v 0) (get_d_∈ qs v 0 h))

most_at : (qs : List ℕ) → T (all_one qs) → (v : ℕ) → get_or qs v 0 ≤ 1
most_at qs t v = by_cases (dec_lt v (length qs)) (λ h. omega (arith, one_at qs t v h)) (λ n. omega (arith, behind (omega arith)))
  where
    behind : length qs ≤ v → get_or qs v 0 ≡ 0
    behind h = get_or-eq_default qs 0 h

-- what holds at every place of a list holds of what is in it
∈_place : {A : Type 0} (d : A) (xs : List A) {x : A} → x ∈ xs → (i : ℕ) × (i < length xs) × (get_or xs i d ≡ x)
∈_place d [] m = elim m [ ]
∈_place d (y ∷ ys) (Memᴰ.head e) = (0, (omega arith), sym e)
∈_place d (y ∷ ys) (Memᴰ.tail m) = given (∈_place d ys m) (λ (i, h, e). (suc i, omega arith, e))

module _ (r : Roster) (ok : T (fits r)) where
  abbrev es : List Edge
  es = edges_of r

  abbrev ns : ℕ
  ns = surveyor_count r

  abbrev nt : ℕ
  nt = stand_count r

  -- every listed pair is an edge
  pub listed_edge : (i j k : ℕ) → i < ns → j < nt → 1 ≤ k → k ≤ shift_limit → T (listed r i j k) → (e : ℕ) × (e < length es) × (edge_at es e ≡ pair_edge r i j k)
  unfolding edges_of
  listed_edge i j k hi hj a b t = ∈_place no_edge es
      (∈_gather (λ i. gather (λ j. gather (λ k. cond (listed r i j k) (pair_edge r i j k ∷ []) []) shifts) (range 0 nt)) (range 0 ns)
      (range_∈ ns 0 i (omega arith) (omega arith))
      (∈_gather (λ j. gather (λ k. cond (listed r i j k) (pair_edge r i j k ∷ []) []) shifts) (range 0 nt) (range_∈ nt 0 j (omega arith) (omega arith))
      (∈_gather (λ k. cond (listed r i j k) (pair_edge r i j k ∷ []) []) shifts (range_∈ shift_limit 1 k a (omega arith))
      (subst (λ b. pair_edge r i j k ∈ cond b (pair_edge r i j k ∷ []) []) (sym (T_true {b = listed r i j k} t)) (Memᴰ.head refl)))))

  pub at : (e : ℕ) → e < length es → IsEdge r (edge_at es e)
  at e h = edge_is r (edge_at es e) (get_d_∈ es e no_edge h)

  -- ---- the roster passes: so does each edge
  no_entry_law : (xs : List Entry) → length xs ≡ 0 → (x : Entry) → T (not (has x xs))
  no_entry_law [] e x = tt
  no_entry_law (y ∷ ys) e x = absurd (let n : ⊥ = omega arith in n)

  pub edge_strict : T (untied r) → (e : ℕ) → e < length es → T (not (edge_at es e).tied)
  edge_strict t e h = given (at e h) (λ a. subst (λ x. T (not x.tied)) (sym a.is)
      (no_entry_law (list_t r a.j).tied (eqb→eq (length (list_t r a.j).tied) 0 (all_∈ (λ R. eqb (length R.tied) 0) r.lists_t t (list_t r a.j)
      (get_d_∈ r.lists_t a.j (record { strict = []; tied = [] }) (subst (λ n. a.j < n) (sym (fits_lists r ok).count_t) a.j_in))))
      (record { number = suc a.i; shift = a.k })))

  -- all quotas one, no ties
  pub profile_instance : T (one_to_one r) → OneToOne (instance_of r)
  unfolding one_to_one instance_of
  profile_instance t =
      let q = and_l (all_one r.quotas_s && all_one r.quotas_t) (untied r && only_first r) t in
      let u = and_l (untied r) (only_first r) (and_r (all_one r.quotas_s && all_one r.quotas_t) (untied r && only_first r) t) in
      record {
        strict = edge_strict u;
        quota_s = one_at r.quotas_s (and_l (all_one r.quotas_s) (all_one r.quotas_t) q);
        quota_t = one_at r.quotas_t (and_r (all_one r.quotas_s) (all_one r.quotas_t) q);
        most_s = most_at r.quotas_s (and_l (all_one r.quotas_s) (all_one r.quotas_t) q);
        most_t = most_at r.quotas_t (and_r (all_one r.quotas_s) (all_one r.quotas_t) q);
      }
