-- The edges of two rosters side by side are the first's and then the second's, moved up: so its instance is the two beside each other.
use Prim.Native.Nat.{ℕ, suc, ◌+◌, ◌<◌}
use native.Mathlib.Omega.{arith}
use Rattle.std.specs.Prelude.{◌≡◌, refl, Bool, true, false, cond, length, T}
use Rattle.std.proofs.Math.Path.{sym, ap, ap₂}
use Rattle.std.proofs.Common.{◌∙◌, length-append}
use mathlib.Core.List.{List, [], ◌∷◌, ◌++◌, map, append-nil}
use Rattle.std.proofs.lemmas.List.{length-map}
use Rattle.std.proofs.Math.ListN.{get_or-append}
use Rattle.std.proofs.Math.Seq.{get_or-append-add}
use Rattle.lists.specs.Test.{given}
use Rattle.lists.specs.Sum.{◌∈◌, range, ∈_range}
use Rattle.lists.specs.Keep.{gather}
use Rattle.lists.specs.Ranges.{range_add, gather_append, gather_cong, gather_none, map_at, map_gather, gather_map, range_up}
use Rattle.model.specs.Instance.{Instance, surveyors, stands}
use Rattle.model.specs.Roster.{Entry, Roster, surveyor_count, stand_count, list_s, list_t, has, listed, shifts, fits}
use Rattle.model.specs.Edges.{Edge, position, pair_edge, edges_of, no_edge, edge_at, instance_of}
use Rattle.model.specs.PlanFile.{Named, name_of}
use Rattle.model_files.specs.Districts.{side_by_side, pair_up}
use Rattle.theory_files.specs.RosterInstance.{lawful}
use Rattle.theory_files.specs.Cells.{listed_none}
use Rattle.theory_renamed.specs.MovedUp.{entry_up_law, has_up, position_up}
use Rattle.theory_renamed.specs.Beside.{Beside}
use Rattle.theory_renamed.specs.JoinedFits.{joined_counts, first_list, second_list, first_ranking, second_ranking}
use Rattle.theory_renamed.specs.JoinedFits.{listed_first, listed_second, listed_across}

-- ---- rows
-- the rows of the first, then those of the second
rows : {A : Type 0} (f : ℕ → List A) (a b : ℕ) → gather f (range 0 (a + b)) ≡ gather f (range 0 a) ++ gather (λ i. f (a + i)) (range 0 b)
rows f a b =
    let e : 0 + a ≡ a + 0 = omega arith in
    ap (gather f) (range_add 0 a b) ∙ gather_append f (range 0 a) (range (0 + a) b)
    ∙ ap (λ z. gather f (range 0 a) ++ z) (ap (λ k. gather f (range k b)) e ∙ ap (gather f) (range_up a 0 b) ∙ gather_map f (λ i. a + i) (range 0 b))

-- an edge of the second, with its ends moved up
abbrev pub edge_up : (ns nt : ℕ) → Edge → Edge
edge_up ns nt x = record { surveyor = ns + x.surveyor; stand = nt + x.stand; shift = x.shift; rank_s = x.rank_s; rank_t = x.rank_t; tied = x.tied }

module _ (r q : Roster) (okr : T (fits r)) (okq : T (fits q)) where
  abbrev ns : ℕ
  ns = surveyor_count r

  abbrev nt : ℕ
  nt = stand_count r

  abbrev ns' : ℕ
  ns' = surveyor_count q

  abbrev nt' : ℕ
  nt' = stand_count q

  abbrev J : Roster
  J = side_by_side r q

  abbrev one : Roster → ℕ → ℕ → ℕ → List Edge
  one h i j k = cond (listed h i j k) (pair_edge h i j k ∷ []) []

  abbrev stand : Roster → ℕ → ℕ → List Edge
  stand h i j = gather (one h i j) shifts

  -- ---- one pair
  pair_first : (i j k : ℕ) → i < ns → j < nt → pair_edge J i j k ≡ pair_edge r i j k
  pair_first i j k l m = ap₂ {C = Edge} (λ xs R. record {
    surveyor = i;
    stand = j;
    shift = k;
    rank_s = position (record { number = suc j; shift = k }) xs;
    rank_t = position (record { number = suc i; shift = k }) R.strict;
    tied = has (record { number = suc i; shift = k }) R.tied;
  }) (first_list r q okr okq i l) (first_ranking r q okr okq j m)

  pair_second : (i j k : ℕ) → i < ns' → j < nt' → pair_edge J (ns + i) (nt + j) k ≡ edge_up ns nt (pair_edge q i j k)
  pair_second i j k l m =
      let x : Entry = record { number = suc j; shift = k } in
      let y : Entry = record { number = suc i; shift = k } in
      let a = ap₂ position (entry_up_law nt j k) (second_list r q okr okq i l) ∙ position_up nt x (list_s q i) in
      let b = ap₂ (λ z R. position z R.strict) (entry_up_law ns i k) (second_ranking r q okr okq j m) ∙ position_up ns y (list_t q j).strict in
      let c = ap₂ (λ z R. has z R.tied) (entry_up_law ns i k) (second_ranking r q okr okq j m) ∙ has_up ns y (list_t q j).tied in
      λ t. record { surveyor = ns + i; stand = nt + j; shift = k; rank_s = a t; rank_t = b t; tied = c t }

  -- ---- one stand of a surveyor
  stand_first : (i j : ℕ) → i < ns → j < nt → stand J i j ≡ stand r i j
  stand_first i j l m = gather_cong (one J i j) (one r i j) shifts
      (λ k s. ap₂ (λ b x. cond b (x ∷ []) []) (listed_first r q okr okq i j k l) (pair_first i j k l m))

  stand_none : (i j : ℕ) → i < ns → stand J i (nt + j) ≡ []
  stand_none i j l = gather_none (one J i (nt + j)) shifts (λ k s. ap (λ b. cond b (pair_edge J i (nt + j) k ∷ []) [])
      (listed_first r q okr okq i (nt + j) k l ∙ listed_none r okr i (nt + j) k l (omega arith)))

  stand_across : (i j : ℕ) → i < ns' → j < nt → stand J (ns + i) j ≡ []
  stand_across i j l m = gather_none (one J (ns + i) j) shifts (λ k s. ap (λ b. cond b (pair_edge J (ns + i) j k ∷ []) [])
      (listed_across r q okr okq i j k l m))

  stand_second : (i j : ℕ) → i < ns' → j < nt' → stand J (ns + i) (nt + j) ≡ map (edge_up ns nt) (stand q i j)
  stand_second i j l m = gather_cong (one J (ns + i) (nt + j)) (λ k. map (edge_up ns nt) (one q i j k)) shifts
      (λ k s. ap₂ (λ b x. cond b (x ∷ []) []) (listed_second r q okr okq i j k l) (pair_second i j k l m) ∙ out (listed q i j k) (pair_edge q i j k))
      ∙ sym (map_gather (edge_up ns nt) (one q i j) shifts)
    where
      out : (b : Bool) (x : Edge) → cond b (edge_up ns nt x ∷ []) [] ≡ map (edge_up ns nt) (cond b (x ∷ []) [])
      out true x = refl
      out false x = refl

  -- ---- one surveyor
  below : {n i : ℕ} → i ∈ range 0 n → i < n
  below {n} {i} m = given (∈_range n 0 m).1 (λ h. omega arith)

  row_first : (i : ℕ) → i < ns → gather (stand J i) (range 0 (nt + nt')) ≡ gather (stand r i) (range 0 nt)
  row_first i l = rows (stand J i) nt nt'
      ∙ ap₂ ◌++◌ (gather_cong (stand J i) (stand r i) (range 0 nt) (λ j m. stand_first i j l (below m)))
      (gather_none (λ j. stand J i (nt + j)) (range 0 nt') (λ j m. stand_none i j l))
      ∙ append-nil (gather (stand r i) (range 0 nt))

  row_second : (i : ℕ) → i < ns' → gather (stand J (ns + i)) (range 0 (nt + nt')) ≡ map (edge_up ns nt) (gather (stand q i) (range 0 nt'))
  row_second i l = rows (stand J (ns + i)) nt nt'
      ∙ ap₂ ◌++◌ (gather_none (stand J (ns + i)) (range 0 nt) (λ j m. stand_across i j l (below m)))
      (gather_cong (λ j. stand J (ns + i) (nt + j)) (λ j. map (edge_up ns nt) (stand q i j)) (range 0 nt') (λ j m. stand_second i j l (below m)))
      ∙ sym (map_gather (edge_up ns nt) (stand q i) (range 0 nt'))

  -- ---- all edges
  pub edges_joined : edges_of J ≡ edges_of r ++ map (edge_up ns nt) (edges_of q)
  unfolding edges_of
  edges_joined = given (joined_counts r q okr okq) (λ (cs, ct).
      ap₂ (λ a b. gather (λ i. gather (stand J i) (range 0 b)) (range 0 a)) cs ct
      ∙ rows (λ i. gather (stand J i) (range 0 (nt + nt'))) ns ns'
      ∙ ap₂ ◌++◌ (gather_cong (λ i. gather (stand J i) (range 0 (nt + nt'))) (λ i. gather (stand r i) (range 0 nt)) (range 0 ns) (λ i m. row_first i (below m)))
      (gather_cong (λ i. gather (stand J (ns + i)) (range 0 (nt + nt'))) (λ i. map (edge_up ns nt) (gather (stand q i) (range 0 nt'))) (range 0 ns')
      (λ i m. row_second i (below m))
      ∙ sym (map_gather (edge_up ns nt) (λ i. gather (stand q i) (range 0 nt')) (range 0 ns'))))

  -- ---- an edge by its number
  abbrev es : List Edge
  es = edges_of r

  abbrev fs : List Edge
  fs = edges_of q

  edge_first : (e : ℕ) → e < length es → edge_at (edges_of J) e ≡ edge_at es e
  edge_first e l = ap (λ z. edge_at z e) edges_joined ∙ get_or-append es (map (edge_up ns nt) fs) no_edge e l

  edge_second : (e : ℕ) → e < length fs → edge_at (edges_of J) (length es + e) ≡ edge_up ns nt (edge_at fs e)
  edge_second e l = ap (λ z. edge_at z (length es + e)) edges_joined ∙ get_or-append-add es (map (edge_up ns nt) fs) e no_edge
      ∙ map_at (edge_up ns nt) fs e no_edge no_edge l

  edge_count : length (edges_of J) ≡ length es + length fs
  edge_count = ap length edges_joined ∙ length-append es (map (edge_up ns nt) fs) ∙ ap (λ n. length es + n) (length-map fs (edge_up ns nt))

  -- ---- the instance: one side and the other
  pub surveyors_beside : Beside (surveyors (instance_of J)) (surveyors (instance_of r)) (surveyors (instance_of q))
  unfolding instance_of side_by_side
  surveyors_beside = record {
    edges = edge_count;
    nodes = (joined_counts r q okr okq).0;
    end_a = λ e l. ap (λ x. x.surveyor) (edge_first e l);
    end_b = λ e l. ap (λ x. x.surveyor) (edge_second e l);
    rank_a = λ e l. ap (λ x. x.rank_s) (edge_first e l);
    rank_b = λ e l. ap (λ x. x.rank_s) (edge_second e l);
    quota_a = λ v l. get_or-append r.quotas_s q.quotas_s 0 v l;
    quota_b = λ v l. get_or-append-add r.quotas_s q.quotas_s v 0;
    inside_a = (lawful r okr).at_s.inside;
    inside_b = (lawful q okq).at_s.inside;
  }

  pub stands_beside : Beside (stands (instance_of J)) (stands (instance_of r)) (stands (instance_of q))
  unfolding instance_of side_by_side
  stands_beside = record {
    edges = edge_count;
    nodes = (joined_counts r q okr okq).1;
    end_a = λ e l. ap (λ x. x.stand) (edge_first e l);
    end_b = λ e l. ap (λ x. x.stand) (edge_second e l);
    rank_a = λ e l. ap (λ x. x.rank_t) (edge_first e l);
    rank_b = λ e l. ap (λ x. x.rank_t) (edge_second e l);
    quota_a = λ v l. get_or-append r.quotas_t q.quotas_t 0 v l;
    quota_b = λ v l. get_or-append-add r.quotas_t q.quotas_t v 0;
    inside_a = (lawful r okr).at_t.inside;
    inside_b = (lawful q okq).at_t.inside;
  }

  -- ---- the numbers of a pair
  abbrev G : Instance
  G = instance_of r

  abbrev H : Instance
  H = instance_of q

  pub name_first : (e : ℕ) → e < G.m → name_of (instance_of J) e ≡ name_of G e
  unfolding instance_of
  name_first e l = ap {B = Named} (λ x. record { surveyor = suc x.surveyor; stand = suc x.stand; shift = x.shift }) (edge_first e l)

  pub name_second : (e : ℕ) → e < H.m → name_of (instance_of J) (G.m + e) ≡ pair_up ns nt (name_of H e)
  unfolding instance_of
  name_second e l =
      let x = edge_at fs e in
      let a : suc (ns + x.surveyor) ≡ ns + suc x.surveyor = omega arith in
      let b : suc (nt + x.stand) ≡ nt + suc x.stand = omega arith in
      ap {B = Named} (λ x. record { surveyor = suc x.surveyor; stand = suc x.stand; shift = x.shift }) (edge_second e l)
      ∙ ap₂ {C = Named} (λ s t. record { surveyor = s; stand = t; shift = x.shift }) a b
