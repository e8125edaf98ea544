-- "The joined roster has a strongly popular plan exactly when both have one, and it is the two side by side": as an equation of the lists of
-- strongly popular plans, in the pairs of plans, and in what the finder answers.
use Rattle.std.specs.Prelude.{ℕ, ◌+◌, ◌<◌, ◌≡◌, Bool, false, ◌∷◌, ◌++◌, map, length, get_or, T}
use Rattle.std.proofs.Common.{arith, sym, ap, ap₂, ◌∙◌, get_or-append-add}
use Rattle.std.proofs.lemmas.List.{map-append, length-map}
use Rattle.std.proofs.lemmas.Simd.{map-map}
use Rattle.std.proofs.Math.ListN.{get_or-append}
use Rattle.lists.specs.Test.{given}
use Rattle.lists.specs.Sum.{◌∈◌, range, ∈_range}
use Rattle.lists.specs.Keep.{keep, keep_cong, ∈_keep, map_keep}
use Rattle.lists.specs.Ranges.{range_add, keep_append, map_cong, range_up}
use Rattle.model.specs.Instance.{Instance}
use Rattle.model.specs.Roster.{Roster, surveyor_count, stand_count, fits}
use Rattle.model.specs.Edges.{instance_of}
use Rattle.model.specs.Plans.{Plan, on}
use Rattle.model.specs.PlanFile.{Named, name_of, shifted_pair, edges_in, plan_bytes_by, plan_bytes}
use Rattle.model_desk.specs.History.{plan_pairs}
use Rattle.model_files.specs.Districts.{side_by_side, pair_up, pairs_beside, pairs_bytes}
use Rattle.theory_files.specs.Layouts.{in_shifted_pair}
use Rattle.theory_files.specs.PlanFiles.{bytes_are}
use Rattle.theory_renamed.specs.JoinedFits.{Room}
use Rattle.theory_renamed.specs.JoinedEdges.{surveyors_beside, name_first, name_second}

-- a plan's bytes are its pairs, counted
plan_bytes_law : (G : Instance) (M : Plan) → plan_bytes G M ≡ pairs_bytes (plan_pairs G M)
unfolding plan_bytes_by
plan_bytes_law G M = let es = edges_in G.m (on M) in ap₂ (λ n zs. n ∷ zs) (sym (length-map es (name_of G))) (bytes_are G shifted_pair in_shifted_pair es)

module _ (r q : Roster) (okr : T (fits r)) (okq : T (fits q)) (room : Room r q) where
  abbrev G : Instance
  G = instance_of r

  abbrev H : Instance
  H = instance_of q

  abbrev J : Roster
  J = side_by_side r q

  -- ---- their pairs
  first_edges : (M N : Plan) → length M ≡ G.m → edges_in G.m (on (M ++ N)) ≡ edges_in G.m (on M)
  first_edges M N l = keep_cong (on (M ++ N)) (on M) (range 0 G.m) (λ e m.
      get_or-append M N false e (given (∈_range G.m 0 m).1 (λ h. omega (arith, l))))

  second_edges : (M N : Plan) → length M ≡ G.m → keep (on (M ++ N)) (range (G.m + 0) H.m) ≡ map (λ e. G.m + e) (edges_in H.m (on N))
  second_edges M N l = ap (keep (on (M ++ N))) (range_up G.m 0 H.m)
      ∙ sym (map_keep (λ e. G.m + e) (on (M ++ N)) (range 0 H.m))
      ∙ ap (map (λ e. G.m + e)) (keep_cong (λ e. on (M ++ N) (G.m + e)) (on N) (range 0 H.m) (λ e m.
      ap (λ n. get_or (M ++ N) (n + e) false) (sym l) ∙ get_or-append-add M N e false))

  -- the pairs of a plan of the first with one of the second behind it: the first's pairs, then the second's, moved up
  pub pairs_joined : (M N : Plan) → length M ≡ G.m → plan_pairs (instance_of J) (M ++ N) ≡ pairs_beside r (plan_pairs G M) (plan_pairs H N)
  pairs_joined M N l =
      let name : ℕ → Named = name_of (instance_of J) in
      let z : 0 + G.m ≡ G.m + 0 = omega arith in
      ap (λ m. map name (edges_in m (on (M ++ N)))) (surveyors_beside r q okr okq).edges
      ∙ ap (λ es. map name (keep (on (M ++ N)) es)) (range_add 0 G.m H.m)
      ∙ ap (map name) (keep_append (on (M ++ N)) (range 0 G.m) (range (0 + G.m) H.m))
      ∙ map-append name (edges_in G.m (on (M ++ N))) (keep (on (M ++ N)) (range (0 + G.m) H.m))
      ∙ ap₂ ◌++◌
      (ap (map name) (first_edges M N l) ∙ map_cong name (name_of G) (edges_in G.m (on M)) (λ e m. name_first r q okr okq e (below G.m (on M) m)))
      (ap (map name) (ap (λ k. keep (on (M ++ N)) (range k H.m)) z ∙ second_edges M N l)
      ∙ map-map name (λ e. G.m + e) (edges_in H.m (on N))
      ∙ map_cong (λ e. name (G.m + e)) (λ e. pair_up (surveyor_count r) (stand_count r) (name_of H e)) (edges_in H.m (on N))
      (λ e m. name_second r q okr okq e (below H.m (on N) m))
      ∙ sym (map-map (pair_up (surveyor_count r) (stand_count r)) (name_of H) (edges_in H.m (on N))))
    where
      below : (n : ℕ) (p : ℕ → Bool) {e : ℕ} → e ∈ edges_in n p → e < n
      below n p m = given (∈_range n 0 (∈_keep p (range 0 n) m).0).1 (λ h. omega arith)

  -- its bytes: the count of all these pairs, and then the pairs
  pub bytes_joined : (M N : Plan) → length M ≡ G.m → plan_bytes (instance_of J) (M ++ N) ≡ pairs_bytes (pairs_beside r (plan_pairs G M) (plan_pairs H N))
  bytes_joined M N l = plan_bytes_law (instance_of J) (M ++ N) ∙ ap pairs_bytes (pairs_joined M N l)
