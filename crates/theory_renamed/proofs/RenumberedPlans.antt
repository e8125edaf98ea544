-- "The strongly popular plan of the renumbered roster is the renumbered plan, and none stays none": as an equation of the lists of strongly
-- popular plans, and in what the finder answers. Nothing is said of diaries.
use Rattle.std.specs.Prelude.{ℕ, ◌<◌, ◌≡◌, Bool, List, map, T, eqb, length}
use Rattle.std.proofs.Common.{arith, sym, ◌∙◌, subst, T_not}
use Rattle.std.proofs.Math.Path.{ap}
use Rattle.std.proofs.lemmas.List.{length-map}
use Rattle.lists.specs.Test.{given, by-test, bool_eq, and_i, eq→eqb}
use Rattle.lists.specs.Sum.{◌∈◌, range, ∈_range, range_∈}
use Rattle.lists.specs.Keep.{any?, any_∈, none_∈, keep_∈, ∈_keep}
use Rattle.lists.specs.Ranges.{map_cong}
use Rattle.model.specs.Instance.{Instance}
use Rattle.model.specs.Roster.{Roster, stand_count, fits}
use Rattle.model.specs.Edges.{instance_of}
use Rattle.model.specs.Plans.{Plan, on, strong_plans, strong_count}
use Rattle.model.specs.PlanFile.{Named, name_of, same_name, edges_in, edge_of_pair}
use Rattle.model.specs.Finder.{plan, finder_of, hands_back}
use Rattle.model_files.specs.Routes.{renumbered, pair_by, renumbered_plan}
use Rattle.theory_files.specs.Chosen.{on_plan_of, plan_of_cong}
use Rattle.theory_files.specs.PlanFiles.{name_parts, same_name_law, found}
use Rattle.theory_files.specs.RosterInstance.{lawful, fileable}
use Rattle.theory_finder.specs.Demand3.{demand3}
use Rattle.theory_renamed.specs.FinderAnswers.{plan_found, found_plan}
use Rattle.theory_renamed.specs.RouteNumbers.{Names, new_place, old_place}
use Rattle.theory_renamed.proofs.RenumberedFits.{fits_renumbered}
use Rattle.theory_renamed.specs.RenumberedEdges.{new_edge, old_edge}
use Rattle.theory_renamed.proofs.RenumberedEdges.{edge_becomes, by_edge, surveyors_moved, stands_moved}
use Rattle.theory_renamed.specs.Renaming.{renamed}
use Rattle.theory_renamed.proofs.Renaming.{strong_renamed}

is_same : (p q : Named) → T (same_name p q) → p ≡ q
is_same p q t = same_name_law p q (name_parts p q t)

eq→same : (p q : Named) → p ≡ q → T (same_name p q)
eq→same p q e = and_i (eqb p.surveyor q.surveyor) _ (eq→eqb p.surveyor q.surveyor (ap (λ z. z.surveyor) e))
    (and_i (eqb p.stand q.stand) (eqb p.shift q.shift) (eq→eqb p.stand q.stand (ap (λ z. z.stand) e))
    (eq→eqb p.shift q.shift (ap (λ z. z.shift) e)))

∈_any : {A : Type 0} (p : A → Bool) (xs : List A) {x : A} → x ∈ xs → T (p x) → T (any? p xs)
∈_any p xs {x} m t = by-test (any? p xs) (λ s. s) (λ s. absurd (T_not (p x) (none_∈ p xs s x m) t))

module _ (route : List ℕ) (r : Roster) (ok : T (fits r)) (N : Names route (stand_count r)) where
  abbrev G : Instance
  G = instance_of r

  abbrev R : Roster
  R = renumbered route r

  abbrev H : Instance
  H = instance_of R

  fits_r : T (fits R)
  fits_r = fits_renumbered route r ok N

  abbrev new : ℕ → ℕ
  new = new_edge route r ok N

  abbrev old : ℕ → ℕ
  old = old_edge route r ok N

  below : (m : ℕ) {e : ℕ} → e ∈ range 0 m → e < m
  below m k = given (∈_range m 0 k).1 (λ h. omega arith)

  same_count : H.m ≡ G.m
  same_count = (surveyors_moved route r ok N).edges

  -- a pair is in the renumbered plan exactly if the one that it was is in the plan
  on_renumbered : (M : Plan) (u : ℕ) → u < H.m
      → any? (λ d. same_name (pair_by route (name_of G d)) (name_of H u)) (edges_in G.m (on M)) ≡ on M (old u)
  on_renumbered M u l =
      let is : ℕ → Bool = λ d. same_name (pair_by route (name_of G d)) (name_of H u) in
      given (subst (λ m. u < m) same_count l) (λ k.
      given ((by_edge route r ok N).back u k) (λ lo.
      bool_eq (any? is (edges_in G.m (on M))) (on M (old u))
      (λ t. given (any_∈ is (edges_in G.m (on M)) t) (λ (d, m, s). given (∈_keep (on M) (range 0 G.m) m) (λ (md, on-d).
      subst (λ e. T (on M e)) (came d u (below G.m md) l (is_same (pair_by route (name_of G d)) (name_of H u) s)) on-d)))
      (λ t. ∈_any is (edges_in G.m (on M)) (keep_∈ (on M) (range 0 G.m) (range_∈ G.m 0 (old u) (omega arith) (omega arith)) t)
      (eq→same (pair_by route (name_of G (old u))) (name_of H u)
      (sym (edge_becomes route r ok N (old u) lo).name ∙ ap (name_of H) ((by_edge route r ok N).there u k))))))
    where
      -- an edge with that name is the one that it was
      came : (d u : ℕ) → d < G.m → u < H.m → pair_by route (name_of G d) ≡ name_of H u → d ≡ old u
      came d u ld lu e = sym ((by_edge route r ok N).here d ld) ∙ ap old (ap (edge_of_pair H) e ∙ found H (fileable R fits_r) u lu)

  plan_renamed : (M : Plan) → renumbered_plan route G H M
      ≡ renamed H G new old (λ v. v) (λ v. v) (new_place route (stand_count r) N) (old_place route (stand_count r) N) (surveyors_moved route r ok N)
      (stands_moved route r ok N) (lawful R fits_r) (lawful r ok) M
  unfolding renumbered_plan renamed
  plan_renamed M = plan_of_cong H.m _ (λ u. on M (old u)) (λ u l. on_renumbered M u l)

  -- the strongly popular plans of the renumbered roster are those of the roster, renumbered
  pub strong_renumbered : strong_plans H ≡ map (renumbered_plan route G H) (strong_plans G)
  strong_renumbered =
      strong_renamed H G new old (λ v. v) (λ v. v) (new_place route (stand_count r) N) (old_place route (stand_count r) N) (surveyors_moved route r ok N)
      (stands_moved route r ok N) (lawful R fits_r) (lawful r ok)
      ∙ sym (map_cong (renumbered_plan route G H) _ (strong_plans G) (λ M m. plan_renamed M))

  -- "none stays none"
  pub count_renumbered : strong_count H ≡ strong_count G
  count_renumbered = ap length strong_renumbered ∙ length-map (strong_plans G) (renumbered_plan route G H)

  -- each pair of a plan is in the renumbered plan under its new number, and no other is
  pub pair_renumbered : (M : Plan) (e : ℕ) → e < G.m
      → on (renumbered_plan route G H M) (edge_of_pair H (pair_by route (name_of G e))) ≡ on M e
  unfolding renumbered_plan
  pair_renumbered M e l = given (edge_becomes route r ok N e l).into (λ k.
      on_plan_of H.m _ (new e) k ∙ on_renumbered M (new e) k ∙ ap (on M) ((by_edge route r ok N).here e l))

  -- ---- what the finder answers
  module _ (ρ σ : Plan → Plan) where
    -- where the finder hands back a plan, for the renumbered roster it hands back the renumbered plan
    pub finder_renumbered : (M : Plan) → finder_of G ρ ≡ plan M → finder_of H σ ≡ plan (renumbered_plan route G H M)
    finder_renumbered M e = plan_found R fits_r σ (renumbered_plan route G H M)
        (strong_renumbered ∙ ap (map (renumbered_plan route G H)) (found_plan r ok ρ M e))

    -- the finder hands back a plan for the renumbered roster exactly when it does for the roster
    pub finder_alike : hands_back (finder_of H σ) ≡ hands_back (finder_of G ρ)
    finder_alike = (demand3 R fits_r σ).one ∙ ap (λ n. eqb n 1) count_renumbered ∙ sym (demand3 r ok ρ).one
