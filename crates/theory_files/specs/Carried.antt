-- The held plan when somebody joins or leaves (request W-202): a joiner leaves its pairs as they are, a leaver takes the own pairs away and
-- no other. It stays within the quotas, so that its bytes are a plan file of the changed roster.
use Prim.Native.Nat.{ℕ, suc, ◌≤◌, ◌<◌}
use native.Mathlib.Omega.{arith}
use Rattle.std.proofs.Math.Nat.{suc_inj}
use Rattle.std.proofs.Math.Decide.{dec_lt}
use Rattle.std.specs.Prelude.{◌≡◌, Bool, not, ◌&&◌, length, eqb}
use Rattle.std.proofs.Math.Path.{refl}
use Rattle.std.proofs.Common.{sym, ap, ap₂, ◌∙◌, subst, ltb→lt, lt→ltb, T_not}
use Rattle.std.proofs.Math.Logic.{by_cases}
use Rattle.std.proofs.Math.Bool.{true, false, and-true, and-false}
use mathlib.Core.List.{List, [], ◌∷◌, ◌++◌}
use Rattle.std.proofs.Math.ListN.{get_or, get_or-append, get_or-eq_default}
use Rattle.std.proofs.Math.Dec.{T, ltb, eqb-suc-suc}
use Rattle.lists.specs.Test.{given, and_l, and_r, by-eq, eq→eqb, T_true}
use Rattle.lists.specs.Sum.{◌∈◌}
use Rattle.model.specs.Limits.{plan_size}
use Rattle.model.specs.Instance.{Instance, surveyors, stands}
use Rattle.model.specs.Reading.{accepted}
use Rattle.model.specs.Roster.{Entry, Roster, surveyor_count, stand_count, listed, fits}
use Rattle.model.specs.Edges.{instance_of}
use Rattle.model.specs.Plans.{Plan, on, plans_of}
use Rattle.model.specs.PlanFile.{plan_of, plan_bytes, edge_of_pair, read_plan}
use Rattle.model_changes.specs.Changes.{joined, departed, carried, join_on, leave_on}
use Rattle.model_desk.specs.History.{plan_pairs}
use Rattle.theory_instance.specs.Degree.{deg_sub, deg_zero}
use Rattle.theory_instance.specs.Within.{within_matching, matching_within}
use Rattle.theory_files.specs.Reads.{is_bytes}
use Rattle.theory_files.specs.Chosen.{on_plan_of, plan_of_length, plan_of_on, plan_of_cong, plan_length, plan_within, within_plan}
use Rattle.theory_files.specs.PlanFiles.{found_parts, found, plan_write_read, plan_size_law}
use Rattle.theory_files.specs.RosterInstance.{lawful, fileable}
use Rattle.theory_files.specs.PlanCells.{same_bytes_law, same_degrees, Test, cells, cells_cong, cells_more, pairs_cells}
use Rattle.theory_files.specs.Joined.{joined_counts, listed_before, fits_joined, join_parts}
use Rattle.theory_files.specs.Departed.{departed_counts, departed_quota, listed_others, listed_leaver, fits_departed, leave_parts}

-- a plan that can be stored as bytes
abbrev pub PlanStorable : Instance → Plan → Type 0
PlanStorable H N = (N ∈ plans_of H) × (read_plan H (plan_bytes H N) ≡ accepted N) × (length (plan_bytes H N) ≤ plan_size)

plan_storable : (r : Roster) → T (fits r) → (N : Plan) → N ∈ plans_of (instance_of r) → PlanStorable (instance_of r) N
plan_storable r ok N m = (m, plan_write_read (instance_of r) (fileable r ok) N m, plan_size_law (instance_of r) (fileable r ok) N m)

-- the set of a plan is a test of the pairs' numbers
module _ (r : Roster) (ok : T (fits r)) (M : Plan) where
  abbrev G : Instance
  G = instance_of r

  abbrev named : ℕ → ℕ → ℕ → ℕ
  named i j k = edge_of_pair G (record { surveyor = suc i; stand = suc j; shift = k })

  abbrev had : Test
  had i j k = ltb (named i j k) G.m && on M (named i j k)

  abbrev had_at : Instance → ℕ → Bool
  had_at H e = had (H.sv e) (H.st e) (H.sh e)

  on_had : (e : ℕ) → e < G.m → had_at G e ≡ on M e
  on_had e l = ap (λ d. ltb d G.m && on M d) (found G (fileable r ok) e l) ∙ ap (λ b. b && on M e) (T_true {b = ltb e G.m} (lt→ltb e G.m l))

  -- no pair of the plan has a number above the surveyors
  none_had : (i j k : ℕ) → surveyor_count r ≤ i → had i j k ≡ false
  unfolding instance_of
  none_had i j k h = go (ltb (named i j k) G.m) refl
    where
      go : (b : Bool) → ltb (named i j k) G.m ≡ b → b && on M (named i j k) ≡ false
      go false e = refl
      go true e =
          given (ltb→lt (named i j k) G.m (subst T (sym e) tt)) (λ l.
          given (suc_inj (found_parts G (record { surveyor = suc i; stand = suc j; shift = k }) l).0) (λ q.
          absurd (omega (arith, (fileable r ok).inside_s (named i j k) l))))

  -- the pairs that a roster lists and the plan had
  abbrev kept : Roster → Test
  kept h i j k = listed h i j k && had i j k

  old_pairs : plan_pairs G M ≡ cells (kept r) (surveyor_count r) (stand_count r)
  old_pairs = pairs_cells r had M (λ e l. sym (on_had e l))

  new_pairs : (h : Roster) → plan_pairs (instance_of h) (carried G (instance_of h) M) ≡ cells (kept h) (surveyor_count h) (stand_count h)
  unfolding carried
  new_pairs h = pairs_cells h had (carried G (instance_of h) M) (λ e l. on_plan_of (instance_of h).m (had_at (instance_of h)) e l)

  -- a change that changes no roster, as to leave a second time, changes no plan
  pub carried_same : M ∈ plans_of G → carried G G M ≡ M
  unfolding carried
  carried_same m = plan_of_cong G.m (had_at G) (on M) on_had ∙ plan_of_on G.m M (plan_length G m)

  -- ---- a joiner
  module _ (q : ℕ) (list : List Entry) where
    -- the roster with the joiner
    abbrev J : Roster
    J = joined r q list

    carried_joined : plan_pairs (instance_of J) (carried G (instance_of J) M) ≡ plan_pairs G M
    carried_joined =
        let ns = surveyor_count r in
        given (joined_counts r q list ok) (λ (cs, ct).
        new_pairs J ∙ ap₂ (cells (kept J)) cs ct
        ∙ cells_more (kept J) ns (stand_count r) (λ j k. ap (λ b. listed J ns j k && b) (none_had ns j k (omega arith)) ∙ and-false (listed J ns j k))
        ∙ cells_cong (kept J) (kept r) ns (stand_count r) (λ i j k l. ap (λ b. b && had i j k) (listed_before r q list ok i j k l))
        ∙ sym old_pairs)

    carried_joined_bytes : plan_bytes (instance_of J) (carried G (instance_of J) M) ≡ plan_bytes G M
    carried_joined_bytes = same_bytes_law (instance_of J) G (carried G (instance_of J) M) M carried_joined

    carried_joined_within : M ∈ plans_of G → carried G (instance_of J) M ∈ plans_of (instance_of J)
    unfolding carried instance_of joined
    carried_joined_within m =
        let H = instance_of J in
        let N = carried G H M in
        given (within_matching G (on M) (lawful r ok) (plan_within G m)) (λ old.
        within_plan H N (plan_of_length H.m _) (matching_within H (on N) (record {
          at_s = λ v. given (same_degrees H G N M carried_joined v).0 (λ e. omega (arith, old.at_s v, front r.quotas_s (q ∷ []) v));
          at_t = λ v. given (same_degrees H G N M carried_joined v).1 (λ e. omega (arith, old.at_t v));
        })))
      where
        front : (xs ys : List ℕ) (v : ℕ) → get_or xs v 0 ≤ get_or (xs ++ ys) v 0
        front xs ys v = by_cases (dec_lt v (length xs))
            (λ l. omega (arith, get_or-append xs ys 0 v l))
            (λ n. let e : get_or xs v 0 ≡ 0 = get_or-eq_default xs 0 (omega arith) in omega arith)

  -- ---- a leaver
  module _ (v : ℕ) (inside : v < surveyor_count r) where
    -- the roster without the leaver
    abbrev D : Roster
    D = departed r (suc v)

    -- the plan's pairs that are not the leaver's
    abbrev rest : Plan
    rest = plan_of G.m (λ e. on M e && not (eqb (G.sv e) v))

    on_rest : (e : ℕ) → e < G.m → on rest e ≡ on M e && not (eqb (G.sv e) v)
    on_rest e l = on_plan_of G.m (λ e. on M e && not (eqb (G.sv e) v)) e l

    -- those that the plan had and are not the leaver's
    abbrev stays : Test
    stays i j k = had i j k && not (eqb i v)

    kept_stays : (i j k : ℕ) → kept D i j k ≡ listed r i j k && stays i j k
    kept_stays i j k = by-eq i v
        (λ e t. ap (λ b. b && had i j k) (ap (λ n. listed D n j k) e ∙ listed_leaver r v ok inside j k)
        ∙ sym (ap (λ b. listed r i j k && (had i j k && not b)) t ∙ ap (λ b. listed r i j k && b) (and-false (had i j k)) ∙ and-false (listed r i j k)))
        (λ n t. ap (λ b. b && had i j k) (listed_others r v i j k n)
        ∙ sym (ap (λ b. listed r i j k && (had i j k && not b)) t ∙ ap (λ b. listed r i j k && b) (and-true (had i j k))))

    carried_departed : plan_pairs (instance_of D) (carried G (instance_of D) M) ≡ plan_pairs G rest
    carried_departed =
        given (departed_counts r v) (λ (cs, ct).
        new_pairs D ∙ ap₂ (cells (kept D)) cs ct
        ∙ cells_cong (kept D) (λ i j k. listed r i j k && stays i j k) (surveyor_count r) (stand_count r) (λ i j k l. kept_stays i j k)
        ∙ sym (pairs_cells r stays rest (λ e l. on_rest e l ∙ ap (λ b. b && not (eqb (G.sv e) v)) (sym (on_had e l)))))

    carried_departed_bytes : plan_bytes (instance_of D) (carried G (instance_of D) M) ≡ plan_bytes G rest
    carried_departed_bytes = same_bytes_law (instance_of D) G (carried G (instance_of D) M) rest carried_departed

    carried_departed_within : M ∈ plans_of G → carried G (instance_of D) M ∈ plans_of (instance_of D)
    unfolding carried instance_of departed
    carried_departed_within m =
        let H = instance_of D in
        let N = carried G H M in
        given (within_matching G (on M) (lawful r ok) (plan_within G m)) (λ old.
        within_plan H N (plan_of_length H.m _) (matching_within H (on N) (record {
          at_s = λ u. given (same_degrees H G N rest carried_departed u).0 (λ e. by-eq u v
              (λ w t. given (deg_zero (surveyors G) (on rest) u (λ d l i s. gone d l (i ∙ w) s)) (λ z. omega arith))
              (λ n t. omega (arith, old.at_s u, deg_sub (surveyors G) (on rest) (on M) u (λ d l i s. still d l s), departed_quota r v u n)));
          at_t = λ u. given (same_degrees H G N rest carried_departed u).1 (λ e. omega (
            arith,
            old.at_t u,
            deg_sub (stands G) (on rest) (on M) u
                (λ d l i s. still d l s),
          ));
        })))
      where
        still : (e : ℕ) → e < G.m → T (on rest e) → T (on M e)
        still e l t = and_l (on M e) (not (eqb (G.sv e) v)) (subst T (on_rest e l) t)

        gone : (e : ℕ) → e < G.m → G.sv e ≡ v → T (on rest e) → ⊥
        gone e l i t = T_not (eqb (G.sv e) v) (and_r (on M e) (not (eqb (G.sv e) v)) (subst T (on_rest e l) t)) (eq→eqb (G.sv e) v i)

-- ---- the calls
-- the plan M of r, carried over to h, has the bytes of the plan N of r and can be stored
abbrev pub Carries : (r h : Roster) (M N : Plan) → Type 0
Carries r h M N = (plan_bytes (instance_of h) (carried (instance_of r) (instance_of h) M) ≡ plan_bytes (instance_of r) N)
    × PlanStorable (instance_of h) (carried (instance_of r) (instance_of h) M)

-- the pairs of a plan whose surveyor has another number
abbrev pub besides : Instance → Plan → (number : ℕ) → Plan
besides G M s = plan_of G.m (λ e. on M e && not (eqb (suc (G.sv e)) s))

module _ (r : Roster) (ok : T (fits r)) (M : Plan) (m : M ∈ plans_of (instance_of r)) (h : Roster) where
  -- when a joiner is taken in, the held plan keeps its bytes and can be stored with the new roster
  pub join_plan : (q : ℕ) (file : List ℕ) → T (is_bytes file) → join_on r q file ≡ accepted h → Carries r h M M
  join_plan q file is_b e = given (join_parts r q file h is_b e) (λ J. subst (λ h. Carries r h M M) (sym J.is) (
    carried_joined_bytes r ok M q J.list,
    plan_storable (joined r q J.list) (fits_joined r q J.list ok J.quota J.room J.places J.fit J.short)
        (carried (instance_of r) (instance_of (joined r q J.list)) M) (carried_joined_within r ok M q J.list m),
  ))

  -- when a surveyor leaves, the held plan has the bytes of its pairs besides the leaver's and can be stored with the new roster
  pub leave_plan : (s : ℕ) → leave_on r s ≡ accepted h → Carries r h M (besides (instance_of r) M s)
  leave_plan s e = given (leave_parts r s h e) (λ L. let v = L.place in
      subst (λ s. Carries r h M (besides (instance_of r) M s)) (sym L.number) (subst (λ h. Carries r h M (besides (instance_of r) M (suc v))) (sym L.is) (
        carried_departed_bytes r ok M v L.inside ∙ ap (plan_bytes (instance_of r)) (plan_of_cong (instance_of r).m
            (λ e. on M e && not (eqb ((instance_of r).sv e) v)) (λ e. on M e && not (eqb (suc ((instance_of r).sv e)) (suc v)))
            (λ e l. ap (λ b. on M e && not b) (sym (eqb-suc-suc ((instance_of r).sv e) v)))),
        plan_storable (departed r (suc v)) (fits_departed r v ok L.inside) (carried (instance_of r) (instance_of (departed r (suc v))) M)
            (carried_departed_within r ok M v L.inside m),
      )))
