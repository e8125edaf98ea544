-- The theorems that rest on specs/JoinedPlans.antt. They stand here so that a wrong definition there is refused by a proof.
use Rattle.std.specs.Prelude.{ℕ, ◌*◌, ◌≡◌, refl, true, false, not, ◌&&◌, List, [], ◌∷◌, ◌++◌, map, length, T, eqb}
use Rattle.std.proofs.Common.{arith, sym, ap, ap₂, ◌∙◌, length-append, eqb→eq}
use Rattle.std.proofs.lemmas.List.{length-map}
use Rattle.lists.specs.Test.{true_t}
use Rattle.model.specs.Instance.{Instance}
use Rattle.model.specs.Roster.{Roster, fits}
use Rattle.model.specs.Edges.{instance_of}
use Rattle.model.specs.Plans.{Plan, strong_plans, strong_count}
use Rattle.model.specs.Finder.{Found, plan, left, rivalled, finder_of, hands_back}
use Rattle.model_files.specs.Districts.{side_by_side}
use Rattle.theory_files.specs.RosterInstance.{lawful}
use Rattle.theory_finder.specs.Demand3.{demand3}
use Rattle.theory_renamed.specs.FinderAnswers.{plan_found, found_plan}
use Rattle.theory_renamed.specs.BothStrong.{all_beside}
use Rattle.theory_renamed.proofs.BothStrong.{strong_beside}
use Rattle.theory_renamed.specs.JoinedFits.{Room, fits_joined}
use Rattle.theory_renamed.specs.JoinedEdges.{surveyors_beside, stands_beside}

-- so many lists, each so long
count_beside : (gs hs : List Plan) → length (all_beside gs hs) ≡ length gs * length hs
count_beside [] hs = omega arith
count_beside (M ∷ gs) hs = omega (arith, length-append (map (λ N. M ++ N) hs) (all_beside gs hs), length-map hs (λ N. M ++ N), count_beside gs hs)

module _ (r q : Roster) (okr : T (fits r)) (okq : T (fits q)) (room : Room r q) where
  abbrev G : Instance
  G = instance_of r

  abbrev H : Instance
  H = instance_of q

  abbrev J : Roster
  J = side_by_side r q

  ok : T (fits J)
  ok = fits_joined r q okr okq room

  -- ---- the strongly popular plans
  -- those of the joined roster are each of the first beside each of the second
  pub strong_joined : strong_plans (instance_of J) ≡ all_beside (strong_plans G) (strong_plans H)
  strong_joined = strong_beside (instance_of J) G H (surveyors_beside r q okr okq) (stands_beside r q okr okq) (lawful J ok) (lawful r okr) (lawful q okq)

  -- "exactly when both have one"
  pub count_joined : strong_count (instance_of J) ≡ strong_count G * strong_count H
  count_joined = ap length strong_joined ∙ count_beside (strong_plans G) (strong_plans H)

  -- ---- what the finder answers: a plan exactly when it does for both, and then the two side by side
  module _ (ρ ρ₁ ρ₂ : Plan → Plan) where
    -- where the finder hands back a plan for each of the two rosters, for the joined one it hands back the two side by side
    pub finder_joined : (M N : Plan) → finder_of G ρ₁ ≡ plan M → finder_of H ρ₂ ≡ plan N → finder_of (instance_of J) ρ ≡ plan (M ++ N)
    finder_joined M N d e = plan_found J ok ρ (M ++ N)
        (strong_joined ∙ ap₂ all_beside (found_plan r okr ρ₁ M d) (found_plan q okq ρ₂ N e))

    -- the finder hands back a plan for the joined roster exactly when it does for both
    pub finder_both : hands_back (finder_of (instance_of J) ρ) ≡ hands_back (finder_of G ρ₁) && hands_back (finder_of H ρ₂)
    finder_both = go (finder_of G ρ₁) (finder_of H ρ₂) refl refl
      where
        -- none where one of the counts is 0
        none : strong_count G * strong_count H ≡ 0 → hands_back (finder_of (instance_of J) ρ) ≡ false
        none z = (demand3 J ok ρ).one ∙ ap (λ n. eqb n 1) (count_joined ∙ z)

        zero_is : (n : ℕ) → eqb n 0 ≡ true → n ≡ 0
        zero_is n e = eqb→eq n 0 (true_t e)

        no_plan_law : (s : Roster) (t : T (fits s)) (σ : Plan → Plan) → hands_back (finder_of (instance_of s) σ) ≡ false → strong_count (instance_of s) ≡ 0
        no_plan_law s t σ e = zero_is (strong_count (instance_of s)) (sym (demand3 s t σ).none ∙ ap not e)

        left_zero : (a b : ℕ) → a ≡ 0 → a * b ≡ 0
        left_zero a b e = ap (λ z. z * b) e ∙ (let z : 0 * b ≡ 0 = omega arith in z)

        right_zero : (a b : ℕ) → b ≡ 0 → a * b ≡ 0
        right_zero a b e = ap (λ z. a * z) e ∙ (let z : a * 0 ≡ 0 = omega arith in z)

        go : (a b : Found) → finder_of G ρ₁ ≡ a → finder_of H ρ₂ ≡ b → hands_back (finder_of (instance_of J) ρ) ≡ hands_back a && hands_back b
        go (plan M) (plan N) d e = ap hands_back (finder_joined M N d e)
        go (plan M) (left es) d e = none (right_zero (strong_count G) (strong_count H) (no_plan_law q okq ρ₂ (ap hands_back e)))
        go (plan M) (rivalled F K v) d e = none (right_zero (strong_count G) (strong_count H) (no_plan_law q okq ρ₂ (ap hands_back e)))
        go (left es) b d e = none (left_zero (strong_count G) (strong_count H) (no_plan_law r okr ρ₁ (ap hands_back d)))
        go (rivalled F K v) b d e = none (left_zero (strong_count G) (strong_count H) (no_plan_law r okr ρ₁ (ap hands_back d)))
