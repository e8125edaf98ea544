-- What the finder hands back, by the list of strongly popular plans alone: the plan where there is one.
use Rattle.std.specs.Prelude.{◌≡◌, List, [], ◌∷◌, T}
use Rattle.std.proofs.Common.{sym, ◌∙◌, subst}
use Rattle.std.proofs.Math.Path.{ap}
use Rattle.model.specs.Instance.{Instance}
use Rattle.model.specs.Roster.{Roster, fits}
use Rattle.model.specs.Edges.{instance_of}
use Rattle.model.specs.Plans.{Plan, strong_plans}
use Rattle.model.specs.Finder.{Found, plan, left, rivalled, finder_of}
use Rattle.theory_finder.specs.FoundPlan.{Answers}
use Rattle.theory_finder.specs.Demand3.{demand3}

head_or : Plan → List Plan → Plan
head_or d [] = d
head_or d (M ∷ Ms) = M

some_not : {M : Plan} {Ms : List Plan} → M ∷ Ms ≡ [] → ⊥
some_not e = subst Some e tt
  where
    Some : List Plan → Type 0
    Some [] = ⊥
    Some (M ∷ Ms) = Unit {0}

module _ (r : Roster) (ok : T (fits r)) (rival : Plan → Plan) where
  abbrev G : Instance
  G = instance_of r

  abbrev answer : Found
  answer = finder_of G rival

  pub plan_found : (M : Plan) → strong_plans G ≡ M ∷ [] → answer ≡ plan M
  unfolding head_or
  plan_found M e = go answer (demand3 r ok rival).answers
    where
      go : (a : Found) → Answers G a → a ≡ plan M
      go (plan N) f = ap (λ Ms. plan (head_or N Ms)) (sym f ∙ e)
      go (left es) (f, x, y) = absurd (some_not (sym e ∙ f))
      go (rivalled F N v) (f, x, y, z) = absurd (some_not (sym e ∙ f))

  pub found_plan : (M : Plan) → answer ≡ plan M → strong_plans G ≡ M ∷ []
  found_plan M e = go answer (demand3 r ok rival).answers e
    where
      plan_in : Found → Plan
      plan_in (plan N) = N
      plan_in (left es) = M
      plan_in (rivalled F N v) = M

      is_plan : Found → Type 0
      is_plan (plan N) = Unit {0}
      is_plan (left es) = ⊥
      is_plan (rivalled F N v) = ⊥

      go : (a : Found) → Answers G a → a ≡ plan M → strong_plans G ≡ M ∷ []
      go (plan N) f e = f ∙ ap (λ a. plan_in a ∷ []) e
      go (left es) f e = absurd (subst is_plan (sym e) tt)
      go (rivalled F N v) f e = absurd (subst is_plan (sym e) tt)
