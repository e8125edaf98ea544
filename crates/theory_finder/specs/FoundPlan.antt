-- Demand 3, about the model's own definitions: with pairs left after the steps there is no strongly popular plan; with none left it is
-- the fixed plan alone if that plan is strong, and there is none if not. So the finder hands back a plan exactly when the count is one,
-- and says none exactly when it is zero. And a strongly popular plan has no blocking pair.
use Rattle.std.specs.Prelude.{ℕ, ◌≡◌, ◌≢◌, Bool, true, false, not, ◌&&◌, length, pos, ◌<ℤ◌, eqb, ltb}
use Rattle.std.proofs.Common.{arith, sym, ap, ◌∙◌, inl, inr, ⊎_elim, ltb→lt, eqb→eq}
use Rattle.std.proofs.Math.Path.{refl, subst}
use mathlib.Core.List.{List, [], ◌∷◌}
use Rattle.std.proofs.Math.Dec.{T, not_T}
use Rattle.lists.specs.Test.{given, T_false, and_l, and_r, or_case}
use Rattle.lists.specs.Sum.{◌∈◌, range, ∈_range, up_to, up_to_<}
use Rattle.lists.specs.Keep.{keep_∈, ∈_keep, any?, any_∈}
use Rattle.lists.specs.Distinct.{Nodup, nodup_keep, only_one, no_element}
use Rattle.model.specs.Instance.{Instance, Side, surveyors, stands, deg}
use Rattle.model.specs.Plans.{Plan, on, choices, within, plans_of, Verdict, strong, popular, beaten, is_strong, vote_of, verdict_of, strong_plans, strong_count}
use Rattle.model.specs.PlanFile.{edges_in, plan_of}
use Rattle.model.specs.Reduction.{end_of}
use Rattle.model.specs.Blocking.{yields, blocks, some_blocks}
use Rattle.model.specs.Finder.{left_of, candidate_of, Found, plan, left, rivalled, hands_back, found, is_empty, finder_of}
use Rattle.theory_instance.specs.Lawful.{Lawful}
use Rattle.theory_instance.specs.Walk.{NoBad}
use Rattle.theory_verdict.specs.Strong.{Strong}
use Rattle.theory_verdict.specs.LemmaW.{no_bad_law}
use Rattle.theory_reduction.specs.AlternatingPath.{Welcome}
use Rattle.theory_reduction.proofs.AlternatingPath.{no_blocking}
use Rattle.theory_reduction.proofs.Course.{end_matching}
use Rattle.theory_reduction.proofs.Run.{left_none, is_fixed}
use Rattle.theory_files.specs.Chosen.{choices_once}
use Rattle.theory_verdict.specs.Plans.{plan_matching, plan_of_same, edges_plan, matching_plan, other_plan_law, vote_plan_of}
use Rattle.theory_verdict.specs.Meaning.{strong_means}

strong_is : (v : Verdict) → T (is_strong v) → v ≡ strong
strong_is strong t = refl
strong_is popular t = absurd t
strong_is beaten t = absurd t

module _ (G : Instance) where
  -- what an answer says of the strongly popular plans
  abbrev pub Answers : Found → Type 0
  Answers (plan M) = strong_plans G ≡ M ∷ []
  Answers (left es) = (strong_plans G ≡ []) × (es ≡ left_of G) × (es ≢ [])
  Answers (rivalled F N v) = (strong_plans G ≡ []) × (left_of G ≡ []) × (F ≡ candidate_of G) × (v ≡ vote_of G F N)

module _ (G : Instance) (L : Lawful G) where
  -- ---- a strong plan, by the votes against all plans, is strong against all matchings
  strong_matching : (M : Plan) → M ∈ plans_of G → verdict_of G M ≡ strong → Strong G (on M)
  strong_matching M m e = record {
    plan = plan_matching G L m;
    wins = λ N h o. subst (λ z. ◌<ℤ◌ (pos 0) z) (sym (vote_plan_of G M N)) ((strong_means G M L m).0 e (plan_of G.m N) (matching_plan G h) (other_plan_law G M o));
  }

  strong_walks : (M : Plan) → M ∈ plans_of G → verdict_of G M ≡ strong → NoBad G (on M)
  strong_walks M m e = no_bad_law G (on M) L (strong_matching M m e)

  -- a member of the list of strongly popular plans
  pub strong_member : (M : Plan) → M ∈ strong_plans G → (M ∈ plans_of G) × (verdict_of G M ≡ strong)
  unfolding strong_plans
  strong_member M m = given (∈_keep (λ N. is_strong (verdict_of G N)) (plans_of G) m) (λ (k, t). (k, strong_is (verdict_of G M) t))

  -- ---- no pair is left, and the plan is the fixed one
  nothing_left : (M : Plan) → M ∈ strong_plans G → left_of G ≡ []
  unfolding left_of
  nothing_left M m = given (strong_member M m) (λ (k, e). no_element (edges_in G.m (end_of G).rem) (λ d h.
      given (∈_keep (end_of G).rem (range 0 G.m) h)
      (λ (r, t). left_none L (plan_matching G L k) (strong_walks M k e) d (given (∈_range G.m 0 r).1 (λ l. omega arith)) t)))

  -- the fixed pairs are a plan within the quotas
  pub candidate_plan : candidate_of G ∈ plans_of G
  unfolding candidate_of
  candidate_plan = matching_plan G (end_matching G)

  the_candidate : (M : Plan) → M ∈ strong_plans G → M ≡ candidate_of G
  unfolding candidate_of
  the_candidate M m = given (strong_member M m) (λ (k, e). edges_plan G k candidate_plan
      (λ d l. is_fixed L (plan_matching G L k) (strong_walks M k e) d l ∙ plan_of_same G (end_of G).fixed d l))

  plans_once : Nodup (plans_of G)
  unfolding plans_of
  plans_once = nodup_keep (λ M. within G (on M)) (choices G.m) (choices_once G.m)

  strong_plans_once : Nodup (strong_plans G)
  unfolding strong_plans
  strong_plans_once = nodup_keep (λ M. is_strong (verdict_of G M)) (plans_of G) plans_once

  -- ---- the three sentences of demand 3
  -- pairs left: no strongly popular plan
  pub left_empty : left_of G ≢ [] → strong_plans G ≡ []
  left_empty h = no_element (strong_plans G) (λ M m. h (nothing_left M m))

  -- the fixed plan is strong: it is the only one
  pub fixed_strong : verdict_of G (candidate_of G) ≡ strong → strong_plans G ≡ candidate_of G ∷ []
  unfolding strong_plans
  fixed_strong e = only_one (strong_plans G) (candidate_of G) strong_plans_once
      (keep_∈ (λ M. is_strong (verdict_of G M)) (plans_of G) candidate_plan (subst (λ v. T (is_strong v)) (sym e) tt)) the_candidate

  -- it is not: there is none
  pub fixed_rivalled : verdict_of G (candidate_of G) ≢ strong → strong_plans G ≡ []
  fixed_rivalled h = no_element (strong_plans G) (λ M m. h (ap (verdict_of G) (sym (the_candidate M m)) ∙ (strong_member M m).1))

  -- ---- the finder's answer
  -- what the finder answers, whichever rival it names, is so of the strongly popular plans
  pub finder_answers : (rival_of : Plan → Plan) → Answers G (finder_of G rival_of)
  unfolding finder_of
  finder_answers rival_of = by_left (left_of G) refl
    where
      judged : left_of G ≡ [] → (v : Verdict) → verdict_of G (candidate_of G) ≡ v → Answers G (found G rival_of v)
      judged n strong e = fixed_strong e
      judged n popular e = (fixed_rivalled (λ q. apart (sym e ∙ q)), n, refl, refl)
        where
          apart : popular ≡ strong → ⊥
          apart q = subst (λ v. T (not (is_strong v))) q tt
      judged n beaten e = (fixed_rivalled (λ q. apart (sym e ∙ q)), n, refl, refl)
        where
          apart : beaten ≡ strong → ⊥
          apart q = subst (λ v. T (not (is_strong v))) q tt

      some : (x : ℕ) (xs : List ℕ) → x ∷ xs ≢ []
      some x xs q = subst (λ z. T (not (is_empty z))) q tt

      by_left : (es : List ℕ) → left_of G ≡ es
          → Answers G (elim (is_empty es) as (λ b. Found) [ true ↦ found G rival_of (verdict_of G (candidate_of G)) | false ↦ left es ])
      by_left [] e = judged e (verdict_of G (candidate_of G)) refl
      by_left (x ∷ xs) e = (left_empty (λ q. some x xs (sym e ∙ q)), sym e, some x xs)

  -- a plan is handed back exactly when the count is one, none is said exactly when it is zero
  counted : (a : Found) → Answers G a → (hands_back a ≡ eqb (strong_count G) 1) × (not (hands_back a) ≡ eqb (strong_count G) 0)
  counted (plan M) e = (ap (λ Ms. eqb (length Ms) 1) (sym e), ap (λ Ms. eqb (length Ms) 0) (sym e))
  counted (left es) (e, x, y) = (ap (λ Ms. eqb (length Ms) 1) (sym e), ap (λ Ms. eqb (length Ms) 0) (sym e))
  counted (rivalled F N v) (e, x, y, z) = (ap (λ Ms. eqb (length Ms) 1) (sym e), ap (λ Ms. eqb (length Ms) 0) (sym e))

  pub finder_counts : (rival_of : Plan → Plan)
      → (hands_back (finder_of G rival_of) ≡ eqb (strong_count G) 1) × (not (hands_back (finder_of G rival_of)) ≡ eqb (strong_count G) 0)
  finder_counts rival_of = counted (finder_of G rival_of) (finder_answers rival_of)

  -- ---- a strongly popular plan has no blocking pair
  welcome : (K : Side) (M : ℕ → Bool) (f : ℕ) → T (yields K M f) → Welcome K M f
  welcome K M f t = ⊎_elim
      (λ h. inl (ltb→lt (deg K M (K.end f)) (K.quota (K.end f)) h))
      (λ h. given (any_∈ (worse K M f) (up_to K.m) h) (λ (x, m, w).
      let u = and_r (M x) (eqb (K.end x) (K.end f) && ltb (K.rank f) (K.rank x)) w in
      inr (
        x,
        up_to_< K.m m,
        and_l (M x) (eqb (K.end x) (K.end f) && ltb (K.rank f) (K.rank x)) w,
        sym (eqb→eq (K.end x) (K.end f) (and_l (eqb (K.end x) (K.end f)) (ltb (K.rank f) (K.rank x)) u)),
        ltb→lt (K.rank f) (K.rank x) (and_r (eqb (K.end x) (K.end f)) (ltb (K.rank f) (K.rank x)) u),
      )))
      (or_case (ltb (deg K M (K.end f)) (K.quota (K.end f))) (any? (worse K M f) (up_to K.m)) t)
    where
      worse : Side → (ℕ → Bool) → ℕ → ℕ → Bool
      worse K M f d = M d && (eqb (K.end d) (K.end f) && ltb (K.rank f) (K.rank d))

  pub strong_unblocked : (M : Plan) → M ∈ strong_plans G → some_blocks G (on M) ≡ false
  unfolding some_blocks blocks
  strong_unblocked M m = given (strong_member M m) (λ (k, e). T_false (not_T (some_blocks G (on M)) (λ t.
      given (any_∈ (blocks G (on M)) (up_to G.m) t) (λ (f, l, b).
      let c = and_r (ltb f G.m) (not (on M f) && (yields (surveyors G) (on M) f && yields (stands G) (on M) f)) b in
      let d = and_r (not (on M f)) (yields (surveyors G) (on M) f && yields (stands G) (on M) f) c in
      no_blocking (strong_walks M k e) f (up_to_< G.m l) (and_l (not (on M f)) (yields (surveyors G) (on M) f && yields (stands G) (on M) f) c)
      (welcome (surveyors G) (on M) f (and_l (yields (surveyors G) (on M) f) (yields (stands G) (on M) f) d))
      (welcome (stands G) (on M) f (and_r (yields (surveyors G) (on M) f) (yields (stands G) (on M) f) d))))))
