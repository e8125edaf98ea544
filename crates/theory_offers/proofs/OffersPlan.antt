-- The theorems that rest on specs/OffersPlan.antt. They stand here so that a wrong definition there is refused by a proof.
use Rattle.std.specs.Prelude.{ℕ, ◌<◌, ◌≡◌, refl, not, ◌&&◌, T, eqb, ltb, pos, ◌≤ℤ◌}
use Rattle.std.proofs.Common.{arith, ap, ◌∙◌, subst, T_not}
use Rattle.std.proofs.Math.Decide.{dec_lt}
use Rattle.std.proofs.Math.Path.{sym}
use Rattle.std.proofs.Math.Logic.{by_cases}
use Rattle.std.proofs.Math.Bool.{false}
use mathlib.Core.List.Memᴰ
use mathlib.Core.List.{[]}
use Rattle.std.proofs.Math.Dec.{not_T}
use Rattle.std.specs.Int.Signed.{clash_ℤ}
use Rattle.lists.specs.Test.{by-test, given, T_false, bit_one, and_l, and_r, eq→eqb, false_t}
use Rattle.lists.specs.Sum.{◌∈◌, up_to, up_to_<}
use Rattle.lists.specs.Keep.{any_∈, keep_∈}
use Rattle.lists.specs.Integer.{sub_≤}
use Rattle.model.specs.Instance.{Instance, Side, surveyors, stands, deg}
use Rattle.model.specs.Plans.{Plan, on, plans_of, same_plan, vote_of, is_strong, verdict_of, strong_plans}
use Rattle.model.specs.Blocking.{yields, blocks, some_blocks}
use Rattle.model.specs.Finder.{Found, plan, left, rivalled, finder_of, hands_back}
use Rattle.model_files.specs.Offers.{Offers, offers_from, no_offers, offers_plan}
use Rattle.theory_instance.specs.Lawful.{Lawful, Within, Matching, Same}
use Rattle.theory_instance.specs.Degree.{deg_sub, deg_some, deg_only}
use Rattle.theory_votes.specs.Score.{tally, quotas}
use Rattle.theory_votes.specs.Signed.{vote_tally}
use Rattle.theory_votes.specs.PlanVotes.{vote_same}
use Rattle.theory_verdict.specs.Plans.{same_plan_law, plan_matching, matching_plan, plan_of_same}
use Rattle.theory_finder.specs.FoundPlan.{Answers, strong_member, finder_answers}
use Rattle.theory_finder.specs.OnlyPopular.{others_below}
use Rattle.theory_offers.specs.KeptOffers.{Kept}
use Rattle.theory_offers.specs.OffersEnd.{unblocked}
use Rattle.theory_offers.proofs.OffersEnd.{offers_end}
use Rattle.theory_offers.proofs.Unbeaten.{unbeaten}
use Rattle.theory_offers.specs.OffersPlan.{OneToOne, blocks_same}

module _ (G : Instance) (L : Lawful G) (O : OneToOne G) where
  z : Offers
  z = offers_from G G.m (no_offers G)

  H : Kept G L O.strict z
  unfolding z
  H = (offers_end G L O.strict).0

  -- at most one edge at a node
  single : (K : Side) → ((e : ℕ) → e < K.m → K.end e < K.n) → ((v : ℕ) → v < K.n → K.quota v ≡ 1)
      → ((d e : ℕ) → (d < K.m) × T (z.kept d) → (e < K.m) × T (z.kept e) → K.end d ≡ K.end e → d ≡ e) → Within K z.kept
  single K inside q one v = by_cases (dec_lt 0 (deg K z.kept v))
      (λ h. let (x, l, t, i) = deg_some K z.kept v h in omega (
        arith,
        deg_sub K z.kept (λ d. eqb d x) v (λ e k j s. eq→eqb e x (one e x (k, s) (l, t) (j ∙ sym i))),
        deg_only K x v l,
        bit_one (eqb v (K.end x)),
        q v (subst (λ y. y < K.n) i (inside x l)),
      ))
      (λ h. omega arith)

  kept_matching : Matching G z.kept
  kept_matching = record {
    at_s = single (surveyors G) L.at_s.inside O.quota_s H.one_s;
    at_t = single (stands G) L.at_t.inside O.quota_t H.one_t;
  }

  none_wanted : (f : ℕ) → f < G.m → z.kept f ≡ false → T (not (yields (surveyors G) z.kept f && yields (stands G) z.kept f))
  unfolding z
  none_wanted f l n = let a = yields (surveyors G) z.kept f in let b = yields (stands G) z.kept f in
      not_T (a && b) (λ t. unblocked G L O.strict z (offers_end G L O.strict) O.most_s O.most_t f l (false_t n) (and_l a b t) (and_r a b t))

  -- ---- the plan
  same_kept : Same G z.kept (on (offers_plan G))
  unfolding offers_plan z
  same_kept = plan_of_same G z.kept

  -- the plan of the offers is within the quotas
  pub offers_plan_law : offers_plan G ∈ plans_of G
  unfolding offers_plan z
  offers_plan_law = matching_plan G kept_matching

  -- "plain offers give a plan without blocking pairs"
  pub no_blocking : some_blocks G (on (offers_plan G)) ≡ false
  unfolding some_blocks blocks
  no_blocking = sym (blocks_same G z.kept (on (offers_plan G)) same_kept) ∙ T_false (not_T (some_blocks G z.kept) (λ t.
      given (any_∈ (blocks G z.kept) (up_to G.m) t) (λ (f, m, b).
      let c = and_r (ltb f G.m) (not (z.kept f) && (yields (surveyors G) z.kept f && yields (stands G) z.kept f)) b in
      let n = and_l (not (z.kept f)) (yields (surveyors G) z.kept f && yields (stands G) z.kept f) c in
      let y = and_r (not (z.kept f)) (yields (surveyors G) z.kept f && yields (stands G) z.kept f) c in
      absurd (T_not (yields (surveyors G) z.kept f && yields (stands G) z.kept f) (none_wanted f (up_to_< G.m m) (T_false n)) y))))

  -- "No vote of that plan against another is below zero."
  pub no_vote_below : (N : Plan) → N ∈ plans_of G → pos 0 ≤ℤ vote_of G (offers_plan G) N
  no_vote_below N n =
      let q = plan_matching G L n in
      subst (λ v. pos 0 ≤ℤ v) (sym (vote_tally G z.kept (on N) kept_matching q)
      ∙ vote_same G z.kept (on N) (on (offers_plan G)) (on N) same_kept (λ e l. refl))
      (sub_≤ 0 0 (tally G z.kept (on N)) (quotas G) (omega (arith, unbeaten G L O.strict z.kept (on N) kept_matching q none_wanted)))

  -- a strongly popular plan is this one
  pub strong_is_offers : (M : Plan) → M ∈ strong_plans G → M ≡ offers_plan G
  strong_is_offers M s = by-test (same_plan M (offers_plan G)) (λ t. (same_plan_law M (offers_plan G)).0 t)
      (λ t. absurd (clash_ℤ (others_below G L M s (offers_plan G) offers_plan_law t) (no_vote_below M (strong_member G L M s).0)))

  -- ---- the finder
  -- "and then the two plans are the same"
  pub finder_same : (rival_of : Plan → Plan) (M : Plan) → finder_of G rival_of ≡ plan M → M ≡ offers_plan G
  finder_same rival_of M e = strong_is_offers M (subst (λ Ms. M ∈ Ms) (sym (subst (Answers G) e (finder_answers G L rival_of))) (Memᴰ.head refl))

  -- "it is so exactly when the general finder hands back a plan"
  pub strong_when_law : (rival_of : Plan → Plan) → is_strong (verdict_of G (offers_plan G)) ≡ hands_back (finder_of G rival_of)
  unfolding strong_plans
  strong_when_law rival_of = by_answer (finder_of G rival_of) (finder_answers G L rival_of)
    where
      none_strong : strong_plans G ≡ [] → is_strong (verdict_of G (offers_plan G)) ≡ false
      none_strong e = T_false (not_T (is_strong (verdict_of G (offers_plan G))) (λ t.
          Memᴰ.not-nil (subst (λ Ms. offers_plan G ∈ Ms) e (keep_∈ (λ M. is_strong (verdict_of G M)) (plans_of G) offers_plan_law t))))

      by_answer : (x : Found) → Answers G x → is_strong (verdict_of G (offers_plan G)) ≡ hands_back x
      by_answer (plan M) e =
          let m : M ∈ strong_plans G = subst (λ Ms. M ∈ Ms) (sym e) (Memᴰ.head refl) in
          ap (λ N. is_strong (verdict_of G N)) (sym (strong_is_offers M m)) ∙ ap is_strong (strong_member G L M m).1
      by_answer (left es) (e, x, y) = none_strong e
      by_answer (rivalled M N v) (e, x, y, w) = none_strong e
