-- The theorems that rest on specs/Rival.antt. They stand here so that a wrong definition there is refused by a proof.
use Prim.Native.Nat.{ℕ, ◌≤◌}
use Rattle.std.proofs.Common.{arith, ◌∙◌}
use Rattle.std.specs.Prelude.{◌≡◌, Bool, not, ◌<ℤ◌, T}
use Rattle.std.proofs.Math.Path.{sym, subst}
use Rattle.std.proofs.Math.IntN.{pos}
use Rattle.lists.specs.Sum.{◌∈◌}
use Rattle.model.specs.Limits.{plan_limit}
use Rattle.model.specs.Instance.{Instance}
use Rattle.model.specs.Plans.{Plan, on, plans_of, same_plan, Verdict, strong, popular, beaten, vote_of, verdict_of, Strong, Unbeaten, Means}
use Rattle.model.specs.PlanFile.{plan_of}
use Rattle.model.specs.Finder.{Rival}
use Rattle.theory_instance.specs.Lawful.{Lawful}
use Rattle.theory_verdict.specs.Search.{verdict_by, rival_edges}
use Rattle.theory_verdict.specs.Verdict.{Judged}
use Rattle.theory_verdict.proofs.Verdict.{judged}
use Rattle.theory_verdict.specs.Plans.{plan_matching, other_edges, matching_plan, other_plan_law, vote_plan_of}
use Rattle.theory_verdict.specs.Meaning.{verdict_means}
use Rattle.theory_verdict.specs.Rival.{computed_verdict, lid, rival_of, size_of}

module _ (G : Instance) (M : Plan) where
  -- the verdict with the rival, as plans
  abbrev Told : Verdict → Plan → Type 0
  Told strong N = Strong G M
  Told popular N = Unbeaten G M × (N ∈ plans_of G) × T (not (same_plan M N)) × (vote_of G M N ≡ pos 0)
  Told beaten N = (N ∈ plans_of G) × T (not (same_plan M N)) × (vote_of G M N <ℤ pos 0)

  told_means : (v : Verdict) (N : Plan) → Told v N → Means G M v
  told_means strong N t = t
  told_means popular N (u, m, o, e) = (u, (N, m, o, e))
  told_means beaten N (m, o, b) = (N, m, b)

  module _ (law : Lawful G) (ok : M ∈ plans_of G) (few : size_of G M ≤ plan_limit) where
    told : Told (computed_verdict G M) (rival_of G M)
    unfolding computed_verdict rival_of
    told = go (verdict_by G (on M) lid (size_of G M)) (rival_edges G (on M) lid (size_of G M))
        (judged G (on M) law (plan_matching G law ok) lid (size_of G M) (omega arith) (omega arith))
      where
        go : (v : Verdict) (N : ℕ → Bool) → Judged G (on M) v N → Told v (plan_of G.m N)
        go strong N s = λ L m o. s (on L) (plan_matching G law m) (other_edges G ok m o)
        go popular N (u, r) = (
          (λ L m. u (on L) (plan_matching G law m)),
          matching_plan G r.plan,
          other_plan_law G M r.other,
          sym
              (vote_plan_of G M N) ∙ r.vote,
        )
        go beaten N r = (matching_plan G r.plan, other_plan_law G M r.other, subst (λ z. z <ℤ pos 0) (vote_plan_of G M N) r.vote)

    -- the verdict that is computed is the model's, on every plan within the quotas that has at most 64 edges
    pub computed_verdict_law : computed_verdict G M ≡ verdict_of G M
    computed_verdict_law = sym ((verdict_means G M law ok (computed_verdict G M)).1 (told_means (computed_verdict G M) (rival_of G M) told))

    told_at : (v : Verdict) → verdict_of G M ≡ v → Told v (rival_of G M)
    told_at v e = subst (λ v. Told v (rival_of G M)) (computed_verdict_law ∙ e) told

    is_rival : rival_of G M ∈ plans_of G → T (not (same_plan M (rival_of G M))) → Rival G M (rival_of G M)
    is_rival m o = record { in_quotas = m; other = o; wins = λ e. (told_at beaten e).2; draws = λ e. (told_at popular e).3 }

    -- of a beaten plan what is computed is a rival: the plan's vote against it is below zero
    pub beaten_rival : verdict_of G M ≡ beaten → Rival G M (rival_of G M)
    beaten_rival e = is_rival (told_at beaten e).0 (told_at beaten e).1

    -- of a popular plan what is computed is a rival: the plan's vote against it is zero
    pub popular_rival : verdict_of G M ≡ popular → Rival G M (rival_of G M)
    popular_rival e = is_rival (told_at popular e).1 (told_at popular e).2
