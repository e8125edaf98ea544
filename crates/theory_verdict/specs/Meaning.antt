-- What the model's verdict says, in votes: strong, popular and beaten as document 01 has them, each exactly when its sentence holds, so
-- exactly one of them. And two plans that are both strong are one.
use Rattle.std.specs.Prelude.{◌≡◌, refl, ◌↔◌, Bool, not, ◌&&◌, pos, ◌≤ℤ◌, ◌<ℤ◌, T}
use Rattle.std.proofs.Common.{sym, subst, T_not}
use Rattle.std.specs.Int.Signed.{le_z, lt_z, lt_z_yes, lt_z_no, le_z_yes, ≤ℤ_refl, clash_ℤ}
use Rattle.std.proofs.Math.Dec.{not_T}
use Rattle.lists.specs.Test.{by-test, if-ind, given, and_l, and_r, and_i, nand_r}
use Rattle.lists.specs.Sum.{◌∈◌}
use Rattle.lists.specs.Keep.{any?, any_∈, none_∈}
use Rattle.lists.specs.Integer.{<→≤, ≤_antisym, sum_above}
use Rattle.model.specs.Instance.{Instance}
use Rattle.model.specs.Plans.{Plan, on, plans_of, same_plan, Verdict, strong, popular, beaten, vote_of, beaten_by, drawn_with, verdict_of}
use Rattle.model.specs.Plans.{Strong, Unbeaten, Tied, Beaten, Means}
use Rattle.theory_instance.specs.Lawful.{Lawful}
use Rattle.theory_votes.specs.PlanVotes.{vote_self, vote_both}
use Rattle.theory_verdict.specs.Plans.{same_plan_law, plan_matching}

module _ (G : Instance) (M : Plan) where
  -- ---- what the model computes
  abbrev even : Plan → Bool
  even N = le_z (vote_of G M N) (pos 0) && le_z (pos 0) (vote_of G M N)

  even_zero : (N : Plan) → T (even N) → vote_of G M N ≡ pos 0
  even_zero N t = ≤_antisym (vote_of G M N) (pos 0) (le_z_yes (and_l (le_z (vote_of G M N) (pos 0)) (le_z (pos 0) (vote_of G M N)) t))
      (le_z_yes (and_r (le_z (vote_of G M N) (pos 0)) (le_z (pos 0) (vote_of G M N)) t))

  uneven_above : (N : Plan) → pos 0 ≤ℤ vote_of G M N → T (not (even N)) → pos 0 <ℤ vote_of G M N
  uneven_above N l t = by-test (lt_z (pos 0) (vote_of G M N))
      (λ h. lt_z_yes h)
      (λ n. absurd (T_not (even N) t (and_i (le_z (vote_of G M N) (pos 0)) (le_z (pos 0) (vote_of G M N)) (lt_z_no {a = pos 0} {b = vote_of G M N} n).le l.le)))

  verdict_says : Means G M (verdict_of G M)
  unfolding verdict_of beaten_by drawn_with
  verdict_says = if-ind (Means G M) (any? (beaten_by G M) (plans_of G))
      (λ b. let (N, m, t) = any_∈ (beaten_by G M) (plans_of G) b in (N, m, lt_z_yes t))
      (λ b. given (λ N m. lt_z_no (none_∈ (beaten_by G M) (plans_of G) b N m)) (λ (u : Unbeaten G M). if-ind (Means G M) (any? (drawn_with G M) (plans_of G))
      (λ e. let (N, m, t) = any_∈ (drawn_with G M) (plans_of G) e in
      (u, (N, m, and_l (not (same_plan M N)) (even N) t, even_zero N (and_r (not (same_plan M N)) (even N) t))))
      (λ e N m o. uneven_above N (u N m) (nand_r (not (same_plan M N)) (even N) (none_∈ (drawn_with G M) (plans_of G) e N m) o))))

  -- ---- one of the three
  module _ (law : Lawful G) (ok : M ∈ plans_of G) where
    -- against itself a plan's vote is zero
    at_least : Strong G M → Unbeaten G M
    at_least s N m = by-test (same_plan M N)
        (λ t. subst (λ L. pos 0 ≤ℤ vote_of G M L) ((same_plan_law M N).0 t)
        (subst (λ z. pos 0 ≤ℤ z) (sym (vote_self G (on M) (plan_matching G law ok))) (≤ℤ_refl (pos 0))))
        (λ n. <→≤ (s N m n))

    beaten_not : Unbeaten G M → Beaten G M → ⊥
    beaten_not u (N, m, b) = clash_ℤ b (u N m)

    tied_not : Strong G M → Tied G M → ⊥
    tied_not s (N, m, o, e) = clash_ℤ (s N m o) (subst (λ z. z ≤ℤ pos 0) (sym e) (≤ℤ_refl (pos 0)))

    means_one : (v w : Verdict) → Means G M v → Means G M w → v ≡ w
    means_one strong strong m n = refl
    means_one strong popular m n = absurd (tied_not m n.1)
    means_one strong beaten m n = absurd (beaten_not (at_least m) n)
    means_one popular strong m n = absurd (tied_not n m.1)
    means_one popular popular m n = refl
    means_one popular beaten m n = absurd (beaten_not m.0 n)
    means_one beaten strong m n = absurd (beaten_not (at_least n) m)
    means_one beaten popular m n = absurd (beaten_not n.0 m)
    means_one beaten beaten m n = refl

    -- the model's verdict is v exactly when the sentence of v holds
    pub verdict_means : (v : Verdict) → (verdict_of G M ≡ v) ↔ Means G M v
    verdict_means v = (λ e. subst (Means G M) e verdict_says, means_one (verdict_of G M) v verdict_says)

    -- strong exactly when the plan's vote against every other plan within the quotas is above zero
    pub strong_means : (verdict_of G M ≡ strong) ↔ ((N : Plan) → N ∈ plans_of G → T (not (same_plan M N)) → pos 0 <ℤ vote_of G M N)
    strong_means = verdict_means strong

    pub popular_means : (verdict_of G M ≡ popular) ↔
        (((N : Plan) → N ∈ plans_of G → pos 0 ≤ℤ vote_of G M N) × ((N : Plan) × (N ∈ plans_of G) × T (not (same_plan M N)) × (vote_of G M N ≡ pos 0)))
    popular_means = verdict_means popular

    -- beaten exactly when the plan's vote against some plan within the quotas is below zero
    pub beaten_means : (verdict_of G M ≡ beaten) ↔ ((N : Plan) × (N ∈ plans_of G) × (vote_of G M N <ℤ pos 0))
    beaten_means = verdict_means beaten

-- the two votes of two plans add to at most zero
pub strong_once : (G : Instance) → Lawful G → {M N : Plan} → M ∈ plans_of G → N ∈ plans_of G → verdict_of G M ≡ strong → verdict_of G N ≡ strong → M ≡ N
strong_once G law {M} {N} m n e f = by-test (same_plan M N)
    (λ t. (same_plan_law M N).0 t)
    (λ o. absurd (sum_above (vote_of G M N) (vote_of G N M)
    ((strong_means G M law m).0 e N n o)
    ((strong_means G N law n).0 f M m (not_T (same_plan N M) (λ t. T_not (same_plan M N) o ((same_plan_law M N).1 (sym ((same_plan_law N M).0 t))))))
    (vote_both G (on M) (on N) (plan_matching G law m) (plan_matching G law n))))
