-- Plans as the model lists them and sets of edges within the quotas are the same: plans_of has every such set once, and the model's test
-- of two plans is equality.
use Rattle.std.specs.Prelude.{ℕ, ◌≡◌, refl, ◌↔◌, Bool, true, false, not, [], ◌∷◌, T}
use Rattle.std.proofs.Common.{sym, ap, ◌∙◌, subst, T_not}
use Rattle.std.proofs.Math.Dec.{not_T}
use Rattle.lists.specs.Sum.{◌∈◌}
use Rattle.model.specs.Instance.{Instance}
use Rattle.model.specs.Vote.{vote}
use Rattle.model.specs.Plans.{Plan, on, plans_of, same_plan, vote_of}
use Rattle.model.specs.PlanFile.{plan_of}
use Rattle.theory_instance.specs.Lawful.{Lawful, Matching, Same}
use Rattle.theory_instance.specs.Within.{within_matching, matching_within, matching_same}
use Rattle.theory_files.specs.Chosen.{on_plan_of, plan_of_length, plan_of_on, plan_of_cong, plan_length, plan_within, within_plan}
use Rattle.theory_votes.specs.PlanVotes.{vote_same}

-- ---- the model's test
same_eq : (M N : Plan) → T (same_plan M N) → M ≡ N
unfolding same_plan
same_eq [] [] t = refl
same_eq [] (b ∷ N) t = absurd t
same_eq (a ∷ M) [] t = absurd t
same_eq (true ∷ M) (true ∷ N) t = ap (λ L. true ∷ L) (same_eq M N t)
same_eq (true ∷ M) (false ∷ N) t = absurd t
same_eq (false ∷ M) (true ∷ N) t = absurd t
same_eq (false ∷ M) (false ∷ N) t = ap (λ L. false ∷ L) (same_eq M N t)

same_self : (M : Plan) → T (same_plan M M)
unfolding same_plan
same_self [] = tt
same_self (true ∷ M) = same_self M
same_self (false ∷ M) = same_self M

-- the model's test of two plans passes exactly if they are equal
pub same_plan_law : (M N : Plan) → T (same_plan M N) ↔ (M ≡ N)
same_plan_law M N = (same_eq M N, λ e. subst (λ L. T (same_plan M L)) e (same_self M))

module _ (G : Instance) where
  -- ---- a plan as a set
  -- a plan that the model lists is, in a lawful instance, a set within the quotas of both sides
  pub plan_matching : Lawful G → {M : Plan} → M ∈ plans_of G → Matching G (on M)
  plan_matching law {M} m = within_matching G (on M) law (plan_within G m)

  -- two plans of the same edges are one
  pub edges_plan : {M N : Plan} → M ∈ plans_of G → N ∈ plans_of G → Same G (on M) (on N) → M ≡ N
  edges_plan {M} {N} m n s = sym (plan_of_on G.m M (plan_length G m)) ∙ plan_of_cong G.m (on M) (on N) s ∙ plan_of_on G.m N (plan_length G n)

  pub other_edges : {M N : Plan} → M ∈ plans_of G → N ∈ plans_of G → T (not (same_plan M N)) → Same G (on M) (on N) → ⊥
  other_edges {M} {N} m n t s = T_not (same_plan M N) t ((same_plan_law M N).1 (edges_plan m n s))

  -- ---- a set as a plan
  -- a set has the same edges as its plan
  pub plan_of_same : (N : ℕ → Bool) → Same G N (on (plan_of G.m N))
  plan_of_same N e h = sym (on_plan_of G.m N e h)

  -- a set within the quotas is, as a plan, one of those that the model lists
  pub matching_plan : {N : ℕ → Bool} → Matching G N → plan_of G.m N ∈ plans_of G
  matching_plan {N} p = within_plan G (plan_of G.m N) (plan_of_length G.m N)
      (matching_within G (on (plan_of G.m N)) (matching_same G N (on (plan_of G.m N)) (plan_of_same N) p))

  -- a set that has not the same edges as M is, as a plan, another one
  pub other_plan_law : (M : Plan) {N : ℕ → Bool} → (Same G (on M) N → ⊥) → T (not (same_plan M (plan_of G.m N)))
  other_plan_law M {N} o = not_T (same_plan M (plan_of G.m N)) (λ t. o (λ e h. ap (λ L. on L e) ((same_plan_law M (plan_of G.m N)).0 t) ∙ on_plan_of G.m N e h))

  -- the vote against a set of edges is the vote against its plan
  pub vote_plan_of : (M : Plan) (N : ℕ → Bool) → vote G (on M) N ≡ vote_of G M (plan_of G.m N)
  vote_plan_of M N = vote_same G (on M) N (on M) (on (plan_of G.m N)) (λ e h. refl) (plan_of_same N)
