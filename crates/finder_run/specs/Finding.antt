-- What the finder promises for the instance that its arrays show: the answer, each buffer, and the trace; and how that follows from the reduction
-- and the end of its steps.
use Rattle.std.specs.Prelude.{ℕ, ◌≡◌, refl, Bool, true, List, length}
use Rattle.std.proofs.Common.{arith, ap, ap₂, ◌∙◌, subst}
use Rattle.std.proofs.Math.Decide.{dec_lt}
use Rattle.std.proofs.Math.Path.{sym}
use Rattle.std.proofs.Math.Logic.{by_cases}
use Rattle.std.proofs.Math.Bool.{false}
use Rattle.std.proofs.Math.ListN.{get_or-eq_default}
use Rattle.model.specs.Instance.{Instance}
use Rattle.model.specs.Plans as P
use Rattle.model.specs.Plans.{Plan, on, Verdict, verdict_of}
use Rattle.model.specs.PlanFile.{edges_in, plan_of}
use Rattle.model.specs.Reduction.{steps_of, end_of}
use Rattle.model.specs.Finder as F
use Rattle.model.specs.Finder.{left_of, candidate_of, Found, found, is_empty, finder_of}
use Rattle.theory_files.specs.Chosen.{on_plan_of, plan_of_length, edges_in_cong}
use Rattle.theory_reduction.specs.Course.{fixed_behind}
use Rattle.theory_verdict.specs.Rival.{rival_of}
use Rattle.theory_finder.specs.FoundPlan.{candidate_plan}
use Rattle.arrays.specs.ArrayInstance.{flag}
use Rattle.instance.specs.declared.Instance as arrays
use Rattle.instance.specs.Decoded.{shown_by}
use Rattle.instance.specs.Loaded.{Loaded}
use Rattle.verdict.specs.Weighing.{Shows}
use Rattle.answers.specs.declared.Found as code
use Rattle.reduction_state.specs.declared.Trace.{Trace}
use Rattle.reduction_state.specs.Trace.{Traced}
use Rattle.reduction_state.specs.Outcome.{Reduced, ReducedFrom}
use Rattle.finder_candidate.specs.FoundBuffers.{candidate, Wrote}
use Rattle.finder_run.specs.EndReached.{at_end, Ends}
use Rattle.finder_run.specs.declared.Outcome.{Outcome}

-- the answer and the three buffers are those of the model's finder on G, and the trace is that of the reduction's steps
pub record Finds (G : Instance) (l p v : List ℕ) (o : Outcome) (l' p' v' : List ℕ) : Type 0 where
  pub wrote : Wrote G (finder_of G (rival_of G)) (length (steps_of G)) l p v o.answer l' p' v'
  pub traced : Traced (steps_of G) o.trace

-- ---- how it follows
-- what is found is the model's
pub end_found : (G : Instance) (es : List ℕ) → es ≡ left_of G → at_end G (candidate_of G) es ≡ finder_of G (rival_of G)
unfolding finder_of
end_found G es e =
    ap₂ (λ b zs. elim b as (λ b. Found) [ true ↦ candidate G (candidate_of G) (verdict_of G (candidate_of G)) | false ↦ F.left zs ]) (ap is_empty e) e
    ∙ ap (λ x. elim (is_empty (left_of G)) as (λ b. Found) [ true ↦ x | false ↦ F.left (left_of G) ]) (same (verdict_of G (candidate_of G)))
  where
    same : (x : Verdict) → candidate G (candidate_of G) x ≡ found G (rival_of G) x
    same P.strong = refl
    same P.popular = refl
    same P.beaten = refl

module _ (G : Instance) (fixed : List Bool) (is : (e : ℕ) → flag fixed e ≡ (end_of G).fixed e) where
  -- the fixed edges are the candidate
  pub fixed_candidate : (e : ℕ) → flag fixed e ≡ on (candidate_of G) e
  unfolding candidate_of
  fixed_candidate e = by_cases (dec_lt e G.m)
      (λ h. is e ∙ sym (on_plan_of G.m (end_of G).fixed e h))
      (λ n. is e ∙ fixed_behind G e (omega arith)
      ∙ sym (get_or-eq_default (plan_of G.m (end_of G).fixed) false (omega (arith, plan_of_length G.m (end_of G).fixed))))

-- for the arrays of an accepted roster
module _ (g : arrays.Instance) (L : Loaded g) (rem fixed : List Bool) (t : Trace)
    (R : ReducedFrom g.m g.sv g.st g.rank_s g.rank_t g.tied g.quota_s g.quota_t rem fixed t) where
  reduced : Reduced (shown_by g) rem fixed t
  reduced = R g.ns g.nt g.sh L.lawful

  -- the fixed edges are the candidate, a plan within the quotas
  shows_candidate : Shows (shown_by g) fixed (candidate_of (shown_by g))
  shows_candidate = (candidate_plan (shown_by g) L.lawful, fixed_candidate (shown_by g) fixed reduced.fixed_is)

  pub fixed_planned : (M : Plan) × Shows (shown_by g) fixed M
  fixed_planned = (candidate_of (shown_by g), shows_candidate)

  left_are : edges_in g.m (flag rem) ≡ left_of (shown_by g)
  unfolding left_of
  left_are = edges_in_cong g.m (flag rem) (end_of (shown_by g)).rem (λ e h. reduced.rem_is e)

  pub finds : (l p v : List ℕ) (a : code.Found) (l' p' v' : List ℕ) → Ends g rem fixed t.steps l p v a l' p' v'
      → Finds (shown_by g) l p v (record { answer = a; trace = t }) l' p' v'
  finds l p v a l' p' v' E = record {
    wrote = subst (λ n. Wrote (shown_by g) (finder_of (shown_by g) (rival_of (shown_by g))) n l p v a l' p' v') reduced.trace.steps
        (subst (λ x. Wrote (shown_by g) x t.steps l p v a l' p' v') (end_found (shown_by g) (edges_in g.m (flag rem)) left_are)
        (E (candidate_of (shown_by g)) shows_candidate));
    traced = reduced.trace;
  }
