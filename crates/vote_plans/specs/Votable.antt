-- The arrays of an accepted roster, and plans within its quotas, are what the vote asks for.
use Rattle.std.specs.Prelude.{◌≤◌, Bool, false, List, length}
use Rattle.std.proofs.Common.{subst}
use Rattle.model.specs.Limits.{plan_limit}
use Rattle.model.specs.Plans.{on}
use Rattle.model.specs.PlanFile.{edges_in, plan_of}
use Rattle.theory_instance.specs.Lawful.{Matching}
use Rattle.theory_files.specs.Chosen.{on_plan_of, edges_in_cong}
use Rattle.theory_files.specs.PlanFiles.{plan_few}
use Rattle.theory_verdict.specs.Plans.{matching_plan}
use Rattle.arrays.specs.ArrayInstance.{at, flag}
use Rattle.instance.specs.declared.Instance.{Instance}
use Rattle.instance.specs.Decoded.{shown_by}
use Rattle.instance.specs.Loaded.{Loaded}
use Rattle.vote_plans.specs.Plan.{Arrays, Light, within_light}

module _ (g : Instance) (L : Loaded g) where
  -- the arrays of both sides, surveyors and stands, are what the vote asks for
  pub side_arrays : Arrays g.m g.ns g.sv g.rank_s × Arrays g.m g.nt g.st g.rank_t
  side_arrays = (
    record { edges = L.edges; nodes = L.surveyors; ends = λ e h. L.low_sv e; ranks = L.lawful.at_s.placed },
    record { edges = L.edges; nodes = L.stands; ends = λ e h. L.low_st e; ranks = L.lawful.at_t.placed },
  )

  module _ (p : List Bool) (M : Matching (shown_by g) (flag p)) where
    -- a plan within the quotas gives no surveyor and no stand more edges than a quota allows
    pub light : Light g.m g.sv p × Light g.m g.st p
    light = (
      within_light g.m g.ns g.sv g.rank_s (λ e. false) (at g.quota_s) p (λ v. (L.quotas v).0) M.at_s,
      within_light g.m g.nt g.st g.rank_t (flag g.tied) (at g.quota_t) p (λ v. (L.quotas v).1) M.at_t,
    )

    -- at most 64 edges
    pub few_edges : length (edges_in g.m (flag p)) ≤ plan_limit
    few_edges = subst (λ es. length es ≤ plan_limit) (edges_in_cong g.m (on (plan_of g.m (flag p))) (flag p) (on_plan_of g.m (flag p)))
        (plan_few (shown_by g) L.fileable (plan_of g.m (flag p)) (matching_plan (shown_by g) M))
