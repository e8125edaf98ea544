-- A plan that was read against the arrays of an accepted roster: within the quotas, and its edges listed.
use Rattle.std.specs.Prelude.{ℕ, ◌≤◌, ◌≡◌, Bool, true, List, length, T, Result}
use Rattle.std.proofs.Common.{arith, sym, ap, ◌∙◌, subst, length-take}
use Rattle.lists.specs.Test.{given}
use Rattle.model.specs.Limits.{plan_limit}
use Rattle.model.specs.PlanFile.{edges_in}
use Rattle.theory_files.specs.Reads.{is_bytes}
use Rattle.theory_instance.specs.Lawful.{Matching}
use Rattle.theory_files.specs.PlanFiles.{plan_read_within, plan_read_matching, plan_few}
use Rattle.arrays.specs.ArrayInstance.{flag}
use Rattle.instance.specs.declared.Instance.{Instance}
use Rattle.instance.specs.Decoded.{shown_by}
use Rattle.instance.specs.Loaded.{Loaded}
use Rattle.plan_lookup.specs.PlanEdges.{Listed}
use Rattle.plan_reader.specs.declared.PlanRead.{PlanRead}
use Rattle.std.specs.declared.result.Result.TheVariants.{Ok}
use Rattle.answers.specs.declared.Refusal.{Refusal}
use Rattle.plan_reader.specs.Answers.{ReadAs, accepted_read, accepted_edges}

-- a plan within the quotas, with the list of its edges
pub record Planned (g : Instance) (p : List Bool) (n : ℕ) (es : List ℕ) : Type 0 where
  pub matching : Matching (shown_by g) (flag p)
  pub listed : Listed g.m p n es

-- the plan of a file that was accepted
pub read_planned : (g : Instance) (file : List ℕ) (r : Result PlanRead Refusal) → ReadAs true (shown_by g) file r → Loaded g → T (is_bytes file)
    → {p : PlanRead} → r ≡ Ok p → Planned g p.chosen p.n p.edges
read_planned g file r A L is_b {p} q = given (accepted_read A q) (λ (M, e, s). given (accepted_edges A q M e) (λ (c, t). record {
  matching = subst (Matching (shown_by g)) (sym s) (plan_read_matching (shown_by g) file M is_b e L.lawful);
  listed = record {
    few = subst (λ k. k ≤ plan_limit) (sym c) (plan_few (shown_by g) L.fileable M (plan_read_within (shown_by g) file M is_b e));
    there = omega (arith, c, ap length t, length-take p.n p.edges);
    are = t ∙ ap (edges_in g.m) (sym s);
  };
}))
