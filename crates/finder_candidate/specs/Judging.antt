-- What `judged` finds on its ways, and that what it promises follows.
use Rattle.std.specs.Prelude.{ℕ, ◌≤◌, ℤ, ◌≡◌, refl, Bool, List, length}
use Rattle.std.proofs.Common.{sym, ap, ◌∙◌, subst}
use Rattle.model.specs.Limits.{plan_limit}
use Rattle.model.specs.Instance.{Instance}
use Rattle.model.specs.Plans as P
use Rattle.model.specs.Plans.{Plan, on, Verdict, verdict_of}
use Rattle.model.specs.PlanFile.{edges_in, plan_bytes}
use Rattle.model_desk.specs.Desk.{onto}
use Rattle.theory_files.specs.PlanFiles.{plan_few}
use Rattle.theory_files.specs.Chosen.{edges_in_cong}
use Rattle.arrays.specs.ArrayInstance.{flag}
use Rattle.plan_writer.specs.Written.{WrittenFor}
use Rattle.instance.specs.declared.Instance as arrays
use Rattle.instance.specs.Decoded.{shown_by}
use Rattle.instance.specs.Loaded.{Loaded}
use Rattle.answers.specs.declared.Verdict as weighed
use Rattle.answers.specs.declared.Verdict.TheVariants.{Strong, Popular, Beaten}
use Rattle.verdict.specs.Weighing.{Shows, weighed_as, rival_written, WeighedBy}
use Rattle.answers.specs.declared.Found as code
use Rattle.answers.specs.declared.Found.TheVariants as says
use Rattle.answers.specs.declared.NoneKind.TheVariants as kind
use Rattle.finder_candidate.specs.FoundBuffers.{candidate, Wrote}

-- ---- a candidate judged
-- the answer for what is weighed
abbrev pub answer_on : ℕ → weighed.Verdict → code.Found
answer_on steps Strong = says.Plan steps
answer_on steps (Popular v) = says.None steps (kind.Rivalled v)
answer_on steps (Beaten v) = says.None steps (kind.Rivalled v)

module _ (G : Instance) (M : Plan) (steps : ℕ) (l p v p' v' : List ℕ) (w : weighed.Verdict) where
  by_verdict : (x : Verdict) → w ≡ weighed_as G M x → v' ≡ rival_written G M x v → p' ≡ onto (plan_bytes G M) p
      → Wrote G (candidate G M x) steps l p v (answer_on steps w) l p' v'
  by_verdict P.strong a b c = record { answer = ap (answer_on steps) a; left = refl; plan = c; rival = b }
  by_verdict P.popular a b c = record { answer = ap (answer_on steps) a; left = refl; plan = c; rival = b }
  by_verdict P.beaten a b c = record { answer = ap (answer_on steps) a; left = refl; plan = c; rival = b }

  wrote_judged : WeighedBy G M v w v' → p' ≡ onto (plan_bytes G M) p → {r : code.Found} → r ≡ answer_on steps w
      → Wrote G (candidate G M (verdict_of G M)) steps l p v r l p' v'
  wrote_judged W c e = subst (λ r. Wrote G (candidate G M (verdict_of G M)) steps l p v r l p' v') (sym e) (by_verdict (verdict_of G M) W.reply W.buffer c)

-- a plan within the quotas has at most 64 edges
pub few_edges : (g : arrays.Instance) → Loaded g → (p : List Bool) → ((M : Plan) × Shows (shown_by g) p M) → length (edges_in g.m (flag p)) ≤ plan_limit
few_edges g L p (M, (ok, same)) =
    subst (λ es. length es ≤ plan_limit) (edges_in_cong g.m (on M) (flag p) (λ e h. sym (same e))) (plan_few (shown_by g) L.fileable M ok)

-- the bytes that the plan writer leaves
pub plan_onto : (g : arrays.Instance) (chosen : List Bool) (p p' : List ℕ) → WrittenFor g.m g.sv g.st g.sh chosen p p'
    → (M : Plan) → ((e : ℕ) → flag chosen e ≡ on M e) → p' ≡ onto (plan_bytes (shown_by g) M) p
plan_onto g chosen p p' W M same = W g.ns g.nt g.rank_s g.rank_t g.tied g.quota_s g.quota_t M (λ e k. sym (same e))

-- a rival is told with its vote
pub rivalled_on : (steps : ℕ) (w : weighed.Verdict) {z v : ℤ} → z ≡ v → answer_on steps w ≡ says.None steps (kind.Rivalled v)
    → says.None steps (kind.Rivalled z) ≡ answer_on steps w
rivalled_on steps w q e = ap (λ z. says.None steps (kind.Rivalled z)) q ∙ sym e

-- the candidate written and weighed, and what is answered of it
pub judged_on : (g : arrays.Instance) (chosen : List Bool) (steps : ℕ) (p v p' v' : List ℕ) (w : weighed.Verdict)
    → WrittenFor g.m g.sv g.st g.sh chosen p p' → ((M : Plan) → Shows (shown_by g) chosen M → WeighedBy (shown_by g) M v w v')
    → {r : code.Found} → r ≡ answer_on steps w → (M : Plan) → Shows (shown_by g) chosen M → (l : List ℕ)
    → Wrote (shown_by g) (candidate (shown_by g) M (verdict_of (shown_by g) M)) steps l p v r l p' v'
judged_on g chosen steps p v p' v' w P W e M S l = wrote_judged (shown_by g) M steps l p v p' v' w (W M S) (plan_onto g chosen p p' P M S.1) e
