-- The calls that the state lets pass: from what each call on the arrays promises to the desk's reply.
use Rattle.std.specs.Prelude.{ℕ, ◌≤◌, ◌≡◌, refl, Bool, true, false, ◌||◌, List, length, ltb, Result, Option}
use Rattle.std.proofs.Common.{le_refl, ap, ap₂, ◌∙◌}
use Rattle.std.proofs.Math.Path.{fun_ext}
use Rattle.lists.specs.Test.{given}
use Rattle.model.specs.Limits.{plan_size, pairing_size}
use Rattle.model.specs.Edges.{instance_of}
use Rattle.model.specs.Plans.{Plan, on, verdict_of}
use Rattle.model.specs.PlanFile.{read_plan}
use Rattle.model.specs.Blocking.{some_blocks, top_blocking}
use Rattle.model_desk.specs.Compare.{comparison_of, pairings_of}
use Rattle.model_desk.specs.Desk.{judge, compare, blocking, refusal, verdict_answer}
use Rattle.model_desk.specs.Desk.{verdict_written, comparison_answer, blocking_answer, pairings_onto}
use Rattle.theory_verdict.specs.Rival.{rival_of}
use Rattle.answers.specs.declared.Verdict.{Verdict}
use Rattle.answers.specs.declared.Comparison.{Comparison}
use Rattle.std.specs.declared.result.Result.TheVariants.{Ok, Err}
use Rattle.answers.specs.declared.Refusal.{Refusal}
use Rattle.answers.specs.declared.Blocking.{Blocking}
use Rattle.answers.specs.VerdictCases.{verdict_shown}
use Rattle.answers.specs.ComparisonCases.{comparison_shown, compared_shown}
use Rattle.answers.specs.BlockedCases.{blocked_shown}
use Rattle.instance.specs.Decoded.{shown_by}
use Rattle.plan_lookup.specs.PlanEdges.{Listed}
use Rattle.verdict.specs.Weighing.{Shows, WeighedFor, PairedFor, desk_answer, desk_written}
use Rattle.compare.specs.TwoPlans.{Paired}
use Rattle.blocking_search.specs.Blocking.{blocked_by, blocked_shown_law, same_plan_law}
use Rattle.desk_loaded.specs.declared.OnDesk.{OnDesk}
use Rattle.model_desk.specs.HeldFiles.{held_plan, held_proposal, beside}
use Rattle.desk_loaded.specs.Held.{state_number}
use Rattle.desk_loaded.specs.OnDesk.{LoadedFrom, its_roster}
use Rattle.desk_files.specs.declared.Files.{Files}
use Rattle.desk_files.specs.Held.{roster_bytes, plan_bytes, proposal_bytes, held_of, of_roster, of_plan}
use Rattle.desk_files.specs.Replies.{Replied}
use Rattle.desk_files.specs.State.{state_is, roster_held_law, passes, other, its_plan_held}

-- the model's answer to a comparison, for each case of the code's
same_shown : (c : Result Comparison Refusal) → comparison_shown c ≡ comparison_answer (compared_shown c)
same_shown (Ok v) = refl
same_shown (Err n) = refl

module _ (d : Files) (a b f k : List ℕ) {l : OnDesk}
    (F : LoadedFrom (roster_bytes d) (plan_bytes d) false (ltb (length f) pairing_size || ltb (length k) pairing_size) 0 l) where
  pub compare_reply : (c : Result Comparison Refusal) {f' k' : List ℕ} → compared_shown c ≡ comparison_of (shown_by l.g) a b
      → Paired (pairings_of (shown_by l.g) a b) f k f' k' → Replied d (compare a b f k) (comparison_shown c) (compare a b f' k') d
  compare_reply c e P = given (its_roster (le_refl 0) F) (λ (R, r).
      let y = read_plan (instance_of R) (plan_bytes d) in
      let h = proposal_bytes d in
      passes d (compare a b f k) tt tt (state_is d F) (le_refl 0) (beside h (held_plan R y)) (roster_held_law d R r)
      (same_shown c ∙ ap comparison_answer e ∙ ap (λ G. comparison_answer (comparison_of G a b)) (F.instance R r).1
      ∙ of_roster (refusal 13) (λ r. comparison_answer (comparison_of (instance_of r) a b)) R y h)
      (ap₂ (compare a b) P.first P.second ∙ ap (λ G. pairings_onto (compare a b) (pairings_of G a b) f k) (F.instance R r).1
      ∙ of_roster (compare a b f k) (λ r. pairings_onto (compare a b) (pairings_of (instance_of r) a b) f k) R y h)
      refl refl)

-- ---- with the plan held
module _ (d : Files) {short : Bool} {l : OnDesk} (F : LoadedFrom (roster_bytes d) (plan_bytes d) true short 0 l) where
  pub plan_shown : (M : Plan) × Shows (shown_by l.g) l.plan.chosen M
  plan_shown = given (its_plan_held d F (le_refl 0)) (λ (R, M, e, s, P, w). (M, (P.within, P.flags)))

  pub plan_listed : Listed l.g.m l.plan.chosen l.plan.n l.plan.edges
  plan_listed = given (its_plan_held d F (le_refl 0)) (λ (R, M, e, s, P, w). P.listed)

  pub judge_reply : (out f : List ℕ) {v : Verdict} {after f' : List ℕ} → short ≡ ltb (length out) plan_size || ltb (length f) pairing_size
      → WeighedFor (shown_by l.g) l.plan.chosen out v after → PairedFor (shown_by l.g) l.plan.chosen f f'
      → Replied d (judge out f) (verdict_shown (Ok v)) (judge after f') d
  judge_reply out f s W P = given (its_plan_held d F (le_refl 0)) (λ (R, M, e, g, I, w).
      let G = shown_by l.g in
      let J = W M (I.within, I.flags) in
      passes d (judge out f) tt tt (state_is d F ∙ ap (state_number (held_of d) true) s) (le_refl 0) (held_proposal R M (other d R)) e
      (ap (λ v. verdict_shown (Ok v)) J.reply ∙ desk_answer G M (verdict_of G M) ∙ ap (λ G. verdict_answer G M (rival_of G M) (verdict_of G M)) g
      ∙ of_plan (refusal 14) (λ r M. verdict_answer (instance_of r) M (rival_of (instance_of r) M) (verdict_of (instance_of r) M)) R M (other d R))
      (ap₂ judge J.buffer (P M (I.within, I.flags)) ∙ desk_written G M (verdict_of G M) out f
      ∙ ap (λ G. verdict_written G M (rival_of G M) (verdict_of G M) out f) g
      ∙ of_plan (judge out f) (λ r M. verdict_written (instance_of r) M (rival_of (instance_of r) M) (verdict_of (instance_of r) M) out f) R M (other d R))
      refl refl)

  pub blocking_reply : {b : Option Blocking} → short ≡ false → b ≡ blocked_by (shown_by l.g) l.plan.chosen → Replied d blocking (blocked_shown (Ok b)) blocking d
  blocking_reply s q = given (its_plan_held d F (le_refl 0)) (λ (R, M, e, g, P, w).
      let G = shown_by l.g in
      passes d blocking tt tt (state_is d F ∙ ap (state_number (held_of d) true) s) (le_refl 0) (held_proposal R M (other d R)) e
      (ap (λ b. blocked_shown (Ok b)) (q ∙ same_plan_law G l.plan.chosen M (fun_ext P.flags)) ∙ blocked_shown_law G (top_blocking G (on M)) (some_blocks G (on M))
      ∙ ap (λ G. blocking_answer G (top_blocking G (on M)) (some_blocks G (on M))) g
      ∙ of_plan (refusal 14) (λ r M. let G = instance_of r in blocking_answer G (top_blocking G (on M)) (some_blocks G (on M))) R M (other d R))
      refl refl refl)
