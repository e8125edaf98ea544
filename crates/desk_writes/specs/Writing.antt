-- Writing the roster, the plan or the proposal that a desk holds: from the bytes copied to the desk's reply.
use Rattle.std.specs.Prelude.{ℕ, ◌≤◌, ◌<◌, ◌≡◌, refl, Bool, true, cond, List, length, ltb}
use Rattle.std.proofs.Common.{le_refl, arith, sym, ap, ◌∙◌, nltb→le}
use Rattle.std.proofs.Math.Bool.{false}
use Rattle.lists.specs.Test.{given, by_bool, false_t}
use Rattle.model.specs.Limits.{plan_size, roster_size}
use Rattle.model.specs.RosterFile.{read_roster, write_roster}
use Rattle.model.specs.Edges.{instance_of}
use Rattle.model.specs.PlanFile as plans
use Rattle.model.specs.PlanFile.{read_plan}
use Rattle.model_desk.specs.Desk.{write_roster_to, write_plan_to, write_proposal_to, refused, refusal, said, wrote, onto, state_refusal, answer_on, lent_on}
use Rattle.theory_finder.specs.Choices.{chosen}
use Rattle.desk_loaded.specs.declared.OnDesk.{OnDesk}
use Rattle.model_desk.specs.HeldFiles.{held_plan, held, held_proposal, beside}
use Rattle.desk_loaded.specs.Held.{state_number}
use Rattle.desk_loaded.specs.OnDesk.{LoadedFrom}
use Rattle.desk_loaded.specs.RosterBytes.{Judged}
use Rattle.desk_files.specs.declared.Files.{Files}
use Rattle.desk_files.specs.Held.{roster_bytes, plan_bytes, proposal_bytes, held_of, beside_number, of_roster, of_plan}
use Rattle.desk_files.specs.Replies.{Replied}
use Rattle.desk_files.specs.State.{state_is, roster_held_law, passes, other, its_plan_held, refuses_by, no_number, pass_answer, pass_lent, desk_alike}
use Rattle.desk_files.specs.Open.{open_number, Opened}

-- ---- with the roster held
module _ (d : Files) {short : Bool} {n : ℕ} (J : Judged (roster_bytes d) short n) where
  pub judged_state : n ≡ state_number (held_of d) false short
  unfolding held_of
  judged_state = J.refusal_is (plan_bytes d) ∙ beside_number (proposal_bytes d) (held (read_roster (roster_bytes d)) (plan_bytes d)) false short

  pub write_roster_reply : n ≤ 0 → (out : List ℕ) {k : ℕ} {after : List ℕ} → short ≡ ltb (length out) roster_size → k ≡ length (roster_bytes d)
      → after ≡ onto (roster_bytes d) out
      → Replied d (write_roster_to out) (said (wrote k)) (write_roster_to after) d
  write_roster_reply z out s p q = given (J.roster_is z) (λ (R, a, h, w).
      let y = read_plan (instance_of R) (plan_bytes d) in
      let f = proposal_bytes d in
      passes d (write_roster_to out) tt tt (judged_state ∙ ap (state_number (held_of d) false) s) z (beside f (held_plan R y)) (roster_held_law d R a)
      (ap (λ k. said (wrote k)) (p ∙ ap length (sym w)) ∙ of_roster (refusal 13) (λ r. said (wrote (length (write_roster r)))) R y f)
      (ap write_roster_to (q ∙ ap (λ bs. onto bs out) (sym w)) ∙ of_roster (write_roster_to out) (λ r. write_roster_to (onto (write_roster r) out)) R y f)
      refl refl)

-- ---- with the plan held
module _ (d : Files) {short : Bool} {l : OnDesk} (F : LoadedFrom (roster_bytes d) (plan_bytes d) true short 0 l) where
  pub write_plan_reply : (out : List ℕ) {k : ℕ} {after : List ℕ} → short ≡ ltb (length out) plan_size → k ≡ length (plan_bytes d) → after ≡ onto (plan_bytes d) out
      → Replied d (write_plan_to out) (said (wrote k)) (write_plan_to after) d
  write_plan_reply out s p q = given (its_plan_held d F (le_refl 0)) (λ (R, M, e, g, P, w).
      passes d (write_plan_to out) tt tt (state_is d F ∙ ap (state_number (held_of d) true) s) (le_refl 0) (held_proposal R M (other d R)) e
      (ap (λ k. said (wrote k)) (p ∙ ap length (sym w))
      ∙ of_plan (refusal 14) (λ r M. said (wrote (length (plans.plan_bytes (instance_of r) M)))) R M (other d R))
      (ap write_plan_to (q ∙ ap (λ bs. onto bs out) (sym w))
      ∙ of_plan (write_plan_to out) (λ r M. write_plan_to (onto (plans.plan_bytes (instance_of r) M) out)) R M (other d R))
      refl refl)

-- ---- with a proposal beside it
module _ (d : Files) (out : List ℕ) {n : ℕ} (O : Opened d (ltb (length out) plan_size) n) where
  open_state : n ≡ state_refusal (held_of d) (write_proposal_to out)
  unfolding state_refusal
  open_state = O.refusal

  pub write_proposal_not : 0 < n → Replied d (write_proposal_to out) (refusal n) (write_proposal_to out) d
  write_proposal_not h = refuses_by d (write_proposal_to out) open_state h refl

  pub write_proposal_long : n ≤ 0 → plan_size ≤ length out
  write_proposal_long z = given (O.proposal z) (λ (R, M, N, e, w).
      let i = O.refusal ∙ ap (λ h. open_number h (ltb (length out) plan_size)) e in
      by_bool (ltb (length out) plan_size) (λ t. absurd (omega (arith, i, ap {B = ℕ} (λ b. cond b 15 0) t))) (λ f. nltb→le (length out) plan_size (false_t f)))

  pub write_proposal_reply : n ≤ 0 → {k : ℕ} {after : List ℕ} → k ≡ length (proposal_bytes d) → after ≡ onto (proposal_bytes d) out
      → Replied d (write_proposal_to out) (said (wrote k)) (write_proposal_to after) d
  write_proposal_reply z p q = given (O.proposal z) (λ (R, M, N, e, w).
      let c = write_proposal_to out in
      let s = no_number z open_state in
      record {
        answer = ap (λ k. said (wrote k)) (p ∙ ap length (sym w)) ∙ ap (λ h. answer_on chosen h c) (sym e) ∙ pass_answer (held_of d) c s;
        lent = ap write_proposal_to (q ∙ ap (λ bs. onto bs out) (sym w)) ∙ ap (λ h. lent_on chosen h c) (sym e) ∙ pass_lent (held_of d) c s;
        desk = desk_alike (held_of d) c refl;
        stored = refl;
      })
