-- Commits (W-207): what they answer, and what the desk holds behind them.
use Rattle.std.specs.Prelude.{ℕ, ◌≤◌, ◌<◌, ◌≡◌, true, false, Result, ⊤}
use Rattle.std.proofs.Common.{arith, le_refl, refl, ◌∙◌, subst}
use Rattle.std.proofs.Math.Path.{sym, ap, ap₂}
use mathlib.Core.List.{List, []}
use Rattle.std.proofs.Math.ListN.{take}
use Rattle.lists.specs.Test.{given}
use Rattle.model.specs.Reading.{accepted}
use Rattle.model.specs.Roster.{Roster}
use Rattle.model.specs.RosterFile.{read_roster}
use Rattle.model.specs.Edges.{instance_of}
use Rattle.model.specs.PlanFile.{read_plan_by, read_plan}
use Rattle.model_desk.specs.Desk.{Held, nothing, roster, planned, proposed, refusal, said, committed, commit, state_refusal, answer_of, desk_after}
use Rattle.theory_finder.specs.Choices.{chosen}
use Rattle.std.specs.declared.result.Result.TheVariants.{Ok, Err}
use Rattle.answers.specs.declared.Refusal.{Refusal}
use Rattle.answers.specs.RefusalCases.{reading_of}
use Rattle.answers.specs.FileCases.{file_read, read_accepted, read_refused}
use Rattle.instance.specs.Decoded.{shown_by}
use Rattle.desk_loaded.specs.declared.OnDesk.{OnDesk}
use Rattle.model_desk.specs.HeldFiles.{held_plan, held_proposal, beside}
use Rattle.desk_loaded.specs.Held.{state_number}
use Rattle.desk_loaded.specs.OnDesk.{LoadedFrom, its_plan}
use Rattle.desk_files.specs.declared.Files.{Files}
use Rattle.desk_files.specs.Held.{roster_bytes, plan_bytes, proposal_bytes, held_of}
use Rattle.desk_files.specs.Replies.{CommitIn, Replied}
use Rattle.desk_files.specs.State.{refuses_by, lent_alike, roster_held_law, plan_held_law, state_is, other}

-- ---- a commit: 13, 14, then 20
commit_number : (h : Held) → 0 < state_number h true false → state_number h true false ≡ state_refusal h commit
unfolding state_refusal
commit_number nothing l = refl
commit_number (roster r) l = refl
commit_number (planned r M) l = absurd (let z : ⊥ = omega arith in z)
commit_number (proposed r M N) l = absurd (let z : ⊥ = omega arith in z)

pub commit_refused : (d : Files) {n : ℕ} → n ≡ state_number (held_of d) true false → 0 < n → Replied d commit (refusal n) commit d
commit_refused d {n} e h = refuses_by d commit (e ∙ commit_number (held_of d) (subst (λ n. 0 < n) e h)) h refl

module _ (d : Files) {l : OnDesk} (F : LoadedFrom (roster_bytes d) (plan_bytes d) true false 0 l) where
  -- what is read of the proposal's bytes
  opened : (y : Result ⊤ Refusal) {b : List ℕ} → reading_of y ≡ file_read (read_plan (shown_by l.g) b) → b ≡ proposal_bytes d
      → reading_of y ≡ file_read (read_plan (shown_by l.g) (proposal_bytes d))
  opened y r e = r ∙ ap (λ b. file_read (read_plan (shown_by l.g) b)) e

  against : (x : Result ⊤ Refusal) → reading_of x ≡ file_read (read_plan (shown_by l.g) (proposal_bytes d)) → (R : Roster)
      → read_roster (roster_bytes d) ≡ accepted R → reading_of x ≡ file_read (other d R)
  against x e R a = subst (λ G. reading_of x ≡ file_read (read_plan G (proposal_bytes d))) (F.instance R a).1 e

  pub none_open : {n : Refusal} {y : Result ⊤ Refusal} {b : List ℕ} → y ≡ Err n → reading_of y ≡ file_read (read_plan (shown_by l.g) b)
      → b ≡ proposal_bytes d → Replied d commit (refusal 20) commit d
  unfolding state_refusal
  none_open {y = y} s r e = given (its_plan (le_refl 0) F) (λ (R, M, a, b).
      let h : held_of d ≡ planned R M = plan_held_law d R M a b ∙ ap (held_proposal R M) (read_refused (other d R) s (against y (opened y r e) R a)) in
      refuses_by d commit (sym (ap (λ x. state_refusal x commit) h)) (omega arith) refl)

  pub commit_taken : {y : Result ⊤ Refusal} {u : ⊤} {b : List ℕ} → y ≡ Ok u → reading_of y ≡ file_read (read_plan (shown_by l.g) b) → b ≡ proposal_bytes d → (d' : Files)
      → CommitIn true d d' → Replied d commit (said committed) commit d'
  unfolding state_refusal answer_of desk_after read_plan_by
  commit_taken {y = y} s x e d' ((m, r), p, f) = given (its_plan (le_refl 0) F) (λ (R, M, a, b).
      given (read_accepted (other d R) s (against y (opened y x e) R a)) (λ (N, v).
      let h : held_of d ≡ proposed R M N = plan_held_law d R M a b ∙ ap (held_proposal R M) v in
      record {
        answer = sym (ap (λ x. answer_of chosen x commit) h);
        lent = lent_alike (held_of d) commit refl;
        desk = roster_held_law d' R (ap read_roster (ap₂ take m r) ∙ a) ∙ ap₂ (λ g q. beside g (held_plan R (read_plan (instance_of R) q))) f p
            ∙ ap (λ y. beside [] (held_plan R y)) v ∙ sym (ap (λ x. desk_after x commit) h);
        stored = ((m, r), p, f);
      }))
