-- How a change follows from its parts: the state's refusal, and the answer of the change's bytes, stored.
use Rattle.std.specs.Prelude.{ℕ, ◌<◌, ◌≡◌, Bool, true, false, List, Result, ⊤}
use Rattle.std.specs.declared.result.Result.TheVariants.{Ok, Err}
use Rattle.std.proofs.Common.{arith, sym, ◌∙◌, subst}
use Rattle.lists.specs.Test.{given}
use Rattle.model.specs.Reading.{Reading, accepted, refused}
use Rattle.model.specs.Roster.{Roster}
use Rattle.model.specs.RosterFile.{read_roster}
use Rattle.model.specs.Edges.{instance_of}
use Rattle.model.specs.PlanFile.{read_plan}
use Rattle.answers.specs.declared.Refusal.{Refusal}
use Rattle.answers.specs.RefusalCases.{number_of, code_of, number_some}
use Rattle.roster_parts.specs.declared.RosterBytes.{RosterBytes}
use Rattle.roster_parts.specs.Gives.{Gives, ChangedBy}
use Rattle.model_desk.specs.HeldFiles.{held}
use Rattle.desk_loaded.specs.Held.{state_number, unneeded}
use Rattle.desk_loaded.specs.RosterBytes.{Judged, judged_long}
use Rattle.desk_files.specs.declared.Files.{Files}
use Rattle.desk_stored.specs.declared.Change.{Change}
use Rattle.desk_files.specs.Held.{roster_bytes, plan_bytes, proposal_bytes}
use Rattle.desk_stored.specs.Storing.{Unchanged, Open, TakenFor, Taken}
use Rattle.desk_stored.specs.Changing.{ToRoster, ChangedFor, ChangeFor, ChangedTo}

-- the roster's bytes are judged as they stand at the front of their array
judged_here : (d : Files) {b : Bool} {file : List ℕ} → file ≡ roster_bytes d → {m : ℕ} → Judged file b m → Judged (roster_bytes d) b m
judged_here d {b} e {m} J = subst (λ bs. Judged bs b m) e J

-- the roster held, where the state lets the change pass
pub roster_here : (d : Files) {b : Bool} {file : List ℕ} → file ≡ roster_bytes d → {x : Result ⊤ Refusal} → Judged file b (code_of x)
    → {u : ⊤} → x ≡ Ok u → (R : Roster) × (read_roster file ≡ accepted R) × (read_roster (roster_bytes d) ≡ accepted R)
roster_here d {b} {file} e J q = given ((subst (λ r. Judged file b (code_of r)) q J).roster_is (omega arith)) (λ (R, a, f, w).
    (R, a, subst (λ bs. read_roster bs ≡ accepted R) e a))

module _ (d : Files) (b : Bool) (change : ToRoster) (s : ℕ) {file : List ℕ} (same : file ≡ roster_bytes d) {x : Result ⊤ Refusal}
    (judged : Judged file b (code_of x)) where
  -- the state's refusal
  pub change_refused : {n : Refusal} → x ≡ Err n → (r : Change) → Unchanged (number_of n) d r → ChangedTo d b change s r
  change_refused {n} q r u = go (read_roster (roster_bytes d)) b (J.refusal_is (plan_bytes d))
    where
      J : Judged (roster_bytes d) b (number_of n)
      J = judged_here d same (subst (λ r. Judged file b (code_of r)) q judged)

      kept : (m : ℕ) → number_of n ≡ m → Unchanged m d r
      kept m e = (u.0 ∙ e, u.1)

      go : (x : Reading Roster) (b : Bool) → number_of n ≡ state_number (held x (plan_bytes d)) false b → ChangeFor x b change s d r
      go (refused m) b e = kept 13 e
      go (accepted R) true e = kept 15 (e ∙ sym (unneeded R (read_plan (instance_of R) (plan_bytes d)) true))
      go (accepted R) false e = absurd
          (let q = e ∙ sym (unneeded R (read_plan (instance_of R) (plan_bytes d)) false) in let h = number_some n in let z : ⊥ = omega arith in z)

  -- the answer of the change's bytes
  pub change_taken : {u : ⊤} → x ≡ Ok u → (c : Result RosterBytes Refusal) → ChangedBy change file c → (r : Change) → Taken d s c r
      → ChangedTo d b change s r
  change_taken q c C r t = given (J.roster_is (omega arith)) (λ (R, a, f, w).
      subst (λ x. ChangeFor x b change s d r) (sym a)
      (subst (λ b. ChangeFor (accepted R) b change s d r) (sym (judged_long J (omega arith)))
      (f, w, go R (change R) c (subst (λ bs. ChangedBy change bs c) same C R a) (t R a))))
    where
      J : Judged (roster_bytes d) b 0
      J = judged_here d same (subst (λ r. Judged file b (code_of r)) q judged)

      go : (R : Roster) (x : Reading Roster) (c : Result RosterBytes Refusal) → Gives x c → TakenFor (instance_of R) d s c r → ChangedFor R x s d r
      go R (refused n) (Err q) e u = (subst (λ n. 0 < n) e (number_some q), subst (λ n. Unchanged n d r) e u)
      go R (refused n) (Ok m) e u = absurd e
      go R (accepted H) (Err q) e u = absurd e
      go R (accepted H) (Ok m) (few, w) (q, M) = (
        q,
        record {
          bytes = M.bytes ∙ w;
          plan = M.plan;
          proposal = subst (λ f. Open (roster_bytes d) f (proposal_bytes d) (proposal_bytes r.files)) w M.proposal;
        },
      )
