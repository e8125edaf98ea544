-- Loading: what a load answers, and what the desk holds behind it.
use Rattle.std.specs.Prelude.{ℕ, ◌≤◌, ◌≡◌, refl, true, false, length, T, Result, ⊤}
use Rattle.std.proofs.Math.Path.{sym, ap, ap₂}
use Rattle.std.proofs.Common.{le_refl, ◌∙◌, subst}
use mathlib.Core.List.{List, []}
use Rattle.std.proofs.Math.ListN.{take}
use Rattle.lists.specs.Test.{given}
use Rattle.model.specs.Limits.{plan_size, roster_size}
use Rattle.model.specs.Reading.{Reading, accepted, refused}
use Rattle.model.specs.Roster.{Roster}
use Rattle.model.specs.RosterFile.{read_roster}
use Rattle.model.specs.Edges.{instance_of}
use Rattle.model.specs.Plans.{Plan}
use Rattle.model.specs.PlanFile.{read_plan_by, read_plan}
use Rattle.model_desk.specs.Desk.{Held, Answer, loads, said, loaded, load_roster, load_plan, refusal, state_refusal, answer_of, answer_on, loaded_roster, loaded_plan, with_roster, with_plan}
use Rattle.model_desk.specs.Desk.{desk_on, desk_after}
use Rattle.theory_files.specs.Reads.{is_bytes}
use Rattle.theory_files.specs.Rosters.{accepted_size}
use Rattle.theory_files.specs.PlanFiles.{plan_accepted_size}
use Rattle.theory_finder.specs.Choices.{chosen}
use Rattle.std.specs.declared.result.Result.TheVariants.{Ok, Err}
use Rattle.answers.specs.declared.Refusal.{Refusal}
use Rattle.answers.specs.RefusalCases.{reading_of}
use Rattle.answers.specs.FileCases.{file_shown, file_read, read_accepted, read_refused}
use Rattle.instance.specs.Decoded.{shown_by}
use Rattle.desk_loaded.specs.declared.OnDesk.{OnDesk}
use Rattle.model_desk.specs.HeldFiles.{held_plan, held, beside}
use Rattle.desk_loaded.specs.OnDesk.{LoadedFrom, its_roster}
use Rattle.desk_files.specs.declared.Files.{Files}
use Rattle.desk_files.specs.Held.{roster_bytes, plan_bytes, proposal_bytes, held_of, of_roster}
use Rattle.desk_files.specs.Replies.{answered, RosterIn, PlanIn, Replied}
use Rattle.desk_files.specs.State.{pass_answer, pass_desk, lent_alike, roster_held_law, passed, passes, state_is}

-- ---- a roster: 13, 14 and 15 never come before it
-- a reading, told
abbrev told : {A : Type 0} → Reading A → Answer loads
told (accepted a) = said loaded
told (refused n) = refusal n

-- what an answer shows is what its reading says
shown_told : {A : Type 0} (x : Reading A) (r : Result ⊤ Refusal) → reading_of r ≡ file_read x → file_shown r ≡ told x
shown_told x r e = sides r ∙ ap told e ∙ same x
  where
    sides : (r : Result ⊤ Refusal) → file_shown r ≡ told (reading_of r)
    sides (Ok u) = refl
    sides (Err n) = refl

    same : {A : Type 0} (x : Reading A) → told (file_read x) ≡ told x
    same (accepted a) = refl
    same (refused n) = refl

roster_shown : (x : Reading Roster) → told x ≡ loaded_roster x
roster_shown (accepted r) = refl
roster_shown (refused n) = refl

roster_answer : (h : Held) (file : List ℕ) (a : Result ⊤ Refusal) → reading_of a ≡ file_read (read_roster file) → file_shown a ≡ answered h (load_roster file)
unfolding answer_of state_refusal
roster_answer h file a e = shown_told (read_roster file) a e ∙ roster_shown (read_roster file)

module _ (d : Files) (file : List ℕ) where
  pub roster_refused : {r : Result ⊤ Refusal} {n : Refusal} → r ≡ Err n → reading_of r ≡ file_read (read_roster file)
      → Replied d (load_roster file) (file_shown (Err n)) (load_roster file) d
  unfolding desk_after state_refusal
  roster_refused {r} q e = record {
    answer = sym (ap file_shown q) ∙ roster_answer (held_of d) file r e;
    lent = lent_alike (held_of d) (load_roster file) refl;
    desk = sym (ap (with_roster (held_of d)) (read_refused (read_roster file) q e));
    stored = refl;
  }

  module _ {r : Result ⊤ Refusal} {u : ⊤} (q : r ≡ Ok u) (e : reading_of r ≡ file_read (read_roster file)) where
    pub roster_small : T (is_bytes file) → length file ≤ roster_size
    roster_small is_b = let t = read_accepted (read_roster file) q e in accepted_size file t.0 is_b t.1

    pub roster_loaded : (d' : Files) → RosterIn file true d d' → Replied d (load_roster file) (file_shown (Ok tt)) (load_roster file) d'
    unfolding desk_after state_refusal held_of read_plan_by
    roster_loaded d' (p, b, u) =
        let t = read_accepted (read_roster file) q e in
        record {
          answer = sym (ap file_shown q) ∙ roster_answer (held_of d) file r e;
          lent = lent_alike (held_of d) (load_roster file) refl;
          desk = ap (λ g. beside g (held (read_roster (roster_bytes d')) (plan_bytes d'))) u ∙ ap₂ (λ f b. beside [] (held (read_roster f) b)) p b
              ∙ ap (λ x. beside [] (held x [])) t.1 ∙ sym (ap (with_roster (held_of d)) t.1);
          stored = (p, b, u);
        }

-- ---- a plan, against the roster held
plan_shown : (y : Reading Plan) → told y ≡ loaded_plan y
plan_shown (accepted M) = refl
plan_shown (refused n) = refl

module _ (d : Files) (file : List ℕ) {l : OnDesk} (F : LoadedFrom (roster_bytes d) (plan_bytes d) false false 0 l) where
  -- the reading against the roster held
  against : (a : Result ⊤ Refusal) → reading_of a ≡ file_read (read_plan (shown_by l.g) file) → (R : Roster) → read_roster (roster_bytes d) ≡ accepted R
      → reading_of a ≡ file_read (read_plan (instance_of R) file)
  against a e R r = subst (λ G. reading_of a ≡ file_read (read_plan G file)) (F.instance R r).1 e

  -- what is held, by the plan's reading
  abbrev now : Roster → Reading Plan → Held
  now R y = beside (proposal_bytes d) (held_plan R y)

  answers : (a : Result ⊤ Refusal) (R : Roster) (y : Reading Plan) → reading_of a ≡ file_read (read_plan (instance_of R) file)
      → file_shown a ≡ answer_on chosen (now R y) (load_plan file)
  answers a R y e = shown_told (read_plan (instance_of R) file) a e ∙ plan_shown (read_plan (instance_of R) file)
      ∙ of_roster (refusal 13) (λ r. loaded_plan (read_plan (instance_of r) file)) R y (proposal_bytes d)

  holds : (R : Roster) (y : Reading Plan) → with_plan (now R y) R (read_plan (instance_of R) file) ≡ desk_on (now R y) (load_plan file)
  holds R y = of_roster (now R y) (λ r. with_plan (now R y) r (read_plan (instance_of r) file)) R y (proposal_bytes d)

  pub plan_refused : {a : Result ⊤ Refusal} {n : Refusal} → a ≡ Err n → reading_of a ≡ file_read (read_plan (shown_by l.g) file)
      → Replied d (load_plan file) (file_shown (Err n)) (load_plan file) d
  plan_refused {a} q e = given (its_roster (le_refl 0) F) (λ (R, r).
      let y = read_plan (instance_of R) (plan_bytes d) in
      passes d (load_plan file) tt tt (state_is d F) (le_refl 0) (now R y) (roster_held_law d R r) (sym (ap file_shown q) ∙ answers a R y (against a e R r)) refl
      (sym (ap (with_plan (now R y) R) (read_refused (read_plan (instance_of R) file) q (against a e R r))) ∙ holds R y) refl)

  module _ {a : Result ⊤ Refusal} {u : ⊤} (q : a ≡ Ok u) (e : reading_of a ≡ file_read (read_plan (shown_by l.g) file)) where
    pub plan_small : T (is_bytes file) → length file ≤ plan_size
    plan_small is_b = let t = read_accepted (read_plan (shown_by l.g) file) q e in plan_accepted_size (shown_by l.g) file t.0 is_b t.1

    pub plan_loaded : (d' : Files) → PlanIn file true d d' → Replied d (load_plan file) (file_shown (Ok tt)) (load_plan file) d'
    unfolding read_plan_by
    plan_loaded d' ((m, b), p, u) = given (its_roster (le_refl 0) F) (λ (R, r).
        let y = read_plan (instance_of R) (plan_bytes d) in
        let s = passed d (load_plan file) tt tt (state_is d F) (le_refl 0) in
        let t = read_accepted (read_plan (instance_of R) file) q (against a e R r) in
        record {
          answer =
              sym (ap file_shown q) ∙ answers a R y (against a e R r) ∙ ap (λ h. answer_on chosen h (load_plan file)) (sym (roster_held_law d R r)) ∙ pass_answer (held_of d) (load_plan file) s;
          lent = lent_alike (held_of d) (load_plan file) refl;
          desk = roster_held_law d' R (ap read_roster (ap₂ take m b) ∙ r) ∙ ap₂ (λ f q. beside f (held_plan R (read_plan (instance_of R) q))) u p
              ∙ ap (λ y. beside [] (held_plan R y)) t.1 ∙ sym (ap (with_plan (now R y) R) t.1) ∙ holds R y
              ∙ ap (λ h. desk_on h (load_plan file)) (sym (roster_held_law d R r))
              ∙ pass_desk (held_of d) (load_plan file) s;
          stored = ((m, b), p, u);
        })
