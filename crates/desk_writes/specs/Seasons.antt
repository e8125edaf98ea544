-- What the calls for plans of old seasons promise (W-205): the model's reply, and that the other call undoes what was written.
use Rattle.std.specs.Prelude.{ℕ, ◌≤◌, ◌<◌, refl, Bool, true, false, not, List, length, take, T, ltb, Result}
use Rattle.std.proofs.Math.Path.{◌≡◌, sym, ap}
use Rattle.std.proofs.Common.{le_refl, ◌∙◌, subst, le-ltb}
use Rattle.std.proofs.Math.Bool.{cond}
use Rattle.lists.specs.Test.{given}
use Rattle.model.specs.Limits.{plan_size}
use Rattle.model.specs.Reading as reading
use Rattle.model.specs.Reading.{Reading, accepted, is_bytes}
use Rattle.model.specs.Roster.{Roster}
use Rattle.model.specs.RosterFile.{read_roster}
use Rattle.model.specs.Edges.{instance_of}
use Rattle.model.specs.Plans.{Plan}
use Rattle.model.specs.PlanFile.{read_plan}
use Rattle.model_desk.specs.Seasons as S
use Rattle.model_desk.specs.Desk.{Held, Call, writes, plan_to_new, plan_to_old, refused, said, wrote, refusal, onto, converted_answer, converted_onto}
use Rattle.model_desk.specs.Desk.{state_refusal, answer_on, lent_on}
use Rattle.theory_files.specs.PlanFiles.{Fileable}
use Rattle.theory_files.specs.RosterInstance.{fileable}
use Rattle.theory_files.specs.PlanSeasons.{plan_back, plan_forth}
use Rattle.theory_finder.specs.Choices.{chosen}
use Rattle.std.specs.declared.result.Result.TheVariants.{Ok, Err}
use Rattle.answers.specs.declared.Refusal.{Refusal}
use Rattle.answers.specs.RefusalCases.{number_of, number_some}
use Rattle.answers.specs.WrittenCases.{written_shown, refused_no_bytes, converted_bytes}
use Rattle.instance.specs.Decoded.{shown_by}
use Rattle.plan_turned.specs.Turning.{plan_by, TurnedFor}
use Rattle.desk_loaded.specs.declared.OnDesk.{OnDesk}
use Rattle.model_desk.specs.HeldFiles.{held_plan, beside}
use Rattle.desk_loaded.specs.Held.{unneeded}
use Rattle.desk_loaded.specs.OnDesk.{LoadedFrom, NotLoaded, its_roster}
use Rattle.desk_files.specs.declared.Files.{Files}
use Rattle.desk_files.specs.Held.{roster_bytes, plan_bytes, proposal_bytes, held_of, beside_number, of_roster}
use Rattle.desk_files.specs.Replies.{answered, lent_then, Replied}
use Rattle.desk_files.specs.State.{state_refuses, states, by_state, pass_answer, pass_lent, roster_held_law, passes, state_is}

-- `call` is the way that is gone, `undo` the other one
pub record Turns (call undo : (file buffer : List ℕ) → Call writes) (d : Files) (f o : List ℕ) (r : Result ℕ Refusal) (o' : List ℕ) (d' : Files) : Type 0 where
  pub replied : Replied d (call f o) (written_shown r) (call f o') d'
  -- "goes back to the identical old bytes": the other call, on the desk that comes back, writes the identical file of what was written
  pub undone : (n : ℕ) → written_shown r ≡ said (wrote n) → (b : List ℕ) → plan_size ≤ length b
      → (answered (held_of d') (undo (take n o') b) ≡ said (wrote (length f))) × (lent_then (held_of d') (undo (take n o') b) ≡ undo (take n o') (onto f b))

-- ---- the call by the layout that is read
abbrev pub call_by : (shifts : Bool) → (file buffer : List ℕ) → Call writes
call_by true = plan_to_old
call_by false = plan_to_new

abbrev pub TurnsBy : (shifts : Bool) → Files → (f o : List ℕ) → Result ℕ Refusal → (o' : List ℕ) → Type 0
TurnsBy shifts d f o r o' = Turns (call_by shifts) (call_by (not shifts)) d f o r o' d

-- ---- refused by the state
pub turns_not : (shifts : Bool) (d : Files) (f o : List ℕ) {e : Refusal} → NotLoaded (roster_bytes d) (plan_bytes d) false (ltb (length o) plan_size) e
    → TurnsBy shifts d f o (Err e) o
turns_not shifts d f o {e} F = record { replied = reply shifts; undone = λ n q. refused_no_bytes q }
  where
    reply : (b : Bool) → Replied d (call_by b f o) (refusal (number_of e)) (call_by b f o) d
    reply true = by_state d (plan_to_old f o) tt tt (state_refuses d false (ltb (length o) plan_size) F) (number_some e) refl
    reply false = by_state d (plan_to_new f o) tt tt (state_refuses d false (ltb (length o) plan_size) F) (number_some e) refl

-- ---- with the roster held
module _ (d : Files) (R : Roster) (a : read_roster (roster_bytes d) ≡ accepted R) where
  abbrev y : Reading Plan
  y = read_plan (instance_of R) (plan_bytes d)

  -- what is held
  abbrev H : Held
  H = beside (proposal_bytes d) (held_plan R y)

  -- what is said of a file
  told : (b : Bool) (f o : List ℕ) → converted_answer (plan_by b (instance_of R) f) ≡ answer_on chosen H (call_by b f o)
  told true f o = of_roster (refusal 13) (λ r. converted_answer (S.plan_to_old (instance_of r) f)) R y (proposal_bytes d)
  told false f o = of_roster (refusal 13) (λ r. converted_answer (S.plan_to_new (instance_of r) f)) R y (proposal_bytes d)

  lent : (b : Bool) (f o : List ℕ) → call_by b f (converted_onto (plan_by b (instance_of R) f) o) ≡ lent_on chosen H (call_by b f o)
  lent true f o = of_roster (plan_to_old f o) (λ r. plan_to_old f (converted_onto (S.plan_to_old (instance_of r) f) o)) R y (proposal_bytes d)
  lent false f o = of_roster (plan_to_new f o) (λ r. plan_to_new f (converted_onto (S.plan_to_new (instance_of r) f) o)) R y (proposal_bytes d)

  -- the state lets a call with a buffer of a plan's size pass
  passed_by : (b : Bool) (f o : List ℕ) → plan_size ≤ length o → 0 ≡ state_refusal (held_of d) (call_by b f o)
  unfolding state_refusal
  passed_by b f o h = go b ∙ ap (λ x. state_refusal x (call_by b f o)) (sym (roster_held_law d R a))
    where
      e : ◌≡◌ {A = ℕ} 0 (cond (ltb (length o) plan_size) 15 0)
      e = sym (ap (λ t. cond t 15 0) (le-ltb (length o) plan_size h))

      go : (b : Bool) → 0 ≡ state_refusal H (call_by b f o)
      go true = e ∙ unneeded R y (ltb (length o) plan_size) ∙ beside_number (proposal_bytes d) (held_plan R y) false (ltb (length o) plan_size)
          ∙ states H (plan_to_old f o) tt tt
      go false = e ∙ unneeded R y (ltb (length o) plan_size) ∙ beside_number (proposal_bytes d) (held_plan R y) false (ltb (length o) plan_size)
          ∙ states H (plan_to_new f o) tt tt

  -- a file that is turned into another
  turned_into : (b : Bool) (f g o : List ℕ) → plan_size ≤ length o → plan_by b (instance_of R) f ≡ accepted g
      → (answered (held_of d) (call_by b f o) ≡ said (wrote (length g))) × (lent_then (held_of d) (call_by b f o) ≡ call_by b f (onto g o))
  turned_into b f g o h p = (
    sym (pass_answer (held_of d) (call_by b f o) (passed_by b f o h)) ∙ ap (λ x. answer_on chosen x (call_by b f o)) (roster_held_law d R a)
        ∙ sym (told b f o) ∙ ap converted_answer p,
    sym (pass_lent (held_of d) (call_by b f o) (passed_by b f o h)) ∙ ap (λ x. lent_on chosen x (call_by b f o)) (roster_held_law d R a)
        ∙ sym (lent b f o) ∙ ap (λ x. call_by b f (converted_onto x o)) p,
  )

  -- and back
  undoes : Fileable (instance_of R) → (b : Bool) (f g : List ℕ) → T (is_bytes f) → plan_by b (instance_of R) f ≡ accepted g
      → plan_by (not b) (instance_of R) g ≡ accepted f
  undoes F true f g is_b e = plan_forth (instance_of R) F g f is_b e
  undoes F false f g is_b e = plan_back (instance_of R) F f g is_b e

pub turns : (shifts : Bool) (d : Files) (f o : List ℕ) → T (is_bytes f) → {l : OnDesk}
    → LoadedFrom (roster_bytes d) (plan_bytes d) false (ltb (length o) plan_size) 0 l → {r : Result ℕ Refusal} {o' : List ℕ}
    → TurnedFor shifts (shown_by l.g) f o r o' → TurnsBy shifts d f o r o'
turns shifts d f o is_b {l} F {r} {o'} X =
    given (its_roster (le_refl 0) F) (λ (R, a).
    given (subst (λ G. TurnedFor shifts G f o r o') (F.instance R a).1 X) (λ Y. record {
      replied = reply R a shifts Y;
      undone = λ n e b h. given (converted_bytes (plan_by shifts (instance_of R) f) o n (sym Y.answer ∙ e)) (λ (g, p, q).
          subst (Undone b) (sym (ap (take n) Y.lent ∙ q))
          (turned_into d R a (not shifts) g f b h (undoes d R a (fileable R (F.fitting R a)) shifts f g is_b p)));
    }))
  where
    -- a file of which the other call writes f
    Undone : List ℕ → List ℕ → Type 0
    Undone b w = (answered (held_of d) (call_by (not shifts) w b) ≡ said (wrote (length f)))
        × (lent_then (held_of d) (call_by (not shifts) w b) ≡ call_by (not shifts) w (onto f b))

    reply : (R : Roster) (a : read_roster (roster_bytes d) ≡ accepted R) (b : Bool) → TurnedFor b (instance_of R) f o r o'
        → Replied d (call_by b f o) (written_shown r) (call_by b f o') d
    reply R a true Y = passes d (plan_to_old f o) tt tt (state_is d F) (le_refl 0) (H d R a) (roster_held_law d R a)
        (Y.answer ∙ told d R a true f o) (ap (plan_to_old f) Y.lent ∙ lent d R a true f o) refl refl
    reply R a false Y = passes d (plan_to_new f o) tt tt (state_is d F) (le_refl 0) (H d R a) (roster_held_law d R a)
        (Y.answer ∙ told d R a false f o) (ap (plan_to_new f) Y.lent ∙ lent d R a false f o) refl refl
