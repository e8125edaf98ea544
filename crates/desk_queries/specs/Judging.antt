-- What the verdict's call promises: the model's reply, what holds of the rival that it writes, and how long that is.
use Rattle.std.specs.Prelude.{ℕ, ◌≤◌, ◌≡◌, refl, Bool, true, List, length, get_or, Result}
use Rattle.std.proofs.Common.{le_refl, sym, ap, ◌∙◌}
use Rattle.std.proofs.Math.Option.{some}
use Rattle.lists.specs.Test.{given}
use Rattle.model.specs.Roster.{Roster}
use Rattle.model.specs.Edges.{instance_of}
use Rattle.model.specs.Instance.{Instance}
use Rattle.model.specs.Plans as P
use Rattle.model.specs.Plans.{Plan, verdict_of}
use Rattle.model.specs.PlanFile.{plan_bytes as bytes_of}
use Rattle.model.specs.Refusal.{Group, group_of}
use Rattle.model_desk.specs.Desk.{Held, nothing, roster, planned, proposed, plan_held, judges as topic, judge, on_plan, Answer, refused, refusal, said}
use Rattle.model_desk.specs.Desk.{strong, popular, beaten}
use Rattle.model_desk.specs.Rivals.{RivalSaid}
use Rattle.theory_verdict.specs.Rival.{rival_of}
use Rattle.theory_finder.specs.RivalSaid.{rival_said}
use Rattle.answers.specs.declared.Verdict.{Verdict}
use Rattle.answers.specs.declared.Verdict.TheVariants.{Strong, Popular, Beaten}
use Rattle.std.specs.declared.result.Result.TheVariants.{Ok, Err}
use Rattle.answers.specs.declared.Refusal.{Refusal}
use Rattle.answers.specs.RefusalCases.{number_of}
use Rattle.answers.specs.VerdictCases.{verdict_shown}
use Rattle.desk_loaded.specs.declared.OnDesk.{OnDesk}
use Rattle.desk_loaded.specs.OnDesk.{LoadedFrom}
use Rattle.desk_files.specs.declared.Files.{Files}
use Rattle.desk_files.specs.Held.{roster_bytes, plan_bytes, held_of, of_plan}
use Rattle.desk_files.specs.PlanLength.{length_of, length_told}
use Rattle.desk_files.specs.Replies.{Replied}
use Rattle.desk_files.specs.State.{held_within, its_plan_held, other}
use Rattle.verdict.specs.Weighing.{weighed_as, rival_written, WeighedFor}
use Rattle.instance.specs.Decoded.{shown_by}

-- ---- how many bytes of a rival were written
-- as many as the model's bytes of it, where the plan M has one
abbrev pub rival_length : Instance → Plan → Answer topic → ℕ
rival_length G M (refused n g) = 0
rival_length G M (said strong) = 0
rival_length G M (said (popular w)) = length (bytes_of G (rival_of G M))
rival_length G M (said (beaten w)) = length (bytes_of G (rival_of G M))

-- for the plan that a desk holds
abbrev pub rival_on : Held → Answer topic → ℕ
rival_on h answer = on_plan 0 h (λ R M. rival_length (instance_of R) M answer)

-- the code tells it by the count byte in front of the buffer
abbrev pub rival_in : Result Verdict Refusal → ℕ → ℕ
rival_in (Ok Strong) k = 0
rival_in (Ok (Popular w)) k = length_of k
rival_in (Ok (Beaten w)) k = length_of k
rival_in (Err n) k = 0

rival_told : (G : Instance) (M : Plan) (v : List ℕ) (x : P.Verdict)
    → rival_in (Ok (weighed_as G M x)) (get_or (rival_written G M x v) 0 0) ≡ rival_length G M (verdict_shown (Ok (weighed_as G M x)))
rival_told G M v P.strong = refl
rival_told G M v P.popular = length_told G (rival_of G M) v
rival_told G M v P.beaten = length_told G (rival_of G M) v

pub none_refused : (h : Held) (n : ℕ) (g : Group) → 0 ≡ rival_on h (refused n g)
none_refused nothing n g = refl
none_refused (roster r) n g = refl
none_refused (planned r M) n g = refl
none_refused (proposed r M N) n g = refl

-- the verdict on the plan held
pub rival_held : (d : Files) {short : Bool} {l : OnDesk} → LoadedFrom (roster_bytes d) (plan_bytes d) true short 0 l
    → (v : List ℕ) (answer : Verdict) (v' : List ℕ) → WeighedFor (shown_by l.g) l.plan.chosen v answer v' → {n : ℕ} → n ≡ rival_in (Ok answer) (get_or v' 0 0)
    → n ≡ rival_on (held_of d) (verdict_shown (Ok answer))
rival_held d {l = l} F v answer v' W e = given (its_plan_held d F (le_refl 0)) (λ (R, M, h, s, P, w).
    let G = shown_by l.g in
    let J = W M (P.within, P.flags) in
    e ∙ (λ i. rival_in (Ok (J.reply i)) (get_or (J.buffer i) 0 0)) ∙ rival_told G M v (verdict_of G M) ∙ ap (λ a. rival_length G M (verdict_shown (Ok a))) (sym J.reply)
    ∙ ap (λ G. rival_length G M (verdict_shown (Ok answer))) s ∙ of_plan 0 (λ r M. rival_length (instance_of r) M (verdict_shown (Ok answer))) R M (other d R)
    ∙ ap (λ h. rival_on h (verdict_shown (Ok answer))) (sym h))

-- ---- what is promised
-- the verdict's call on desk d with the buffers v for a rival and f for the pairings of the vote against it (W-208): the answer, the buffers and the
-- desk then
pub record Judges (d : Files) (v f : List ℕ) (answer : Result Verdict Refusal) (n : ℕ) (v' f' : List ℕ) (d' : Files) : Type 0 where
  pub replied : Replied d (judge v f) (verdict_shown answer) (judge v' f') d'
  -- "Beaten and popular write a rival, such an N, and the vote of M against it", for the plan M held
  pub rival : (R : Roster) (M : Plan) → plan_held (held_of d) ≡ some (R, M) → RivalSaid (instance_of R) M (verdict_shown answer) (v, f) (v', f')
  -- how many bytes of a rival were written
  pub rival_length_law : n ≡ rival_on (held_of d) (verdict_shown answer)

-- the reply has what holds of the rival in it
pub judges : (d : Files) {short : Bool} {l : OnDesk} → LoadedFrom (roster_bytes d) (plan_bytes d) true short 0 l
    → (v f : List ℕ) {answer : Result Verdict Refusal} {n : ℕ} {v' f' : List ℕ} {d' : Files} → Replied d (judge v f) (verdict_shown answer) (judge v' f') d'
    → n ≡ rival_on (held_of d) (verdict_shown answer) → Judges d v f answer n v' f' d'
judges d F v f {answer} {n} {v'} {f'} A e = record {
  replied = A;
  rival = λ R M h. given (held_within d F R M h) (λ (ok, m).
      rival_said R ok M m v f (held_of d) h (verdict_shown answer) v' f' A.answer A.lent);
  rival_length_law = e;
}

-- a refusal by the state writes no rival
pub judges_refused : (d : Files) (v f : List ℕ) (r : Refusal) → Replied d (judge v f) (refusal (number_of r)) (judge v f) d → Judges d v f (Err r) 0 v f d
judges_refused d v f r A = record {
  replied = A;
  rival = λ R M h. refl;
  rival_length_law = none_refused (held_of d) (number_of r) (group_of (number_of r));
}
