-- What the call for the least vote promises: the model's reply, and what holds of the vote and of the choice that it writes.
use Rattle.std.specs.Prelude.{ℕ, ◌≤◌, ◌≡◌, refl, Bool, false, List, map, length, T, ltb, Result, ℤ}
use Rattle.std.proofs.Common.{le_refl, sym, ap, ◌∙◌, subst}
use Rattle.std.proofs.Math.Option.{Option, none, some, some-injective, none-ne-some}
use Rattle.lists.specs.Test.{given}
use Rattle.model.specs.Limits.{choice_size}
use Rattle.model.specs.Reading.{Reading, accepted, refused}
use Rattle.model.specs.Roster.{Roster, fits}
use Rattle.model.specs.RosterFile.{read_roster}
use Rattle.model.specs.Edges.{instance_of}
use Rattle.model.specs.Plans.{on, vote_of}
use Rattle.model.specs.PlanFile.{read_plan}
use Rattle.model.specs.Ranges.{Question, read_question, ranked, Least, roster_ranks, settled_at}
use Rattle.model_desk.specs.Desk.{Held, Answer, bounds, on_roster, least, said, least_vote, refusal, least_answer, least_onto}
use Rattle.theory_files.specs.Reads.{is_bytes}
use Rattle.theory_ranges.specs.Worst.{worst_choice_law, choice_placed}
use Rattle.theory_ranges.specs.InOrder.{InOrder, in_order_law}
use Rattle.theory_ranges.proofs.LeastVote.{ranked_vote}
use Rattle.theory_ranges.specs.Questions.{choice_for, question_sound}
use Rattle.theory_ranges.proofs.Questions.{choice_holds, settled_holds}
use Rattle.theory_finder.specs.Choices.{chosen}
use Rattle.answers.specs.declared.LeastVote.{LeastVote}
use Rattle.std.specs.declared.result.Result.TheVariants.{Ok, Err}
use Rattle.answers.specs.declared.Refusal.{Refusal}
use Rattle.answers.specs.RefusalCases.{number_of}
use Rattle.answers.specs.LeastCases.{least_shown}
use Rattle.instance.specs.Decoded.{shown_by}
use Rattle.ranges_least.specs.Asked.{Asked, least_read, question_on, question_is, least_case, least_bytes}
use Rattle.desk_loaded.specs.declared.OnDesk.{OnDesk}
use Rattle.model_desk.specs.HeldFiles.{held_plan, held, beside}
use Rattle.desk_loaded.specs.OnDesk.{LoadedFrom, NotLoaded, its_roster}
use Rattle.desk_files.specs.declared.Files.{Files}
use Rattle.desk_files.specs.Held.{roster_bytes, plan_bytes, proposal_bytes, held_of, of_roster}
use Rattle.desk_files.specs.Replies.{Replied}
use Rattle.desk_files.specs.State.{state_is, roster_held_law, passes}

-- the roster held
abbrev pub roster_held : Held → Option Roster
roster_held h = on_roster none h some

-- the call on desk d with two plan files, the ranges and the buffer w: the answer, the buffer and the desk then
pub record Asks (d : Files) (a b c w : List ℕ) (answer : Result LeastVote Refusal) (w' : List ℕ) (d' : Files) : Type 0 where
  pub replied : Replied d (least a b c w) (least_shown answer) (least a b c w') d'
  -- "the least vote of the first against the second that any choice of ranks within them allows, (..) and one choice that reaches it"
  pub choice : (R : Roster) → roster_held (held_of d) ≡ some R → (q : Question) → read_question R a b c ≡ accepted q
      → Least R q.ranges q.first q.second (vote_of (ranked R (choice_for R q)) q.first q.second) (choice_for R q)
  -- "With low and high both the rank in the roster, it is the ordinary vote."
  pub settled : (R : Roster) → roster_held (held_of d) ≡ some R → (q : Question) → read_question R a b c ≡ accepted q
      → q.ranges ≡ map settled_at (roster_ranks R)
      → vote_of (ranked R (choice_for R q)) q.first q.second ≡ vote_of (instance_of R) q.first q.second

-- a roster held is one that was read
roster_read : (file plan proposal : List ℕ) (R : Roster) → roster_held (beside proposal (held (read_roster file) plan)) ≡ some R → read_roster file ≡ accepted R
roster_read file plan proposal R = by_roster (read_roster file)
  where
    by_roster : (x : Reading Roster) → roster_held (beside proposal (held x plan)) ≡ some R → x ≡ accepted R
    by_roster (accepted r) z = ap accepted (some-injective r R (of_roster none some r (read_plan (instance_of r) plan) proposal ∙ z))
    by_roster (refused n) z = absurd (none-ne-some R z)

-- a vote and a number of bytes, or the number of a refusal, as the desk answers it
abbrev told : Reading (ℤ × ℕ) → Answer bounds
told (accepted a) = said (least_vote a.0 a.1)
told (refused n) = refusal n

least_told : (v : Result LeastVote Refusal) → least_shown v ≡ told (least_read v)
least_told (Ok a) = refl
least_told (Err n) = refl

-- what the call on the arrays asks for
pub roster_in_order : (d : Files) {short : Bool} {l : OnDesk} → LoadedFrom (roster_bytes d) (plan_bytes d) false short 0 l → InOrder (shown_by
    l.g)
roster_in_order d F = given (its_roster (le_refl 0) F) (λ (R, r). subst InOrder (sym (F.instance R r).1) (in_order_law R (F.fitting R r)))

module _ (d : Files) (a b c w : List ℕ) (ia : T (is_bytes a)) (ib : T (is_bytes b)) where
  -- whatever is answered
  asks_by : ((R : Roster) → read_roster (roster_bytes d) ≡ accepted R → T (fits R)) → (answer : Result LeastVote Refusal) {w' : List ℕ} {d' : Files}
      → Replied d (least a b c w) (least_shown answer) (least a b c w') d' → Asks d a b c w answer w' d'
  unfolding held_of
  asks_by f answer A = record {
    replied = A;
    choice = λ R h q e. choice_holds R (fitting R h) a b c ia ib q e;
    settled = λ R h q e s. settled_holds R (fitting R h) a b c ia ib q e s;
  }
    where
      fitting : (R : Roster) → roster_held (held_of d) ≡ some R → T (fits R)
      fitting R h = f R (roster_read (roster_bytes d) (plan_bytes d) (proposal_bytes d) R h)

  pub asks : {short : Bool} {l : OnDesk} → LoadedFrom (roster_bytes d) (plan_bytes d) false short 0 l → (answer : Result LeastVote Refusal) {w' : List ℕ} {d' : Files}
      → Replied d (least a b c w) (least_shown answer) (least a b c w') d' → Asks d a b c w answer w' d'
  asks F answer A = asks_by F.fitting answer A

  pub asks_not : {short : Bool} {e : Refusal} → NotLoaded (roster_bytes d) (plan_bytes d) false short e → {w' : List ℕ} {d' : Files}
      → Replied d (least a b c w) (least_shown (Err e)) (least a b c w') d' → Asks d a b c w (Err e) w' d'
  asks_not {e = e} F A = asks_by F.fitting (Err e) A

  -- the model's answer and bytes, for each case of what is read
  module _ (R : Roster) (ok : T (fits R)) where
    shown : (x : Reading Question) → read_question R a b c ≡ x → told (least_case (instance_of R) x) ≡ least_answer chosen R x
    shown (accepted q) e =
        let s = question_sound R a b c ia ib q e in
        let G = instance_of R in
        let f = on q.first in
        let h = on q.second in
        let small = choice_placed G f h q.ranges s.ranges (choice_for R q) (worst_choice_law G f h q.ranges s.ranges) in
        ap (λ v. said (least_vote v (length (choice_for R q)))) (sym (ranked_vote R ok q.first q.second s.first s.second (choice_for R q) small))
    shown (refused n) e = refl

    written : (x : Reading Question) → least_bytes (instance_of R) x w ≡ least_onto chosen R x w
    written (accepted q) = refl
    written (refused n) = refl

  pub least_reply : {l : OnDesk} → LoadedFrom (roster_bytes d) (plan_bytes d) false (ltb (length w) choice_size) 0 l → (v : Result LeastVote Refusal) {w' : List ℕ} → Asked (shown_by l.g) (question_on (shown_by l.g) a b c) w v w'
      → Replied d (least a b c w) (least_shown v) (least a b c w') d
  least_reply {l} F v A = given (its_roster (le_refl 0) F) (λ (R, r).
      let y = read_plan (instance_of R) (plan_bytes d) in
      let h = proposal_bytes d in
      let ok = F.fitting R r in
      let g = (F.instance R r).1 in
      passes d (least a b c w) tt tt (state_is d F) (le_refl 0) (beside h (held_plan R y)) (roster_held_law d R r)
      (least_told v ∙ ap told (A.said ∙ ap (λ G. least_case G (question_on G a b c)) g ∙ ap (least_case (instance_of R)) (sym (question_is R ok a b c)))
      ∙ shown R ok (read_question R a b c) refl ∙ of_roster (refusal 13) (λ r. least_answer chosen r (read_question r a b c)) R y h)
      (ap (least a b c) (A.written ∙ ap (λ G. least_bytes G (question_on G a b c) w) g ∙ ap (λ x. least_bytes (instance_of R) x w) (sym (question_is R ok a b c))
      ∙ written R ok (read_question R a b c)) ∙ of_roster (least a b c w) (λ r. least a b c (least_onto chosen r (read_question r a b c) w)) R y h)
      refl refl)
