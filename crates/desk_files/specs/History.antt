-- W-207, of the desks that the calls return: "Over every list of desk calls that starts with nothing loaded, each taking the desk that the one before
-- returned, the held plan is the last one loaded or committed since the last roster, less the pairs of those who left after it; refused calls count
-- for nothing." A session is told by its calls and their answers, the last one first (model_desk/History); every call of the desk promises `Replied`.
use Rattle.std.specs.Prelude.{◌≡◌, List, [], ◌∷◌, T}
use Rattle.std.proofs.Common.{sym, subst}
use Rattle.model_desk.specs.Desk.{Topic, Call, Answer, opening, desk_after}
use Rattle.model_desk.specs.History.{event_of, Exchange, gave, events_of, last_plan, held_pairs}
use Rattle.theory_finder.specs.Choices.{chosen}
use Rattle.theory_finder.specs.Desks.{lends_bytes}
use Rattle.theory_finder.specs.HistoryPlan.{Told, told_start, told_step, told_plan}
use Rattle.desk_files.specs.declared.Files.{Files}
use Rattle.desk_files.specs.Held.{held_of}
use Rattle.desk_files.specs.Replies.{Replied}

-- a desk that holds nothing, and every desk that a call on one of these has returned; the files lent are bytes
pub data Session : List Exchange → Files → Type 0 where
  starts : (d : Files) → held_of d ≡ opening → Session [] d
  calls : {cs : List Exchange} {d : Files} → Session cs d → {k : Topic} {c : Call k} {a : Answer k} {c' : Call k} {d' : Files} → T (lends_bytes c)
      → Replied d c a c' d' → Session (gave c a ∷ cs) d'

told : {cs : List Exchange} {d : Files} → Session cs d → Told (held_of d) (events_of cs)
told (starts d e) = subst (λ h. Told h []) (sym e) told_start
told (calls {cs} {d} S {k} {c} {a} {c'} {d'} t R) =
    subst (λ h. Told h (events_of (gave c a ∷ cs))) (sym R.desk)
    (subst (λ x. Told (desk_after (held_of d) c) (event_of c x ∷ events_of cs)) (sym R.answer) (told_step chosen (events_of cs) (held_of d) c t (told S)))

pub last_plan_law : {cs : List Exchange} {d : Files} → Session cs d → held_pairs (held_of d) ≡ last_plan [] (events_of cs)
last_plan_law S = told_plan (told S)
