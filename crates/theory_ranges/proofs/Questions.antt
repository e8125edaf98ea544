-- The theorems that rest on specs/Questions.antt. They stand here so that a wrong definition there is refused by a proof.
use Prim.Native.Nat.{ℕ}
use Rattle.std.specs.Prelude.{◌≡◌, List, map, T}
use Rattle.std.proofs.Common.{ap, ◌∙◌}
use Rattle.model.specs.Reading.{accepted}
use Rattle.model.specs.Roster.{Roster, fits}
use Rattle.model.specs.Edges.{instance_of}
use Rattle.model.specs.Plans.{vote_of}
use Rattle.model.specs.Ranges.{Question, Least, ranked, roster_ranks, settled_at, read_question}
use Rattle.theory_files.specs.Reads.{is_bytes}
use Rattle.theory_ranges.specs.LeastVote.{choice_of}
use Rattle.theory_ranges.proofs.LeastVote.{least_holds}
use Rattle.theory_ranges.proofs.Settled.{settled_least}
use Rattle.theory_ranges.specs.Questions.{choice_for, question_sound}

-- the choice that is written for a question is within its ranges and reaches the least vote
pub choice_holds : (r : Roster) → T (fits r) → (a b c : List ℕ) → T (is_bytes a) → T (is_bytes b) → (q : Question) → read_question r a b c ≡ accepted q
    → Least r q.ranges q.first q.second (vote_of (ranked r (choice_for r q)) q.first q.second) (choice_for r q)
choice_holds r ok a b c ia ib q e = let s = question_sound r a b c ia ib q e in least_holds r ok q.first q.second s.first s.second q.ranges
    s.ranges

-- where each range is settled at the roster's own rank, the vote under that choice is the ordinary vote
pub settled_holds : (r : Roster) → T (fits r) → (a b c : List ℕ) → T (is_bytes a) → T (is_bytes b) → (q : Question) → read_question r a b c ≡ accepted q
    → q.ranges ≡ map settled_at (roster_ranks r)
    → vote_of (ranked r (choice_for r q)) q.first q.second ≡ vote_of (instance_of r) q.first q.second
settled_holds r ok a b c ia ib q e s =
    let h = question_sound r a b c ia ib q e in
    ap (λ rs. vote_of (ranked r (choice_of r q.first q.second rs)) q.first q.second) s
    ∙ settled_least r ok q.first q.second h.first h.second
