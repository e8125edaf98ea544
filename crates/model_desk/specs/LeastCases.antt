-- The call for the least vote (W-211) in a session, run by the checker: 13, then 15 below 2,048 bytes, then the plans and the ranges in this order; no
-- plan needs to be held. What a call that passes answers and writes, whichever choice is named; and the desk, which stays as it is.
use Rattle.std.specs.Prelude.{ℕ, ◌≡◌, refl, true, false, List, [], ◌∷◌, ◌++◌, map, length, drop}
use Rattle.lists.specs.Search.{low}
use Rattle.model.specs.Decimal.{bytes, numbers_from}
use Rattle.model.specs.Refusal.{group_of, form, content, plan, desk}
use Rattle.model.specs.Reading.{read_each}
use Rattle.model.specs.Roster.{listed}
use Rattle.model.specs.Edges.{position, edges_of, instance_of}
use Rattle.model.specs.Plans.{vote_of}
use Rattle.model.specs.PlanFile.{edge_of_pair, read_plan_by}
use Rattle.model.specs.Ranges.{Question, range_of, read_ranges, read_question, ranked}
use Rattle.model_desk.specs.Desk as D
use Rattle.model_desk.specs.Desk.{Choices, nothing, roster, state_refusal, answer_of, lent_after, desk_after, said, least_vote}
use Rattle.model_desk.specs.DeskCases.{whole, sample, one, Reply, replies, Answered}

abbrev first : List ℕ
first = bytes "1 1 1 1"

abbrev second : List ℕ
second = bytes "1 2 1 1"

abbrev ranges : List ℕ
ranges = bytes "1 2 1 1 1 4 2 3"

abbrev replied : List Reply
replied =
    replies nothing (D.least [] [] [] (whole 2047)) (D.refused 13 desk)
    ∷ replies (roster sample) (D.least [] [] [] (whole 2047)) (D.refused 15 desk)
    ∷ replies (roster sample) (D.least [] [] [] (whole 2048)) (D.refused 1 form)
    ∷ replies (roster sample) (D.least (bytes "1 1 1 2") [] (bytes "0 0") (whole 2048)) (D.refused 10 plan)
    ∷ replies one (D.least first (bytes "65") (bytes "0 0") (whole 2048)) (D.refused 2 form)
    ∷ replies one (D.least first second (bytes "1 2 0 1 1") (whole 2048)) (D.refused 21 content)
    ∷ replies one (D.least first second (bytes "1 2 1 1 1 4 2 3 7") (whole 2048)) (D.refused 9 form) ∷ []

pub least_said : (ch : Choices) → Answered ch replied
unfolding numbers_from group_of low listed read_each read_plan_by read_ranges read_question edge_of_pair instance_of edges_of position state_refusal answer_of
least_said ch = (refl, (refl, (refl, (refl, (refl, (refl, (refl, tt)))))))

-- the question that is read, and what is answered and written of it
abbrev asked : Question
asked = record { first = true ∷ false ∷ []; second = false ∷ true ∷ []; ranges = map range_of ((1, 2) ∷ (1, 1) ∷ (1, 4) ∷ (2, 3) ∷ []) }

pub least_written : (ch : Choices) → let ws = ch.choice_of sample asked in
    (answer_of ch (roster sample) (D.least first second ranges (whole 2048))
    ≡ said (least_vote (vote_of (ranked sample ws) asked.first asked.second) (length ws)))
    × (lent_after ch one (D.least first second ranges (whole 2048)) ≡ D.least first second ranges (ws ++ drop (length ws) (whole 2048)))
    × (lent_after ch one (D.least first second (bytes "0 0") (whole 2048)) ≡ D.least first second (bytes "0 0") (whole 2048))
    × (lent_after ch one (D.least first second ranges (whole 2047)) ≡ D.least first second ranges (whole 2047))
unfolding numbers_from group_of low listed read_each read_plan_by read_ranges read_question edge_of_pair instance_of edges_of position state_refusal answer_of lent_after
least_written ch = (refl, refl, refl, refl)

pub least_held : (desk_after one (D.least first second ranges (whole 2048)) ≡ one) × (desk_after one (D.least [] [] [] []) ≡ one)
unfolding numbers_from state_refusal desk_after
least_held = (refl, refl)
