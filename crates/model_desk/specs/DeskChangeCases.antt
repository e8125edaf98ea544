-- The desk when surveyors join and leave (W-202), run by the checker: what each call leaves held, and what it answers. On document 01's sample, and
-- with one surveyor and one stand in several shifts (W-204).
use Rattle.std.specs.Prelude.{ℕ, refl, true, false, List, [], ◌∷◌}
use Rattle.std.proofs.Math.Option.{Option-elim, or_else}
use Rattle.lists.specs.Sum.{count}
use Rattle.lists.specs.Search.{low}
use Rattle.lists.specs.First as Fst
use Rattle.model.specs.Decimal.{bytes, numbers_from}
use Rattle.model.specs.Refusal.{group_of, form, content, desk}
use Rattle.model.specs.Reading.{read_each}
use Rattle.model.specs.Roster.{Roster, listed}
use Rattle.model.specs.Edges.{position, edges_of, instance_of}
use Rattle.model.specs.Instance.{deg}
use Rattle.model.specs.Vote.{node_vote, vote}
use Rattle.model.specs.Plans.{choices, within, plans_of, same_plan, beaten_by, drawn_with, verdict_of}
use Rattle.model.specs.Reduction as R
use Rattle.model.specs.PlanFile.{edge_of_pair}
use Rattle.model.specs.Finder.{left_of, candidate_of, finder_of}
use Rattle.model_changes.specs.Changes.{joined, join_on, departed, leave_on, carried}
use Rattle.model_desk.specs.Desk as D
use Rattle.model_desk.specs.Desk.{Choices, nothing, roster, planned, Call, finds, said, state_refusal, answer_of, desk_after, refused}
use Rattle.model_desk.specs.DeskCases.{whole, diary, early, entry, sample, twice, one, two, Each, Change, turns, HeldThen, Reply, replies, Answered}

abbrev pub join : ℕ → List ℕ → Call finds
join q file = D.join q file (diary 1024) (whole 3072) (whole 193) (whole 193)

abbrev pub leave : ℕ → Call finds
leave s = D.leave s (diary 1024) (whole 3072) (whole 193) (whole 193)

-- a third surveyor, in the stand's tie; without the first surveyor's pair
abbrev three : Roster
three = record {
  quotas_s = bytes "1 1 1";
  quotas_t = bytes "1";
  lists_s = early "1" ∷ early "1" ∷ early "1" ∷ [];
  lists_t = record { strict = early "1 2"; tied = early "3" } ∷ [];
}

abbrev first_gone : Roster
first_gone = record {
  quotas_s = bytes "0 1";
  quotas_t = bytes "1";
  lists_s = [] ∷ early "1" ∷ [];
  lists_t = record { strict = early "2"; tied = [] } ∷ [];
}

-- W-204: a third surveyor who ranks the stand in shift 3, then in shift 1, and the same without the first
abbrev three_twice : Roster
three_twice = record {
  quotas_s = bytes "1 1 1";
  quotas_t = bytes "1";
  lists_s = early "1" ∷ early "1" ∷ (entry 1 3 ∷ entry 1 1 ∷ []) ∷ [];
  lists_t = record { strict = early "1 2"; tied = entry 3 1 ∷ entry 3 3 ∷ [] } ∷ [];
}

abbrev three_left : Roster
three_left = record {
  quotas_s = bytes "0 1 1";
  quotas_t = bytes "1";
  lists_s = [] ∷ early "1" ∷ (entry 1 3 ∷ entry 1 1 ∷ []) ∷ [];
  lists_t = record { strict = early "2"; tied = entry 3 1 ∷ entry 3 3 ∷ [] } ∷ [];
}

-- beside one surveyor in two shifts (DeskCases, `twice`) a second in the third; the first has left; the one alone has left
abbrev beside : Roster
beside = record {
  quotas_s = bytes "2 1";
  quotas_t = bytes "2";
  lists_s = (entry 1 3 ∷ entry 1 1 ∷ []) ∷ (entry 1 2 ∷ []) ∷ [];
  lists_t = record { strict = entry 1 1 ∷ []; tied = entry 1 3 ∷ entry 2 2 ∷ [] } ∷ [];
}

abbrev beside_left : Roster
beside_left = record {
  quotas_s = bytes "0 1";
  quotas_t = bytes "2";
  lists_s = [] ∷ (entry 1 2 ∷ []) ∷ [];
  lists_t = record { strict = []; tied = entry 2 2 ∷ [] } ∷ [];
}

abbrev nobody_left : Roster
nobody_left = record { quotas_s = bytes "0"; quotas_t = bytes "2"; lists_s = [] ∷ []; lists_t = record { strict = []; tied = [] } ∷ [] }

abbrev changes : List Change
changes =
    -- a plan held keeps its pairs, less the leaver's; with none held, none is held
    turns one (join 1 (bytes "1 1 1")) (planned three (true ∷ false ∷ false ∷ []))
    ∷ turns (roster sample) (join 1 (bytes "1 1 1")) (roster three)
    ∷ turns one (leave 1) (planned first_gone (false ∷ []))
    ∷ turns two (leave 1) (planned first_gone (true ∷ []))
    ∷ turns (roster sample) (leave 1) (roster first_gone)
    -- "leaving twice changes nothing more"
    ∷ turns (planned first_gone (true ∷ [])) (leave 1) (planned first_gone (true ∷ []))
    -- W-204: entries of all shifts come and go, and the plan's pairs keep theirs
    ∷ turns one (join 1 (bytes "2 1 3 1 1")) (planned three_twice (true ∷ false ∷ false ∷ false ∷ []))
    ∷ turns (planned three_twice (false ∷ false ∷ false ∷ true ∷ [])) (leave 1) (planned three_left (false ∷ false ∷ true ∷ []))
    ∷ turns (planned twice (false ∷ true ∷ [])) (join 1 (bytes "1 1 2")) (planned beside (false ∷ true ∷ false ∷ []))
    ∷ turns (planned beside (false ∷ true ∷ true ∷ [])) (leave 1) (planned beside_left (true ∷ []))
    ∷ turns (planned twice (true ∷ true ∷ [])) (leave 1) (planned nobody_left [])
    -- refused, by the change or by the state
    ∷ turns one (join 9 []) one ∷ turns one (join 1 (bytes "1 2 1")) one
    ∷ turns one (join 1 (bytes "1 1 4")) one ∷ turns one (leave 3) one
    ∷ turns one (D.join 1 (bytes "1 1 1") (diary 1024) (whole 3072) (whole 193) (whole 192)) one
    ∷ turns one (D.leave 1 (diary 1023) (whole 3072) (whole 193) (whole 193)) one
    ∷ turns nothing (leave 1) nothing ∷ []

pub holds : Each HeldThen changes
unfolding numbers_from low listed read_each position edges_of instance_of edge_of_pair state_refusal desk_after joined join_on departed leave_on carried
holds = (refl, (refl, (refl, (refl, (refl, (refl, (refl, (refl, (refl, (refl, (refl, (refl, (refl, (refl, (refl, (refl, (refl, (refl, tt))))))))))))))))))

-- 13, 15, 3, 17, then the list; 13, 15, 16; the finder's answer on the changed roster
abbrev answers : List Reply
answers =
    replies nothing (D.join 9 [] [] [] [] []) (refused 13 desk)
    ∷ replies nothing (D.leave 0 [] [] [] []) (refused 13 desk)
    ∷ replies one (D.join 9 [] (diary 1024) (whole 3071) (whole 193) (whole 193)) (refused 15 desk)
    ∷ replies one (D.leave 0 (diary 1024) (whole 3072) (whole 192) (whole 193)) (refused 15 desk)
    ∷ replies one (join 9 []) (refused 3 content) ∷ replies one (join 8 []) (refused 1 form)
    ∷ replies one (join 1 (bytes "33")) (refused 2 form) ∷ replies one (join 1 (bytes "1 1")) (refused 1 form)
    ∷ replies one (join 1 (bytes "1 2 4")) (refused 4 content)
    ∷ replies one (join 1 (bytes "1 1 4")) (refused 18 content)
    ∷ replies one (leave 0) (refused 16 content) ∷ replies one (leave 3) (refused 16 content)
    ∷ replies one (join 1 (bytes "1 1 1")) (said (D.plan 3)) ∷ replies one (leave 1) (said (D.plan 1))
    ∷ replies one (join 1 (bytes "2 1 3 1 1")) (said (D.plan 4))
    ∷ replies (roster twice) (leave 1) (said (D.plan 0)) ∷ []

pub answers_said : (ch : Choices) → Answered ch answers
unfolding numbers_from count low group_of listed read_each position edges_of instance_of deg node_vote vote choices within plans_of same_plan beaten_by drawn_with
    verdict_of R.cut R.ahead R.arrow R.loose R.reserved R.better_s R.better_t R.worse_reserved R.rule1 R.rule2 R.rule3 R.rule4 R.rule5 R.rule6 R.rule7
    Fst.first Option-elim or_else R.rules R.step_by R.first_step R.act R.begin R.steps_from R.state_after R.steps_of R.end_of left_of candidate_of finder_of joined join_on
    departed leave_on state_refusal answer_of
answers_said ch = (refl, (refl, (refl, (refl, (refl, (refl, (refl, (refl, (refl, (refl, (refl, (refl, (refl, (refl, (refl, (refl, tt))))))))))))))))
