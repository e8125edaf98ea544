-- Sessions at the desk, run by the checker: calls one after another from a desk that holds nothing, each with the answer that it must give. A session is
-- one Boolean test, and all of them are one theorem, for the rival that the calls name (`Choices.chosen`). What single calls answer whichever rival is
-- chosen, and what is held and written, is in model_desk/DeskCases.
use Rattle.std.specs.Prelude.{ℕ, suc, ◌≡◌, refl, Bool, true, ◌&&◌, List, [], ◌∷◌, ◌++◌, length, replicate, ℤ, pos, negsuc}
use Rattle.std.proofs.Math.Option.{Option-elim, or_else}
use Rattle.lists.specs.Sum.{count}
use Rattle.lists.specs.Search.{low}
use Rattle.lists.specs.First.{first, best}
use Rattle.lists.specs.Keep.{all?}
use Rattle.model.specs.Decimal.{bytes, numbers_from, same_bytes}
use Rattle.model.specs.Limits.{plan_size, roster_size, diary_size, left_size, day_size, pairing_size, choice_size}
use Rattle.model.specs.Refusal.{Group, form, content, plan, desk, group_of}
use Rattle.model.specs.Reading.{read_each}
use Rattle.model.specs.Roster.{listed, listed_back, both_or_neither}
use Rattle.model.specs.RosterFile.{read_roster_by, write_roster_by}
use Rattle.model.specs.Edges.{position, edges_of, instance_of}
use Rattle.model.specs.Instance.{deg}
use Rattle.model.specs.Vote.{node_vote, vote}
use Rattle.model.specs.Plans.{choices, within, plans_of, same_plan, beaten_by, drawn_with, verdict_of}
use Rattle.model.specs.Reduction as R
use Rattle.model.specs.PlanFile.{plan_bytes_by, edge_of_pair, read_plan_by}
use Rattle.model.specs.Ranges.{read_ranges, read_question, place_s, place_t, ranked}
use Rattle.model.specs.Finder.{Record, diary_of, left_of, candidate_of, finder_of}
use Rattle.model_desk.specs.Compare.{Winner, File, Part, first_file, second_file, comparison_of, part_of}
use Rattle.model_desk.specs.Compare as C
use Rattle.model.specs.Blocking.{blocks, some_blocks, top_blocking}
use Rattle.model_changes.specs.Changes.{joined, join_on, departed, leave_on, carried}
use Rattle.model_desk.specs.Desk as D
use Rattle.model_desk.specs.Desk.{Held, Topic, finds, judges, compares, proposes, bounds, Call, Answer, NoneKind, Level, Said, said, opening, state_refusal}
use Rattle.model_desk.specs.Desk.{answer_of, desk_after}
use Rattle.model_desk.specs.DeskCases.{part_with}
use Rattle.theory_verdict.specs.LemmaX.{swapped}
use Rattle.theory_verdict.specs.Search.{arc, layer, trace, terminal, directs, alone_at, loop_at, path_at, levels, search, rival_edges}
use Rattle.theory_verdict.specs.Rival.{rival_of}
use Rattle.theory_days.specs.Chain.{set_day, chase}
use Rattle.theory_days.specs.Spread.{free_day, with_day, spread}
use Rattle.theory_days.specs.Sheets.{spread_by}
use Rattle.theory_ranges.specs.Places.{ahead, place_in}
use Rattle.theory_ranges.specs.Worst.{worst_by}
use Rattle.theory_finder.specs.Choices.{chosen}

-- ---- an answer as numbers, so that two can be compared
abbrev group_code : Group → ℕ
group_code form = 1
group_code content = 2
group_code plan = 3
group_code desk = 4

abbrev vote_code : ℤ → List ℕ
vote_code (pos n) = 0 ∷ n ∷ []
vote_code (negsuc n) = 1 ∷ suc n ∷ []

abbrev winner_code : Winner → ℕ
winner_code C.first = 1
winner_code C.second = 2
winner_code C.both = 3
winner_code C.neither = 0

abbrev file_code : File → ℕ
file_code first_file = 1
file_code second_file = 2

abbrev part_code : Part → List ℕ
part_code p = file_code p.file ∷ p.from ∷ length p.bytes ∷ p.bytes

abbrev none_code : NoneKind → List ℕ
none_code (D.left n) = 1 ∷ n ∷ []
none_code (D.rivalled v) = 2 ∷ vote_code v

abbrev level_code : Level → ℕ
level_code D.bare = 0
level_code D.a_roster = 1
level_code D.a_plan = 2
level_code D.a_proposal = 3

abbrev code : {k : Topic} → Said k → List ℕ
code D.loaded = []
code (D.wrote n) = n ∷ []
code (D.plan n) = 1 ∷ n ∷ []
code (D.none n k) = 2 ∷ n ∷ none_code k
code D.strong = 1 ∷ []
code (D.popular v) = 2 ∷ vote_code v
code (D.beaten v) = 3 ∷ vote_code v
code (D.votes v w x) = winner_code x ∷ vote_code v ++ vote_code w
code (D.blocked_by s t k) = s ∷ t ∷ k ∷ []
code D.unblocked = []
code (D.both_votes v w) = vote_code v ++ vote_code w
code D.committed = []
code (D.least_vote v n) = n ∷ vote_code v
code (D.holding x) = level_code x ∷ []

abbrev answer_code : {k : Topic} → Answer k → List ℕ
answer_code (D.refused n g) = 0 ∷ n ∷ group_code g ∷ []
answer_code (said x) = 1 ∷ code x

-- ---- a session: each call with its answer, a comparison's with the part that it hands back, from what is held on
pub data Turn : Type 0 where
  gives : {k : Topic} → Call k → Answer k → Turn
  hands : Call compares → Answer compares → Part → Turn

abbrev Session : Type 0
Session = List Turn

abbrev same : {k : Topic} → (a b : Answer k) → Bool
same a b = same_bytes (answer_code a) (answer_code b)

abbrev holds : Held → Session → Bool
holds h [] = true
holds h (gives c a ∷ s) = same (answer_of chosen h c) a && holds (desk_after h c) s
holds h (hands c a p ∷ s) =
    same (answer_of chosen h c) a && (same_bytes (part_code (part_with c (answer_of chosen h c))) (part_code p) && holds (desk_after h c) s)

-- buffers of their sizes, or of others
abbrev room : ℕ → List ℕ
room n = replicate n 7

abbrev records : ℕ → List Record
records n = replicate n (record { fate = 7; surveyor = 7; stand = 7; shift = 7; rule = 7 })

abbrev find : Call finds
find = D.find (records diary_size) (room left_size) (room plan_size) (room plan_size)

abbrev join : ℕ → List ℕ → Call finds
join q list = D.join q list (records diary_size) (room left_size) (room plan_size) (room plan_size)

abbrev leave : ℕ → Call finds
leave s = D.leave s (records diary_size) (room left_size) (room plan_size) (room plan_size)

abbrev judge : Call judges
judge = D.judge (room plan_size) (room pairing_size)

abbrev compare : (first second : List ℕ) → Call compares
compare a b = D.compare a b (room pairing_size) (room pairing_size)

abbrev propose : List ℕ → Call proposes
propose a = D.propose a (room pairing_size) (room pairing_size)

abbrev nothing_of : File → Part
nothing_of f = record { file = f; from = 0; bytes = [] }

abbrev pairs_of : File → List ℕ → Part
pairs_of f bs = record { file = f; from = 1; bytes = bs }

-- document 01's sample, its two plans of one pair; P4; P5, the same with stand quota 2; five surveyors with a stand each
abbrev sample : List ℕ
sample = bytes "2 1 1 1 1 2 0 1 1 1 1 1 1 2 0 2 0 1 1 2 1"

abbrev tied : List ℕ
tied = bytes "2 1 1 1 1 2 0 1 1 1 1 1 1 2 0 0 2 1 1 2 1"

abbrev shared : List ℕ
shared = bytes "2 1 1 1 2 2 0 1 1 1 1 1 1 2 0 0 2 1 1 2 1"

abbrev five : List ℕ
five = bytes "5 1 1 1 1 1 5 1 1 1 1 1 5 0 1 1 1 1 2 1 1 3 1 1 4 1 1 5 1 5 0 1 0 1 1 1 0 2 1 1 0 3 1 1 0 4 1 1 0 5 1"

-- 13 before 14 and 15, for every call but a roster's load; then 14 before 15; then 15
abbrev states : Session
states =
    gives (D.load_plan (bytes "0")) (D.refused 13 desk)
    ∷ gives (D.write_roster_to []) (D.refused 13 desk)
    ∷ gives (D.write_plan_to []) (D.refused 13 desk)
    ∷ gives (D.find [] [] [] []) (D.refused 13 desk)
    ∷ gives (D.join 9 [] [] [] [] []) (D.refused 13 desk)
    ∷ gives (D.leave 0 [] [] [] []) (D.refused 13 desk)
    ∷ gives (D.judge [] []) (D.refused 13 desk)
    ∷ gives D.blocking (D.refused 13 desk)
    ∷ gives (D.spread []) (D.refused 13 desk)
    ∷ hands (D.compare (bytes "65") (bytes "0") [] []) (D.refused 13 desk) (nothing_of first_file)
    ∷ gives (D.load_roster sample) (said D.loaded)
    ∷ hands (D.compare (bytes "65") (bytes "0") (room 255) (room pairing_size)) (D.refused 15 desk) (nothing_of first_file)
    ∷ hands (D.compare (bytes "65") (bytes "0") (room pairing_size) (room 255)) (D.refused 15 desk) (nothing_of first_file)
    ∷ gives (D.write_plan_to []) (D.refused 14 desk)
    ∷ gives (D.judge [] []) (D.refused 14 desk)
    ∷ gives D.blocking (D.refused 14 desk)
    ∷ gives (D.spread []) (D.refused 14 desk)
    ∷ gives (D.write_roster_to (room 4261)) (D.refused 15 desk)
    ∷ gives (D.find (records 1023) (room left_size) (room plan_size) (room plan_size)) (D.refused 15 desk)
    ∷ gives (D.find (records diary_size) (room 3071) (room plan_size) (room plan_size)) (D.refused 15 desk)
    ∷ gives (D.join 9 [] (records diary_size) (room left_size) (room 192) (room plan_size)) (D.refused 15 desk)
    ∷ gives (D.leave 0 (records diary_size) (room left_size) (room plan_size) (room 192)) (D.refused 15 desk)
    ∷ gives (D.load_plan (bytes "1 1 1 1")) (said D.loaded)
    ∷ gives (D.judge (room 192) (room pairing_size)) (D.refused 15 desk)
    ∷ gives (D.judge (room plan_size) (room 255)) (D.refused 15 desk)
    ∷ gives (D.write_plan_to (room 192)) (D.refused 15 desk)
    ∷ gives (D.spread (room 63)) (D.refused 15 desk) ∷ []

-- a morning: refused loads leave roster and plan, a roster drops the plan, the looks in between leave the desk alike
abbrev morning : Session
morning =
    gives (D.load_roster (bytes "1 9")) (D.refused 3 content)
    ∷ gives (D.load_roster sample) (said D.loaded)
    ∷ gives find (said (D.plan 2))
    ∷ gives (D.load_plan (bytes "1 2 1 1")) (said D.loaded)
    ∷ gives D.blocking (said (D.blocked_by 1 1 1))
    ∷ gives (D.load_plan (bytes "1 3 1 1")) (D.refused 10 plan)
    ∷ gives D.blocking (said (D.blocked_by 1 1 1))
    ∷ gives (D.load_roster (bytes "33")) (D.refused 2 form)
    ∷ gives judge (said (D.beaten (negsuc 0)))
    ∷ gives (D.load_plan (bytes "1 1 1 1")) (said D.loaded)
    ∷ gives judge (said D.strong)
    ∷ gives D.blocking (said D.unblocked)
    ∷ gives (D.write_plan_to (room plan_size)) (said (D.wrote 4))
    ∷ gives (D.write_roster_to (room roster_size)) (said (D.wrote 21))
    ∷ hands (compare (bytes "1 1 1 1") (bytes "1 2 1 1")) (said (D.votes (pos 1) (negsuc 0) C.first)) (pairs_of first_file (bytes "1 1 1"))
    ∷ hands (compare (bytes "1 2 1 1") (bytes "1 1 1 1")) (said (D.votes (negsuc 0) (pos 1) C.second)) (pairs_of second_file (bytes "1 1 1"))
    ∷ hands (compare (bytes "0") (bytes "0")) (said (D.votes (pos 0) (pos 0) C.neither)) (nothing_of first_file)
    ∷ hands (compare (bytes "1 3 1 1") (bytes "65")) (D.refused 10 plan) (nothing_of first_file)
    ∷ hands (compare (bytes "0") (bytes "65")) (D.refused 2 form) (nothing_of first_file)
    ∷ gives judge (said D.strong)
    ∷ gives (D.load_roster tied) (said D.loaded)
    ∷ gives judge (D.refused 14 desk)
    ∷ gives find (said (D.none 2 (D.rivalled (pos 0))))
    ∷ gives (D.load_plan (bytes "1 1 1 1")) (said D.loaded)
    ∷ gives judge (said (D.popular (pos 0))) ∷ []

-- votes of two digits, with a minus sign
abbrev digits : Session
digits =
    gives (D.load_roster five) (said D.loaded)
    ∷ hands (compare (bytes "0") (bytes "5 1 1 1 2 2 1 3 3 1 4 4 1 5 5 1")) (said (D.votes (negsuc 9) (pos 10) C.second))
    (pairs_of second_file (bytes "1 1 1 2 2 1 3 3 1 4 4 1 5 5 1")) ∷ []

-- in the field: the plan loses the leaver's pairs, a second leaving changes nothing, refused changes leave the desk
abbrev field : Session
field =
    gives (D.load_roster sample) (said D.loaded)
    ∷ gives (D.load_plan (bytes "1 1 1 1")) (said D.loaded)
    ∷ gives (join 9 []) (D.refused 3 content)
    ∷ gives (join 1 (bytes "1 1 4")) (D.refused 18 content)
    ∷ gives (leave 3) (D.refused 16 content)
    ∷ gives judge (said D.strong)
    ∷ gives (leave 1) (said (D.plan 1))
    ∷ gives judge (said (D.beaten (negsuc 1)))
    ∷ gives (leave 1) (said (D.plan 1))
    ∷ gives (D.write_plan_to (room plan_size)) (said (D.wrote 1))
    ∷ gives (join 1 (bytes "1 1 3")) (said (D.plan 2))
    ∷ gives (D.load_plan (bytes "1 3 1 3")) (said D.loaded)
    ∷ gives D.blocking (said (D.blocked_by 2 1 1)) ∷ []

-- a plan proposed and committed: refused calls and a second leaving leave the proposal open, and what is written is the plan that is held
abbrev proposals : Session
proposals =
    gives D.commit (D.refused 13 desk)
    ∷ gives (D.propose [] [] []) (D.refused 13 desk)
    ∷ gives (D.load_roster shared) (said D.loaded)
    ∷ gives D.commit (D.refused 14 desk)
    ∷ gives (propose (bytes "1 1 1 1")) (D.refused 14 desk)
    ∷ gives (D.load_plan (bytes "1 1 1 1")) (said D.loaded)
    ∷ gives D.commit (D.refused 20 desk)
    ∷ gives (propose (bytes "2 1 1 1 2 1 1")) (said (D.both_votes (pos 2) (negsuc 1)))
    ∷ gives (propose (bytes "9")) (D.refused 1 form)
    ∷ gives (D.write_plan_to (room plan_size)) (said (D.wrote 4))
    ∷ gives D.commit (said D.committed)
    ∷ gives (D.write_plan_to (room plan_size)) (said (D.wrote 7))
    ∷ gives D.commit (D.refused 20 desk)
    ∷ gives (leave 2) (said (D.plan 1))
    ∷ gives (propose (bytes "0")) (said (D.both_votes (negsuc 1) (pos 2)))
    ∷ gives (leave 2) (said (D.plan 1))
    ∷ gives (join 9 []) (D.refused 3 content)
    ∷ gives (D.write_plan_to (room plan_size)) (said (D.wrote 4))
    ∷ gives D.commit (said D.committed)
    ∷ gives (D.write_plan_to (room plan_size)) (said (D.wrote 1)) ∷ []

-- the foreman's sheet (W-209): the number of the held plan's entries, whatever is proposed beside it; a plan with none has none
abbrev sheets : Session
sheets =
    gives (D.load_roster shared) (said D.loaded)
    ∷ gives (D.load_plan (bytes "2 1 1 1 2 1 1")) (said D.loaded)
    ∷ gives (D.spread (room day_size)) (said (D.wrote 2))
    ∷ gives (propose (bytes "0")) (said (D.both_votes (negsuc 3) (pos 4)))
    ∷ gives (D.spread (room 100)) (said (D.wrote 2))
    ∷ gives D.commit (said D.committed)
    ∷ gives (D.spread (room day_size)) (said (D.wrote 0))
    ∷ gives (leave 1) (said (D.plan 1))
    ∷ gives (D.spread (room day_size)) (said (D.wrote 0))
    ∷ gives (D.load_roster (bytes "33")) (D.refused 2 form)
    ∷ gives (D.spread (room day_size)) (said (D.wrote 0))
    ∷ gives (D.load_roster shared) (said D.loaded)
    ∷ gives (D.spread (room day_size)) (D.refused 14 desk) ∷ []

-- rankings not yet settled (W-211): 13, 15, then the plans and the ranges; the least vote over the ranges, and the ordinary one where they are settled
abbrev least : (ranges : List ℕ) → Call bounds
least ranges = D.least (bytes "1 1 1 1") (bytes "1 2 1 1") ranges (room choice_size)

abbrev unsettled : Session
unsettled =
    gives (D.least [] [] [] []) (D.refused 13 desk)
    ∷ gives (D.load_roster sample) (said D.loaded)
    ∷ gives (D.least [] [] [] (room 2047)) (D.refused 15 desk)
    ∷ gives (D.least (bytes "1 3 1 1") [] [] (room choice_size)) (D.refused 10 plan)
    ∷ gives (D.least (bytes "0") (bytes "65") [] (room choice_size)) (D.refused 2 form)
    ∷ gives (least (bytes "1 2 1 1 1 4 2")) (D.refused 1 form)
    ∷ gives (least (bytes "1 2 1 1 5 4 2 3 1")) (D.refused 21 content)
    ∷ gives (least (bytes "1 2 1 1 1 4 2 3 1")) (D.refused 9 form)
    ∷ gives (least (bytes "1 2 1 1 1 4 2 3")) (said (D.least_vote (negsuc 0) 4))
    ∷ gives (least (bytes "1 1 1 1 1 1 2 2")) (said (D.least_vote (pos 1) 4))
    ∷ gives (least (bytes "1 32 1 32 3 3 3 3")) (said (D.least_vote (pos 0) 4))
    ∷ gives judge (D.refused 14 desk) ∷ []

-- what is held, from call to call; and the proposal's bytes, which are those that a commit makes the plan's
abbrev kept : Session
kept =
    gives D.holds (said (D.holding D.bare))
    ∷ gives (D.write_proposal_to []) (D.refused 13 desk)
    ∷ gives (D.load_roster shared) (said D.loaded)
    ∷ gives D.holds (said (D.holding D.a_roster))
    ∷ gives (D.write_proposal_to []) (D.refused 14 desk)
    ∷ gives (D.load_plan (bytes "1 1 1 1")) (said D.loaded)
    ∷ gives D.holds (said (D.holding D.a_plan))
    ∷ gives (D.write_proposal_to []) (D.refused 20 desk)
    ∷ gives (propose (bytes "2 1 1 1 2 1 1")) (said (D.both_votes (pos 2) (negsuc 1)))
    ∷ gives D.holds (said (D.holding D.a_proposal))
    ∷ gives (D.write_proposal_to (room 192)) (D.refused 15 desk)
    ∷ gives (D.write_proposal_to (room plan_size)) (said (D.wrote 7))
    ∷ gives D.commit (said D.committed)
    ∷ gives D.holds (said (D.holding D.a_plan))
    ∷ gives (D.write_plan_to (room plan_size)) (said (D.wrote 7)) ∷ []

pub sessions : all? (holds opening) (states ∷ morning ∷ digits ∷ field ∷ proposals ∷ sheets ∷ unsettled ∷ kept ∷ []) ≡ true
unfolding numbers_from count low group_of listed listed_back both_or_neither read_each read_roster_by write_roster_by position edges_of instance_of deg node_vote
    vote choices within plans_of same_plan beaten_by drawn_with verdict_of R.cut R.ahead R.arrow R.loose R.reserved R.better_s R.better_t R.worse_reserved
    R.rule1 R.rule2 R.rule3 R.rule4 R.rule5 R.rule6 R.rule7 first Option-elim or_else R.rules R.step_by R.first_step R.act R.begin R.steps_from R.state_after
    R.steps_of R.end_of plan_bytes_by edge_of_pair read_plan_by diary_of left_of candidate_of finder_of comparison_of part_of blocks some_blocks top_blocking joined
    join_on departed leave_on carried state_refusal answer_of desk_after rival_of rival_edges swapped search directs alone_at levels loop_at path_at best arc layer
    trace terminal set_day chase free_day with_day spread spread_by read_ranges read_question place_s place_t ranked ahead place_in worst_by
sessions = refl
