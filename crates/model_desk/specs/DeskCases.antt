-- The desk in a session, run by the checker: what each call leaves held (`holds`, `shifts_held`), and what it answers (`…-said`). What is held is
-- written out, so that the lists together are the session. No answer here depends on which rival is named, so they hold for every choice.
use Rattle.std.specs.Prelude.{ℕ, ◌≡◌, refl, true, false, List, [], ◌∷◌, ◌++◌, map, replicate, pos, negsuc}
use Prim.Native.String.{String}
use Rattle.std.proofs.Common.{ap, ◌∙◌}
use Rattle.std.proofs.Math.Option.{Option-elim, or_else}
use Rattle.lists.specs.Sum.{count}
use Rattle.lists.specs.Search.{low}
use Rattle.lists.specs.First as Fst
use Rattle.model.specs.Decimal.{bytes, numbers_from, same_bytes}
use Rattle.model.specs.Refusal.{group_of, form, content, plan, desk}
use Rattle.model.specs.Reading.{read_each}
use Rattle.model.specs.Roster.{Entry, Roster, listed, listed_back, both_or_neither}
use Rattle.model.specs.RosterFile.{read_roster_by, read_roster, write_roster_by, write_roster}
use Rattle.model.specs.Edges.{position, edges_of, instance_of}
use Rattle.model.specs.Instance.{Instance, deg}
use Rattle.model.specs.Vote.{node_vote, vote}
use Rattle.model.specs.Plans.{Plan, choices, within, plans_of, same_plan, beaten_by, drawn_with, verdict_of}
use Rattle.model.specs.Plans as P
use Rattle.model.specs.Reduction as R
use Rattle.model.specs.PlanFile.{plan_bytes_by, edge_of_pair, read_plan_by, read_plan}
use Rattle.model.specs.Finder.{Record, diary_of, left_of, candidate_of, finder_of}
use Rattle.model_desk.specs.Compare.{File, Part, first_file, second_file, first, second, neither, comparison_of, part_of}
use Rattle.model.specs.Blocking.{blocks, some_blocks, top_blocking}
use Rattle.model.specs.Facing.{facing, pairing_bytes}
use Rattle.model_desk.specs.Compare as C
use Rattle.model_desk.specs.Calls as A
use Rattle.model_desk.specs.Desk as D
use Rattle.model_desk.specs.Desk.{Choices, Held, nothing, roster, planned, Topic, judges, compares, finds, Call, Answer, said, loaded, state_refusal}
use Rattle.model_desk.specs.Desk.{answer_of, lent_after, desk_after}
use Rattle.model_desk.specs.Desk.{refused, wrote, strong, none, left}

-- buffers of a size
abbrev pub whole : ℕ → List ℕ
whole n = replicate n 7

-- W-208: with buffers of their size for the pairings
abbrev pub judge : List ℕ → Call judges
judge v = D.judge v (whole 256)

abbrev pub compare : (first second : List ℕ) → Call compares
compare a b = D.compare a b (whole 256) (whole 256)

abbrev pub diary : ℕ → List Record
diary n = replicate n (record { fate = 7; surveyor = 7; stand = 7; shift = 7; rule = 7 })

abbrev find : Call finds
find = D.find (diary 1024) (whole 3072) (whole 193) (whole 193)

-- entries in shift 1, by their numbers; one in any shift
abbrev pub early : String → List Entry
early s = map (λ n. record { number = n; shift = 1 }) (bytes s)

abbrev pub entry : ℕ → ℕ → Entry
entry n k = record { number = n; shift = k }

-- document 01's sample; P6; five surveyors with a stand each
abbrev pub sample : Roster
sample = record {
  quotas_s = bytes "1 1";
  quotas_t = bytes "1";
  lists_s = early "1" ∷ early "1" ∷ [];
  lists_t = record { strict = early "1 2"; tied = [] } ∷ [];
}

abbrev four : Roster
four = record {
  quotas_s = bytes "1 1";
  quotas_t = bytes "1 1";
  lists_s = early "1 2" ∷ early "2 1" ∷ [];
  lists_t = record { strict = early "2 1"; tied = [] } ∷ record { strict = early "1 2"; tied = [] } ∷ [];
}

abbrev five : Roster
five = record {
  quotas_s = bytes "1 1 1 1 1";
  quotas_t = bytes "1 1 1 1 1";
  lists_s = early "1" ∷ early "2" ∷ early "3" ∷ early "4" ∷ early "5" ∷ [];
  lists_t = record { strict = early "1"; tied = [] } ∷ record { strict = early "2"; tied = [] } ∷ record { strict = early "3"; tied = [] }
      ∷ record { strict = early "4"; tied = [] } ∷ record { strict = early "5"; tied = [] } ∷ [];
}

-- W-204, surveyor 1 ranks stand 1 in shift 3, then in shift 1: with quotas 2, the stand has shift 1 strict and shift 3 tied (P23); with quotas 1,
-- it prefers shift 1 (P24)
abbrev pub twice : Roster
twice = record {
  quotas_s = bytes "2";
  quotas_t = bytes "2";
  lists_s = (entry 1 3 ∷ entry 1 1 ∷ []) ∷ [];
  lists_t = record { strict = entry 1 1 ∷ []; tied = entry 1 3 ∷ [] } ∷ [];
}

abbrev crossed : Roster
crossed = record {
  quotas_s = bytes "1";
  quotas_t = bytes "1";
  lists_s = (entry 1 3 ∷ entry 1 1 ∷ []) ∷ [];
  lists_t = record { strict = entry 1 1 ∷ entry 1 3 ∷ []; tied = [] } ∷ [];
}

-- the sample with the plan of its first pair, of its second
abbrev pub one : Held
one = planned sample (true ∷ false ∷ [])

abbrev pub two : Held
two = planned sample (false ∷ true ∷ [])

abbrev sample_file : List ℕ
sample_file = bytes "2 1 1 1 1 2 0 1 1 1 1 1 1 2 0 2 0 1 1 2 1"

-- a property of every element of a list
abbrev pub Each : {A : Type 0} → (A → Type 0) → List A → Type 0
Each P [] = Unit {0}
Each P (x ∷ xs) = P x × Each P xs

-- ---- what is held after each call
pub data Change : Type 0 where
  turns : (before : Held) {k : Topic} → Call k → (after : Held) → Change

abbrev pub HeldThen : Change → Type 0
HeldThen (turns h c h') = desk_after h c ≡ h'

abbrev changes : List Change
changes =
    -- a roster; a plan; another in its place; a roster drops it
    turns nothing (D.load_roster sample_file) (roster sample)
    ∷ turns (roster sample) (D.load_plan (bytes "1 2 1 1")) two
    ∷ turns two (D.load_plan (bytes "1 1 1 1")) one
    ∷ turns one (D.load_roster (bytes "2 1 1 2 1 1 4 0 2 1 1 2 1 2 2 1 1 1 4 0 2 0 2 1 1 1 2 0 1 1 2 1")) (roster four)
    -- refused loads leave roster and plan
    ∷ turns nothing (D.load_roster (bytes "1 9")) nothing
    ∷ turns nothing (D.load_plan (bytes "0")) nothing
    ∷ turns (roster sample) (D.load_plan (bytes "1 3 1 1")) (roster sample)
    ∷ turns one (D.load_plan (bytes "2 1 1 1 2 1 1")) one
    ∷ turns one (D.load_roster (bytes "1 9")) one
    -- the other calls leave the desk alike
    ∷ turns one (D.write_roster_to (whole 4262)) one
    ∷ turns one (D.write_plan_to (whole 193)) one
    ∷ turns one (judge (whole 193)) one
    ∷ turns one (compare (bytes "0") (bytes "0")) one
    ∷ turns one D.blocking one ∷ turns one find one ∷ []

pub holds : Each HeldThen changes
unfolding numbers_from low listed listed_back both_or_neither read_each read_roster_by position edges_of instance_of edge_of_pair read_plan_by state_refusal desk_after
holds = (refl, (refl, (refl, (refl, (refl, (refl, (refl, (refl, (refl, (refl, (refl, (refl, (refl, (refl, (refl, tt)))))))))))))))

-- W-204: shifts, read and held, or refused
abbrev shift_changes : List Change
shift_changes =
    turns one (D.load_roster (bytes "1 2 1 2 2 0 2 1 3 1 1 2 0 1 1 1 1 1 3")) (roster twice)
    ∷ turns (roster twice) (D.load_plan (bytes "1 1 1 3")) (planned twice (false ∷ true ∷ []))
    ∷ turns one (D.load_roster (bytes "1 1 1 1 1 0 1 1 4")) one
    ∷ turns one (D.load_plan (bytes "1 1 1 3")) one ∷ []

pub shifts_held : Each HeldThen shift_changes
unfolding numbers_from low listed listed_back both_or_neither read_each read_roster_by position edges_of instance_of edge_of_pair read_plan_by state_refusal desk_after
shifts_held = (refl, (refl, (refl, (refl, tt))))

-- ---- what each call answers
abbrev empty : Part
empty = record { file = first_file; from = 0; bytes = [] }

abbrev pairs : File → String → Part
pairs f s = record { file = f; from = 1; bytes = bytes s }

-- on what is held, a call and its answer; a comparison's with the part that it hands back
pub data Reply : Type 0 where
  replies : Held → {k : Topic} → Call k → Answer k → Reply
  hands : Held → Call compares → Answer compares → Part → Reply

-- the part that a comparison hands back with its answer
abbrev pub part_with : Call compares → Answer compares → Part
part_with (D.asks (A.compare a b f k)) x = D.part_in a b x

abbrev pub Given : Choices → Reply → Type 0
Given ch (replies h c x) = answer_of ch h c ≡ x
Given ch (hands h c x p) = (answer_of ch h c ≡ x) × (part_with c (answer_of ch h c) ≡ p)

abbrev pub Answered : Choices → List Reply → Type 0
Answered ch xs = Each (Given ch) xs

-- a desk that is new: 13 before 14 and 15, for every call but a roster's load; a comparison hands back the empty part of its first file
abbrev no_roster : List Reply
no_roster =
    replies D.opening (D.load_plan (bytes "0")) (refused 13 desk)
    ∷ replies D.opening (D.write_roster_to []) (refused 13 desk)
    ∷ replies D.opening (D.write_plan_to []) (refused 13 desk)
    ∷ replies D.opening (D.find [] [] [] []) (refused 13 desk)
    ∷ replies D.opening (judge []) (refused 13 desk)
    ∷ replies D.opening D.blocking (refused 13 desk)
    ∷ hands D.opening (compare (bytes "65") (bytes "0")) (refused 13 desk) empty ∷ []

pub no_roster_said : (ch : Choices) → Answered ch no_roster
unfolding numbers_from count low group_of listed listed_back both_or_neither read_each read_roster_by write_roster_by position edges_of instance_of deg node_vote
    vote choices within plans_of same_plan beaten_by drawn_with verdict_of R.cut R.ahead R.arrow R.loose R.reserved R.better_s R.better_t R.worse_reserved
    R.rule1 R.rule2 R.rule3 R.rule4 R.rule5 R.rule6 R.rule7 Fst.first Option-elim or_else R.rules R.step_by R.first_step R.act R.begin R.steps_from R.state_after
    R.steps_of R.end_of plan_bytes_by edge_of_pair read_plan_by diary_of left_of candidate_of finder_of comparison_of part_of blocks some_blocks state_refusal answer_of
no_roster_said ch = (refl, (refl, (refl, (refl, (refl, (refl, ((refl, refl), tt)))))))

-- a roster: 14 before 15, and 15 for each buffer
abbrev short_buffers : List Reply
short_buffers =
    replies (roster sample) D.blocking (refused 14 desk)
    ∷ replies (roster sample) (judge []) (refused 14 desk)
    ∷ replies (roster sample) (D.write_plan_to (whole 192)) (refused 14 desk)
    ∷ replies (roster sample) (D.write_roster_to (whole 4261)) (refused 15 desk)
    ∷ replies (roster sample) (D.find (diary 1023) (whole 3072) (whole 193) (whole 193)) (refused 15 desk)
    ∷ replies (roster sample) (D.find (diary 1024) (whole 3071) (whole 193) (whole 193)) (refused 15 desk)
    ∷ replies (roster sample) (D.find (diary 1024) (whole 3072) (whole 192) (whole 193)) (refused 15 desk)
    ∷ replies (roster sample) (D.find (diary 1024) (whole 3072) (whole 193) (whole 192)) (refused 15 desk)
    ∷ replies one (judge (whole 192)) (refused 15 desk)
    ∷ replies one (D.judge (whole 193) (whole 255)) (refused 15 desk)
    ∷ replies one (D.write_plan_to (whole 192)) (refused 15 desk) ∷ []

pub short_buffers_said : (ch : Choices) → Answered ch short_buffers
unfolding numbers_from count low group_of listed listed_back both_or_neither read_each read_roster_by write_roster_by position edges_of instance_of deg node_vote
    vote choices within plans_of same_plan beaten_by drawn_with verdict_of R.cut R.ahead R.arrow R.loose R.reserved R.better_s R.better_t R.worse_reserved
    R.rule1 R.rule2 R.rule3 R.rule4 R.rule5 R.rule6 R.rule7 Fst.first Option-elim or_else R.rules R.step_by R.first_step R.act R.begin R.steps_from R.state_after
    R.steps_of R.end_of plan_bytes_by edge_of_pair read_plan_by diary_of left_of candidate_of finder_of comparison_of part_of blocks some_blocks state_refusal answer_of
short_buffers_said ch = (refl, (refl, (refl, (refl, (refl, (refl, (refl, (refl, (refl, (refl, (refl, tt)))))))))))

-- loads, accepted and refused
abbrev loads : List Reply
loads =
    replies nothing (D.load_roster sample_file) (said loaded)
    ∷ replies one (D.load_roster (bytes "1 9")) (refused 3 content)
    ∷ replies (roster sample) (D.load_plan (bytes "1 2 1 1")) (said loaded)
    ∷ replies one (D.load_plan (bytes "1 3 1 1")) (refused 10 plan)
    ∷ replies nothing (D.load_roster (bytes "1 1 1 1 1 0 1 1 4")) (refused 18 content)
    ∷ replies one (D.load_plan (bytes "1 1 1 4")) (refused 10 plan) ∷ []

roster_load : (ch : Choices) (h : Held) (file : List ℕ) → answer_of ch h (D.load_roster file) ≡ D.loaded_roster (read_roster file)
unfolding state_refusal answer_of
roster_load ch h file = refl

plan_load : (ch : Choices) (r : Roster) (M : Plan) (file : List ℕ)
    → (answer_of ch (roster r) (D.load_plan file) ≡ D.loaded_plan (read_plan (instance_of r) file))
    × (answer_of ch (planned r M) (D.load_plan file) ≡ D.loaded_plan (read_plan (instance_of r) file))
unfolding state_refusal answer_of
plan_load ch r M file = (refl, refl)

rosters_read : (D.loaded_roster (read_roster sample_file) ≡ said loaded) × (D.loaded_roster (read_roster (bytes "1 9")) ≡ refused 3 content)
    × (D.loaded_roster (read_roster (bytes "1 1 1 1 1 0 1 1 4")) ≡ refused 18 content)
unfolding numbers_from count low group_of listed listed_back both_or_neither read_each read_roster_by position edges_of instance_of edge_of_pair read_plan_by
rosters_read = (refl, refl, refl)

plans_read : (D.loaded_plan (read_plan (instance_of sample) (bytes "1 2 1 1")) ≡ said loaded)
    × (D.loaded_plan (read_plan (instance_of sample) (bytes "1 3 1 1")) ≡ refused 10 plan)
    × (D.loaded_plan (read_plan (instance_of sample) (bytes "1 1 1 4")) ≡ refused 10 plan)
unfolding numbers_from count low group_of listed listed_back both_or_neither read_each read_roster_by position edges_of instance_of edge_of_pair read_plan_by
plans_read = (refl, refl, refl)

pub loads_said : (ch : Choices) → Answered ch loads
loads_said ch = (
  roster_load ch nothing sample_file ∙ rosters_read.0,
  (
    roster_load ch one (bytes "1 9") ∙ rosters_read.1,
    (
      (plan_load ch sample [] (bytes "1 2 1 1")).0 ∙ plans_read.0,
      (
        (plan_load ch sample (true ∷ false ∷ []) (bytes "1 3 1 1")).1 ∙ plans_read.1,
        (
          roster_load ch nothing (bytes "1 1 1 1 1 0 1 1 4") ∙ rosters_read.2,
          ((plan_load ch sample (true ∷ false ∷ []) (bytes "1 1 1 4")).1 ∙ plans_read.2, tt),
        ),
      ),
    ),
  ),
)

-- writing
abbrev written : List Reply
written =
    replies one (D.write_plan_to (whole 193)) (said (wrote 4))
    ∷ replies one (D.write_roster_to (whole 4262)) (said (wrote 21))
    ∷ replies (planned twice (true ∷ true ∷ [])) (D.write_plan_to (whole 193)) (said (wrote 7))
    ∷ replies (roster twice) (D.write_roster_to (whole 4262)) (said (wrote 19)) ∷ []

pub written_said : (ch : Choices) → Answered ch written
unfolding numbers_from count low group_of listed listed_back both_or_neither read_each read_roster_by write_roster_by position edges_of instance_of deg node_vote
    vote choices within plans_of same_plan beaten_by drawn_with verdict_of R.cut R.ahead R.arrow R.loose R.reserved R.better_s R.better_t R.worse_reserved
    R.rule1 R.rule2 R.rule3 R.rule4 R.rule5 R.rule6 R.rule7 Fst.first Option-elim or_else R.rules R.step_by R.first_step R.act R.begin R.steps_from R.state_after
    R.steps_of R.end_of plan_bytes_by edge_of_pair read_plan_by diary_of left_of candidate_of finder_of comparison_of part_of blocks some_blocks state_refusal answer_of
written_said ch = (refl, (refl, (refl, (refl, tt))))

-- the verdict, the blocking pair and the finder, where no rival is named
abbrev found : List Reply
found =
    replies one (judge (whole 193)) (said strong)
    ∷ replies one D.blocking (said D.unblocked)
    ∷ replies two D.blocking (said (D.blocked_by 1 1 1))
    ∷ replies (roster sample) find (said (D.plan 2))
    ∷ replies (roster four) find (said (none 0 (left 4)))
    -- two pairs of one surveyor and one stand: with none held the surveyor's best is named, with one held the other
    ∷ replies (planned twice (false ∷ false ∷ [])) D.blocking (said (D.blocked_by 1 1 3))
    ∷ replies (planned twice (false ∷ true ∷ [])) D.blocking (said (D.blocked_by 1 1 1))
    ∷ replies (roster twice) find (said (D.plan 2)) ∷ replies (roster crossed) find (said (none 0 (left 2))) ∷ []

pub found_said : (ch : Choices) → Answered ch found
unfolding numbers_from count low group_of listed listed_back both_or_neither read_each read_roster_by write_roster_by position edges_of instance_of deg node_vote
    vote choices within plans_of same_plan beaten_by drawn_with verdict_of R.cut R.ahead R.arrow R.loose R.reserved R.better_s R.better_t R.worse_reserved
    R.rule1 R.rule2 R.rule3 R.rule4 R.rule5 R.rule6 R.rule7 Fst.first Option-elim or_else R.rules R.step_by R.first_step R.act R.begin R.steps_from R.state_after
    R.steps_of R.end_of plan_bytes_by edge_of_pair read_plan_by diary_of left_of candidate_of finder_of comparison_of part_of blocks some_blocks top_blocking
    state_refusal answer_of
found_said ch = (refl, (refl, (refl, (refl, (refl, (refl, (refl, (refl, (refl, tt)))))))))

-- the comparison's parts: the first wins, the second, neither (both: CompareCases); the first file is judged in full before the second
abbrev compared : List Reply
compared =
    hands (roster sample) (compare (bytes "1 1 1 1") (bytes "1 2 1 1")) (said (D.votes (pos 1) (negsuc 0) first)) (pairs first_file "1 1 1")
    ∷ hands (roster sample) (compare (bytes "1 2 1 1") (bytes "1 1 1 1")) (said (D.votes (negsuc 0) (pos 1) second)) (pairs second_file "1 1 1")
    ∷ hands one (compare (bytes "0") (bytes "0")) (said (D.votes (pos 0) (pos 0) neither)) empty
    ∷ hands (roster twice) (compare (bytes "2 1 1 1 1 1 3") (bytes "1 1 1 1")) (said (D.votes (pos 2) (negsuc 1) first)) (pairs first_file "1 1 1 1 1 3")
    ∷ hands (roster crossed) (compare (bytes "1 1 1 1") (bytes "1 1 1 3")) (said (D.votes (pos 0) (pos 0) neither)) empty
    ∷ hands (roster sample) (compare (bytes "1 3 1 1") (bytes "65")) (refused 10 plan) empty
    ∷ hands (roster sample) (D.compare (bytes "65") (bytes "0") (whole 255) (whole 256)) (refused 15 desk) empty
    ∷ hands (roster sample) (D.compare (bytes "65") (bytes "0") (whole 256) (whole 255)) (refused 15 desk) empty
    ∷ hands (roster sample) (compare (bytes "0") (bytes "65")) (refused 2 form) empty ∷ []

pub compared_said : (ch : Choices) → Answered ch compared
unfolding numbers_from count low group_of listed listed_back both_or_neither read_each read_roster_by write_roster_by position edges_of instance_of deg node_vote
    vote choices within plans_of same_plan beaten_by drawn_with verdict_of R.cut R.ahead R.arrow R.loose R.reserved R.better_s R.better_t R.worse_reserved
    R.rule1 R.rule2 R.rule3 R.rule4 R.rule5 R.rule6 R.rule7 Fst.first Option-elim or_else R.rules R.step_by R.first_step R.act R.begin R.steps_from R.state_after
    R.steps_of R.end_of plan_bytes_by edge_of_pair read_plan_by diary_of left_of candidate_of finder_of comparison_of part_of blocks some_blocks state_refusal answer_of
compared_said ch = (
  (refl, refl),
  ((refl, refl), ((refl, refl), ((refl, refl), ((refl, refl), ((refl, refl), ((refl, refl), ((refl, refl), ((refl, refl), tt)))))))),
)

-- a vote of two digits, below zero
abbrev two_digits : List Reply
two_digits =
    hands (roster five) (compare (bytes "0") (bytes "5 1 1 1 2 2 1 3 3 1 4 4 1 5 5 1")) (said (D.votes (negsuc 9) (pos 10) second))
    (pairs second_file "1 1 1 2 2 1 3 3 1 4 4 1 5 5 1") ∷ []

comparison : (ch : Choices) (r : Roster) (a b : List ℕ) → answer_of ch (roster r) (compare a b) ≡ D.comparison_answer (comparison_of (instance_of r) a b)
unfolding state_refusal answer_of
comparison ch r a b = refl

five_compared : D.comparison_answer (comparison_of (instance_of five) (bytes "0") (bytes "5 1 1 1 2 2 1 3 3 1 4 4 1 5 5 1"))
    ≡ said (D.votes (negsuc 9) (pos 10) second)
unfolding numbers_from count low group_of listed listed_back both_or_neither read_each read_roster_by position edges_of instance_of edge_of_pair read_plan_by deg
    node_vote vote comparison_of
five_compared = refl

pub two_digits_said : (ch : Choices) → Answered ch two_digits
unfolding numbers_from
two_digits_said ch =
    let e = comparison ch five (bytes "0") (bytes "5 1 1 1 2 2 1 3 3 1 4 4 1 5 5 1") ∙ five_compared in
    ((e, ap (D.part_in (bytes "0") (bytes "5 1 1 1 2 2 1 3 3 1 4 4 1 5 5 1")) e), tt)

-- the part of a comparison that passes is Compare's
pub part_said : (G : Instance) (a b : List ℕ) → D.part_in a b (D.comparison_answer (comparison_of G a b)) ≡ part_of G a b
unfolding part_of
part_said G a b = go (comparison_of G a b)
  where
    go : (c : C.Comparison) → D.part_in a b (D.comparison_answer c) ≡ C.comparison_part c a b
    go (C.votes v w x) = refl
    go (C.refused n) = refl

-- ---- the buffers after a call: what is written is in front, the rest is as it was; a refusal changes none
pub data Lent : Type 0 where
  lends : Held → {k : Topic} → Call k → (after : Call k) → Lent

abbrev pub LentThen : Choices → Lent → Type 0
LentThen ch (lends h c c') = lent_after ch h c ≡ c'

abbrev onto : List ℕ → ℕ → List ℕ
onto front n = front ++ replicate n 7

abbrev step : ℕ → ℕ → ℕ → ℕ → ℕ → Record
step f s t k r = record { fate = f; surveyor = s; stand = t; shift = k; rule = r }

abbrev lent : List Lent
lent =
    lends nothing (D.write_roster_to (whole 4262)) (D.write_roster_to (whole 4262))
    ∷ lends (roster sample) (D.write_plan_to (whole 193)) (D.write_plan_to (whole 193))
    ∷ lends one (D.write_plan_to (whole 192)) (D.write_plan_to (whole 192))
    ∷ lends one (judge (whole 193)) (judge (whole 193))
    ∷ lends one (D.judge (whole 193) (whole 255)) (D.judge (whole 193) (whole 255))
    ∷ lends one (D.compare (bytes "1 1 1 1") (bytes "1 3 1 1") (whole 256) (whole 256)) (compare (bytes "1 1 1 1") (bytes "1 3 1 1"))
    ∷ lends one (D.write_plan_to (whole 194)) (D.write_plan_to (onto (bytes "1 1 1 1") 190)) ∷ []

pub lent_said : (ch : Choices) → Each (LentThen ch) lent
unfolding numbers_from count low group_of write_roster_by position edges_of listed instance_of deg node_vote vote choices within plans_of same_plan beaten_by drawn_with
    verdict_of R.cut R.ahead R.arrow R.loose R.reserved R.better_s R.better_t R.worse_reserved R.rule1 R.rule2 R.rule3 R.rule4 R.rule5 R.rule6 R.rule7
    Fst.first Option-elim or_else R.rules R.step_by R.first_step R.act R.begin R.steps_from R.state_after R.steps_of R.end_of plan_bytes_by diary_of left_of
    candidate_of finder_of state_refusal lent_after C.pairings_of read_plan_by read_each edge_of_pair
lent_said ch = (refl, (refl, (refl, (refl, (refl, (refl, (refl, tt)))))))

-- a roster in a buffer; what the finder writes: a plan with its steps, or the pairs left
pub roster_written : same_bytes (D.onto (write_roster sample) (whole 4262)) (onto sample_file 4241) ≡ true
unfolding numbers_from write_roster_by
roster_written = refl

abbrev found_for : Roster → Call finds
found_for r = D.found_written D.find (instance_of r) (finder_of (instance_of r) (λ M. M)) (diary 1024) (whole 3072) (whole 193) (whole 193)

pub found_written_law : (found_for sample ≡ D.find (step 1 1 1 1 1 ∷ step 2 2 1 1 2 ∷ diary 1022) (whole 3072) (onto (bytes "1 1 1 1") 189) (whole 193))
    × (found_for four ≡ D.find (diary 1024) (onto (bytes "1 1 1 1 2 1 2 1 1 2 2 1") 3060) (whole 193) (whole 193))
    × (found_for twice ≡ D.find (step 1 1 1 1 1 ∷ step 1 1 1 3 3 ∷ diary 1022) (whole 3072) (onto (bytes "2 1 1 1 1 1 3") 186) (whole 193))
    × (found_for crossed ≡ D.find (diary 1024) (onto (bytes "1 1 1 1 1 3") 3066) (whole 193) (whole 193))
unfolding numbers_from count low listed position edges_of instance_of deg node_vote vote choices within plans_of same_plan beaten_by drawn_with
    verdict_of R.cut R.ahead R.arrow R.loose R.reserved R.better_s R.better_t R.worse_reserved R.rule1 R.rule2 R.rule3 R.rule4 R.rule5 R.rule6 R.rule7
    Fst.first Option-elim or_else R.rules R.step_by R.first_step R.act R.begin R.steps_from R.state_after R.steps_of R.end_of plan_bytes_by diary_of left_of
    candidate_of finder_of
found_written_law = (refl, refl, refl, refl)

-- a verdict with its rival, whichever is named, and a blocking pair: on the sample with the plan of its second pair, and its first pair's plan
-- as rival, the vote is -1, the rival's bytes are in front, and pair 0 is 1 1 1
abbrev other : Plan
other = true ∷ false ∷ []

abbrev mine : Plan
mine = false ∷ true ∷ []

pub rival_said : (D.verdict_answer (instance_of sample) mine other P.beaten ≡ said (D.beaten (negsuc 0)))
    × ((D.verdict_answer (instance_of sample) mine other P.popular ≡ said (D.popular (negsuc 0)))
    × ((D.verdict_written (instance_of sample) mine other P.beaten (whole 193) (whole 256)
    ≡ D.judge (onto (bytes "1 1 1 1") 189) (onto (bytes "33 1 1 33 2 1") 250))
    × ((D.verdict_written (instance_of sample) mine other P.popular (whole 193) (whole 256)
    ≡ D.judge (onto (bytes "1 1 1 1") 189) (onto (bytes "33 1 1 33 2 1") 250))
    × ((D.blocking_answer (instance_of sample) 0 true ≡ said (D.blocked_by 1 1 1)) × (D.blocking_answer (instance_of four) 1 true ≡ said (D.blocked_by 1 2 1))
    × (D.blocking_answer (instance_of twice) 1 true ≡ said (D.blocked_by 1 1 3))))))
unfolding numbers_from count low listed position edges_of instance_of deg node_vote vote plan_bytes_by facing pairing_bytes
rival_said = (refl, (refl, (refl, (refl, (refl, refl, refl)))))
