-- Files of old seasons (W-205), run by the checker: rosters and plans turned into files with shifts and back, refusals in their order, the
-- buffers, and the desk, which stays as it is.
use Rattle.std.specs.Prelude.{ℕ, ◌≡◌, refl, List, [], ◌∷◌, ◌++◌, replicate}
use Prim.Native.String.{String}
use Rattle.lists.specs.Search.{low}
use Rattle.model.specs.Decimal.{bytes, numbers_from}
use Rattle.model.specs.Refusal.{group_of, form, content, plan, desk}
use Rattle.model.specs.Reading.{Reading, accepted, refused, read_each}
use Rattle.model.specs.Roster.{Roster, listed, listed_back, both_or_neither}
use Rattle.model.specs.RosterFile.{read_roster_by, write_roster_by}
use Rattle.model.specs.Edges.{position, edges_of, instance_of}
use Rattle.model.specs.PlanFile.{plan_bytes_by, edge_of_pair, read_plan_by}
use Rattle.model_desk.specs.Seasons.{to_new, to_old, plan_to_new, plan_to_old}
use Rattle.model_desk.specs.Desk as D
use Rattle.model_desk.specs.Desk.{Choices, nothing, roster, state_refusal, answer_of, lent_after, desk_after, said, wrote}
use Rattle.model_desk.specs.SeasonCalls.{file_answer, file_lent}
use Rattle.model_desk.specs.DeskCases.{whole, entry, sample, twice, one, Each, Reply, replies, Answered, Lent, lends, LentThen}

-- a file, and what it becomes
abbrev Turned : Type 0
Turned = String × Reading (List ℕ)

-- ---- rosters
-- no nodes; document 01's sample; P4, with a tie; surveyors 1 and 2 with a list each, at a stand that ties the second; one surveyor with two stands
abbrev both : List (String × String)
both =
    ("0 0 0 0 0 0", "0 0 0 0 0 0") ∷ ("2 1 1 1 1 2 0 1 1 1 1 2 0 2 0 1 2", "2 1 1 1 1 2 0 1 1 1 1 1 1 2 0 2 0 1 1 2 1")
    ∷ ("2 1 1 1 1 2 0 1 1 1 1 2 0 0 2 1 2", "2 1 1 1 1 2 0 1 1 1 1 1 1 2 0 0 2 1 1 2 1")
    ∷ ("2 1 1 2 1 1 3 0 2 2 1 1 2 3 0 1 0 1 1 1 1 2", "2 1 1 2 1 1 3 0 2 2 1 1 1 1 2 1 3 0 1 0 1 1 1 1 1 1 2 1")
    ∷ ("1 2 2 1 1 2 0 2 2 1 2 0 1 0 1 1 0 1", "1 2 2 1 1 2 0 2 2 1 1 1 2 0 1 0 1 1 1 0 1 1") ∷ []

pub rosters_turned : Each (λ (c : String × String). (to_new (bytes c.0) ≡ accepted (bytes c.1)) × (to_old (bytes c.1) ≡ accepted (bytes c.0))) both
unfolding numbers_from to_new to_old read_roster_by write_roster_by read_each both_or_neither listed listed_back
rosters_turned = ((refl, refl), ((refl, refl), ((refl, refl), ((refl, refl), ((refl, refl), tt)))))

abbrev not_old : List (String × ℕ)
not_old =
    -- document 01's refusals as they were before the shifts; a file with shifts is none without them
    ("", 1) ∷ ("1 1 1 1 1 0 1", 1) ∷ ("2 1 1 1 1 2 0 1 1 1 1 1 1 2 0 2 0 1 1 2 1", 4) ∷ ("2 1 1 1 1 2 0 1 1 1 1 2 0 2 0 1 2 0", 9)
    ∷ ("1 1 1 1 1 0 1 1 0 0 0 0", 8)
    -- "an old roster keeps the list limit from before W-204": the other side's count, at both sides
    ∷ ("1 1 1 1 2 0 2 1 1", 2) ∷ ("0 1 1 0 0 1 0 1 0 1", 2) ∷ ("1 1 1 1 1 0 1 1 1 0 1 1", 2) ∷ []

pub old_refused : Each (λ (c : String × ℕ). to_new (bytes c.0) ≡ refused c.1) not_old
unfolding numbers_from to_new read_roster_by write_roster_by read_each both_or_neither listed listed_back
old_refused = (refl, (refl, (refl, (refl, (refl, (refl, (refl, (refl, tt))))))))

abbrev not_first : List (String × ℕ)
not_first =
    -- "another shift (19": shift 3, strict or tied; of a second surveyor; shift 2 alone
    ("1 2 1 2 2 0 2 1 3 1 1 2 0 1 1 1 1 1 3", 19) ∷ ("2 1 1 1 1 2 0 1 1 1 1 1 3 2 0 1 1 1 1 2 3", 19) ∷ ("1 1 1 1 1 0 1 1 2 1 0 1 0 1 2", 19)
    -- "after all of document 01's checks)": 9, 8, 18 at a later entry, 4 of a file without shifts
    ∷ ("1 2 1 2 2 0 2 1 3 1 1 2 0 1 1 1 1 1 3 0", 9) ∷ ("1 1 1 1 1 0 1 1 3 1 0 1 0 1 2", 8) ∷ ("1 1 1 1 2 0 2 1 3 1 4", 18)
    ∷ ("2 1 1 1 1 2 0 1 1 1 1 2 0 2 0 1 2", 4) ∷ []

pub new_refused : Each (λ (c : String × ℕ). to_old (bytes c.0) ≡ refused c.1) not_first
unfolding numbers_from to_old read_roster_by write_roster_by read_each both_or_neither listed listed_back
new_refused = (refl, (refl, (refl, (refl, (refl, (refl, (refl, tt)))))))

-- "The buffer written to needs 4,262 (..) bytes either way", before the file is read; beyond what is written it keeps its bytes
abbrev old_sample : List ℕ
old_sample = bytes "2 1 1 1 1 2 0 1 1 1 1 2 0 2 0 1 2"

abbrev new_sample : List ℕ
new_sample = bytes "2 1 1 1 1 2 0 1 1 1 1 1 1 2 0 2 0 1 1 2 1"

pub files_said : (file_answer (to_new old_sample) (whole 4261) ≡ D.refused 15 desk) × (file_answer (to_old new_sample) (whole 4261) ≡ D.refused 15 desk)
    × (file_answer (to_new []) (whole 4261) ≡ D.refused 15 desk) × (file_answer (to_new []) (whole 4262) ≡ D.refused 1 form)
    × (file_answer (to_new old_sample) (whole 4262) ≡ said (wrote 21)) × (file_answer (to_old new_sample) (whole 4262) ≡ said (wrote 17))
    × (file_answer (to_old (bytes "1 1 1 1 1 0 1 1 2 1 0 1 0 1 2")) (whole 4262) ≡ D.refused 19 content)
unfolding numbers_from group_of to_new to_old read_roster_by write_roster_by read_each both_or_neither listed listed_back file_answer
files_said = (refl, refl, refl, refl, refl, refl, refl)

pub files_written : (file_lent (to_new old_sample) (whole 4262) ≡ new_sample ++ replicate 4241 7)
    × (file_lent (to_old new_sample) (whole 4262) ≡ old_sample ++ replicate 4245 7) × (file_lent (to_new old_sample) (whole 4261) ≡ whole 4261)
    × (file_lent (to_new new_sample) (whole 4262) ≡ whole 4262)
unfolding numbers_from to_new to_old read_roster_by write_roster_by read_each both_or_neither listed listed_back file_lent
files_written = (refl, refl, refl, refl)

-- ---- plans, against one surveyor and one stand in shifts 1 and 3, with quotas 2 (DeskCases, `twice`)
abbrev forth : List Turned
forth =
    ("0", accepted (bytes "0")) ∷ ("1 1 1", accepted (bytes "1 1 1 1")) ∷ ("2 1 1 1 1", refused 11) ∷ ("1 1 1 1", refused 9) ∷ ("1 1", refused 1)
    ∷ ("65", refused 2) ∷ ("1 1 2", refused 10) ∷ []

pub plans_forth : Each (λ (c : Turned). plan_to_new (instance_of twice) (bytes c.0) ≡ c.1) forth
unfolding numbers_from low listed plan_to_new read_plan_by plan_bytes_by edge_of_pair read_each instance_of edges_of position
plans_forth = (refl, (refl, (refl, (refl, (refl, (refl, (refl, tt)))))))

abbrev back : List Turned
back =
    ("0", accepted (bytes "0")) ∷ ("1 1 1 1", accepted (bytes "1 1 1")) ∷ ("1 1 1 3", refused 19) ∷ ("2 1 1 1 1 1 3", refused 19) ∷ ("1 1 1 3 0", refused 9)
    ∷ ("1 1 1 2", refused 10) ∷ ("1 1 1 4", refused 10) ∷ ("1 1 1", refused 1) ∷ ("2 1 1 3 1 1 1", refused 11) ∷ []

pub plans_back : Each (λ (c : Turned). plan_to_old (instance_of twice) (bytes c.0) ≡ c.1) back
unfolding numbers_from low listed plan_to_old read_plan_by plan_bytes_by edge_of_pair read_each instance_of edges_of position
plans_back = (refl, (refl, (refl, (refl, (refl, (refl, (refl, (refl, (refl, tt)))))))))

-- the pair in shift 2 alone: an old plan means shift 1, which the roster has not
abbrev late : Roster
late = record { quotas_s = bytes "1"; quotas_t = bytes "1"; lists_s = (entry 1 2 ∷ []) ∷ []; lists_t = record { strict = entry 1 2 ∷ []; tied = [] } ∷ [] }

pub late_plans : (plan_to_new (instance_of late) (bytes "1 1 1") ≡ refused 10) × (plan_to_old (instance_of late) (bytes "1 1 1 2") ≡ refused 19)
unfolding numbers_from low listed plan_to_new plan_to_old read_plan_by plan_bytes_by edge_of_pair read_each instance_of edges_of position
late_plans = (refl, refl)

-- one surveyor with two stands: the stand's number goes both ways
abbrev wide : Roster
wide = record {
  quotas_s = bytes "2";
  quotas_t = bytes "1 1";
  lists_s = (entry 1 1 ∷ entry 2 1 ∷ []) ∷ [];
  lists_t = record { strict = entry 1 1 ∷ []; tied = [] } ∷ record { strict = entry 1 1 ∷ []; tied = [] } ∷ [];
}

pub wide_plans : (plan_to_new (instance_of wide) (bytes "1 1 2") ≡ accepted (bytes "1 1 2 1"))
    × (plan_to_old (instance_of wide) (bytes "2 1 1 1 1 2 1") ≡ accepted (bytes "2 1 1 1 2"))
unfolding numbers_from low listed plan_to_new plan_to_old read_plan_by plan_bytes_by edge_of_pair read_each instance_of edges_of position
wide_plans = (refl, refl)

-- ---- on the desk: 13, then 15, "193 bytes either way", then the plan's refusals; no plan needs to be held, and one that is stays
abbrev replied : List Reply
replied =
    replies nothing (D.plan_to_new [] (whole 192)) (D.refused 13 desk)
    ∷ replies nothing (D.plan_to_old [] (whole 192)) (D.refused 13 desk)
    ∷ replies (roster sample) (D.plan_to_new [] (whole 192)) (D.refused 15 desk)
    ∷ replies (roster sample) (D.plan_to_old [] (whole 192)) (D.refused 15 desk)
    ∷ replies (roster sample) (D.plan_to_new [] (whole 193)) (D.refused 1 form)
    ∷ replies (roster sample) (D.plan_to_old (bytes "1 1 1 2") (whole 193)) (D.refused 10 plan)
    ∷ replies (roster twice) (D.plan_to_old (bytes "1 1 1 3") (whole 193)) (D.refused 19 content)
    ∷ replies (roster sample) (D.plan_to_new (bytes "1 2 1") (whole 193)) (said (wrote 4))
    ∷ replies one (D.plan_to_old (bytes "1 2 1 1") (whole 193)) (said (wrote 3)) ∷ []

pub plans_said : (ch : Choices) → Answered ch replied
unfolding numbers_from group_of low listed plan_to_new plan_to_old read_plan_by plan_bytes_by edge_of_pair read_each instance_of edges_of position state_refusal answer_of
plans_said ch = (refl, (refl, (refl, (refl, (refl, (refl, (refl, (refl, (refl, tt)))))))))

abbrev lent : List Lent
lent =
    lends nothing (D.plan_to_new (bytes "0") (whole 193)) (D.plan_to_new (bytes "0") (whole 193))
    ∷ lends (roster sample) (D.plan_to_new (bytes "1 2 1") (whole 192)) (D.plan_to_new (bytes "1 2 1") (whole 192))
    ∷ lends (roster sample) (D.plan_to_new (bytes "1 2 1") (whole 194)) (D.plan_to_new (bytes "1 2 1") (bytes "1 2 1 1" ++ replicate 190 7))
    ∷ lends one (D.plan_to_old (bytes "1 2 1 1") (whole 193)) (D.plan_to_old (bytes "1 2 1 1") (bytes "1 2 1" ++ replicate 190 7))
    ∷ lends (roster twice) (D.plan_to_old (bytes "1 1 1 3") (whole 193)) (D.plan_to_old (bytes "1 1 1 3") (whole 193)) ∷ []

pub plans_written : (ch : Choices) → Each (LentThen ch) lent
unfolding numbers_from group_of low listed plan_to_new plan_to_old read_plan_by plan_bytes_by edge_of_pair read_each instance_of edges_of position state_refusal lent_after
plans_written ch = (refl, (refl, (refl, (refl, (refl, tt)))))

pub plans_held : (desk_after one (D.plan_to_new (bytes "1 2 1") (whole 193)) ≡ one) × (desk_after one (D.plan_to_old (bytes "1 2 1 1") (whole 193)) ≡ one)
unfolding numbers_from low listed read_each instance_of edges_of position state_refusal desk_after
plans_held = (refl, refl)
