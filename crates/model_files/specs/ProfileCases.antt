-- The one-to-one profile (W-212), run by the checker: the plan of the offers and whether it is strong, refusals in their order, the buffer.
use Rattle.std.specs.Prelude.{ℕ, ◌-◌, ◌≡◌, refl, Bool, true, false, List, [], ◌∷◌, ◌++◌, replicate, eqb}
use Prim.Native.String.{String}
use Rattle.lists.specs.Keep.{all?}
use Rattle.lists.specs.Sum.{count}
use Rattle.lists.specs.Search.{low}
use Rattle.model.specs.Decimal.{bytes, numbers_from}
use Rattle.model.specs.Refusal.{group_of, form, content, desk}
use Rattle.model.specs.Reading.{read_each}
use Rattle.model.specs.Roster.{listed, listed_back, both_or_neither}
use Rattle.model.specs.RosterFile.{read_roster_by}
use Rattle.model.specs.RosterCases.{refusal_in}
use Rattle.model.specs.Edges.{position, edges_of, instance_of}
use Rattle.model.specs.Instance.{deg}
use Rattle.model.specs.Vote.{node_vote, vote}
use Rattle.model.specs.Plans.{choices, within, plans_of, same_plan, beaten_by, drawn_with, verdict_of}
use Rattle.model.specs.PlanFile.{plan_bytes_by}
use Rattle.model_desk.specs.DeskCases.{whole, Each}
use Rattle.model_files.specs.Offers.{offers_from, offers_plan}
use Rattle.model_files.specs.Profile as profile
use Rattle.model_files.specs.Profile.{one_to_one, read_profile, offers, profile_answer, profile_lent}

-- ---- rosters of the profile: the file, whether its plan is strong, the plan
pub record Block : Type 0 where
  pub file : String
  pub strong : Bool
  pub plan : String
  pub size : ℕ

-- document 01's P1, P3 and P6, where the surveyors' favourites have no blocking pair and are not strong: 1-1, 2-2, where offers of the stands would
-- give 1-2, 2-1
abbrev none : Block
none = record { file = "0 0 0 0 0 0"; strong = true; plan = "0"; size = 1 }

abbrev sample : Block
sample = record { file = "2 1 1 1 1 2 0 1 1 1 1 1 1 2 0 2 0 1 1 2 1"; strong = true; plan = "1 1 1 1"; size = 4 }

abbrev crossed : Block
crossed = record { file = "2 1 1 2 1 1 4 0 2 1 1 2 1 2 2 1 1 1 4 0 2 0 2 1 1 1 2 0 1 1 2 1"; strong = false; plan = "2 1 1 1 2 2 1"; size = 7 }

-- both surveyors rank stand 1, then 2, and stand 2 ranks 1, 2. Stand 1 ranks 2, 1: it turns surveyor 1 away for surveyor 2, and 1 offers on; or it
-- ranks 1, 2 and turns surveyor 2 away at once, and the other plan draws
abbrev replaced : Block
replaced = record { file = "2 1 1 2 1 1 4 0 2 1 1 2 1 2 1 1 2 1 4 0 2 0 2 1 1 1 2 0 1 1 2 1"; strong = true; plan = "2 1 2 1 2 1 1"; size = 7 }

abbrev away : Block
away = record { file = "2 1 1 2 1 1 4 0 2 1 1 2 1 2 1 1 2 1 4 0 2 0 1 1 2 1 2 0 1 1 2 1"; strong = false; plan = "2 1 1 1 2 2 1"; size = 7 }

-- three surveyors and three stands, each with all of the others: surveyor 1 is turned away twice, surveyor 2 once
abbrev chain : Block
chain = record {
  file = "3 1 1 1 3 1 1 1 9 0 3 1 1 2 1 3 1 3 1 1 2 1 3 1 3 1 1 2 1 3 1 9 0 3 0 3 1 2 1 1 1 3 0 2 1 1 1 3 1 3 0 1 1 2 1 3 1";
  strong = true;
  plan = "3 1 3 1 2 2 1 3 1 1";
  size = 10;
}

abbrev Given : Block → Type 0
Given b = (profile_answer (bytes b.file) (whole 193) ≡ offers b.strong b.size)
    × (profile_lent (bytes b.file) (whole 194) ≡ bytes b.plan ++ replicate (194 - b.size) 7)

pub blocks_given : Each Given (none ∷ sample ∷ crossed ∷ replaced ∷ away ∷ [])
unfolding numbers_from count low group_of listed listed_back both_or_neither read_each read_roster_by position edges_of instance_of deg node_vote vote choices within
    plans_of same_plan beaten_by drawn_with verdict_of plan_bytes_by offers_from offers_plan one_to_one read_profile profile_answer profile_lent
blocks_given = ((refl, refl), ((refl, refl), ((refl, refl), ((refl, refl), ((refl, refl), tt)))))

pub chain_given : Given chain
unfolding numbers_from count low group_of listed listed_back both_or_neither read_each read_roster_by position edges_of instance_of deg node_vote vote choices within
    plans_of same_plan beaten_by drawn_with verdict_of plan_bytes_by offers_from offers_plan one_to_one read_profile profile_answer profile_lent
chain_given = (refl, refl)

-- ---- not of the profile, or no roster
abbrev refusals : List (String × ℕ)
refusals =
    -- "a quota other than one": P2, quota 0; 2 at a surveyor; 0 and 2 at a stand
    ("1 0 1 1 1 0 1 1 1 1 0 1 0 1 1", 22) ∷ ("1 2 1 1 1 0 1 1 1 1 0 1 0 1 1", 22) ∷ ("1 1 1 0 1 0 1 1 1 1 0 1 0 1 1", 22)
    ∷ ("1 1 1 2 1 0 1 1 1 1 0 1 0 1 1", 22) ∷ ("2 1 0 0 0 0 0 0 0 0", 22)
    -- "a tie length byte above 0": P4, and a tie of one, alone or behind a strict entry
    ∷ ("2 1 1 1 1 2 0 1 1 1 1 1 1 2 0 0 2 1 1 2 1", 22) ∷ ("1 1 1 1 1 0 1 1 1 1 0 0 1 1 1", 22) ∷ ("2 1 1 1 1 2 0 1 1 1 1 1 1 2 0 1 1 1 1 2 1", 22)
    -- "a shift above 1": shift 2, shift 3, of the second pair
    ∷ ("1 1 1 1 1 0 1 1 2 1 0 1 0 1 2", 22) ∷ ("1 1 1 1 2 0 2 1 1 1 3 2 0 2 0 1 1 1 3", 22)
    -- "after reading": quota 0, and each of document 01's refusals and 18 later in the file
    ∷ ("", 1) ∷ ("1 0 1 1 1 0 1 1 1 1 0 1 0 1", 1) ∷ ("1 0 33", 2) ∷ ("2 0 9", 3) ∷ ("1 0 1 1 1 0 1 2 1", 4) ∷ ("1 0 1 1 1 0 1 1 4", 18)
    ∷ ("1 0 1 1 2 0 2 1 1 1 1", 5) ∷ ("2 0 1 1 1 2 0 1 1 1 1 1 1 2 0 0 2 2 1 1 1", 6) ∷ ("1 0 1 1 2 0 1 1 1", 7)
    ∷ ("1 0 1 1 1 0 1 1 1 0 0 0 0", 8) ∷ ("1 0 1 1 1 0 1 1 1 1 0 1 0 1 1 0", 9) ∷ ("1 1 1 1 1 0 1 1 2 1 0 1 0 1 1", 8)
    ∷ ("1 1 1 1 1 0 1 1 1 1 0 0 1 1 1 0", 9) ∷ []

pub profile_refused : all? (λ (c : String × ℕ). eqb (refusal_in (read_profile (bytes c.0))) c.1) refusals ≡ true
unfolding numbers_from listed listed_back both_or_neither read_each read_roster_by one_to_one read_profile
profile_refused = refl

-- ---- 15 before all, with its group; a refusal leaves the buffer
pub profile_said : (profile_answer [] (whole 192) ≡ profile.refused 15 desk) × (profile_answer (bytes sample.file) (whole 192) ≡ profile.refused 15 desk)
    × (profile_answer [] (whole 193) ≡ profile.refused 1 form)
    × (profile_answer (bytes "1 0 1 1 1 0 1 1 1 1 0 1 0 1 1") (whole 193) ≡ profile.refused 22 content)
    × (profile_lent (bytes sample.file) (whole 192) ≡ whole 192)
    × (profile_lent (bytes "1 0 1 1 1 0 1 1 1 1 0 1 0 1 1") (whole 193) ≡ whole 193) × (profile_lent [] (whole 193) ≡ whole 193)
unfolding numbers_from group_of listed listed_back both_or_neither read_each read_roster_by one_to_one read_profile profile_answer profile_lent
profile_said = (refl, refl, refl, refl, refl, refl, refl)
