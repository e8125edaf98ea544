-- Surveyors who join and leave, run by the checker: the changed roster's bytes, the refusal that a change meets, and the held plan behind it.
-- Numbers are as in files, and an expected roster is read back to itself.
use Rattle.std.specs.Prelude.{ℕ, ◌-◌, ◌≡◌, refl, Bool, true, false, ◌&&◌, List, [], ◌∷◌, map, replicate, eqb}
use Prim.Native.String.{String}
use Rattle.lists.specs.Keep.{all?, gather}
use Rattle.lists.specs.Sum.{range}
use Rattle.lists.specs.Search.{low}
use Rattle.model.specs.Decimal.{bytes, numbers_from, same_bytes}
use Rattle.model.specs.Reading.{Reading, accepted, refused, read_each}
use Rattle.model.specs.Roster.{Entry, Roster, listed, listed_back, both_or_neither}
use Rattle.model.specs.RosterFile.{read_roster_by, read_roster, write_roster_by, write_roster}
use Rattle.model.specs.Edges.{position, edges_of, instance_of}
use Rattle.model.specs.Plans.{Plan}
use Rattle.model.specs.PlanFile.{plan_bytes_by, plan_bytes, edge_of_pair, read_plan_by, read_plan}
use Rattle.model_changes.specs.Changes.{gone, joined, join_on, departed, leave_on, carried}
use Rattle.model.specs.RosterCases.{refusal_in, meets, alone}
use Rattle.model.specs.PlanCases.{meets_on}

abbrev read : String → Reading Roster
read s = read_roster (bytes s)

-- a change of a roster file; a roster that is refused is no case, and no case expects 255
abbrev join : Reading Roster → (quota : ℕ) → (list : List ℕ) → Reading Roster
join (accepted r) q list = join_on r q list
join (refused n) q list = refused 255

abbrev leave : Reading Roster → (number : ℕ) → Reading Roster
leave (accepted r) s = leave_on r s
leave (refused n) s = refused 255

abbrev gives : Reading Roster → List ℕ → Bool
gives (accepted h) file = same_bytes (write_roster h) file && meets file 0
gives (refused n) file = false

-- document 01's sample; with a tie of two; with one strict and one tied; two stands that both list both
abbrev sample : String
sample = "2 1 1 1 1 2 0 1 1 1 1 1 1 2 0 2 0 1 1 2 1"

abbrev tied : String
tied = "2 1 1 1 1 2 0 1 1 1 1 1 1 2 0 0 2 1 1 2 1"

abbrev mixed : String
mixed = "2 1 1 1 1 2 0 1 1 1 1 1 1 2 0 1 1 2 1 1 1"

abbrev two_stands : String
two_stands = "2 1 1 2 1 1 4 0 2 1 1 2 1 2 2 1 1 1 4 0 2 0 2 1 1 1 2 0 1 1 2 1"

-- W-204: surveyor 1 and stand 1 in two shifts, strict and tied (P23); in three, with another surveyor in the tie (P26)
abbrev twice : String
twice = "1 2 1 2 2 0 2 1 3 1 1 2 0 1 1 1 1 1 3"

abbrev across : String
across = "2 2 1 1 2 4 0 3 1 3 1 1 1 2 1 1 1 4 0 1 3 1 3 1 1 1 2 2 1"

-- nobody
abbrev nobody : String
nobody = "0 0 0 0 0 0"

-- ---- who joins: the roster, the quota and the list brought, the roster then
abbrev joins : List (String × ℕ × String × String)
joins =
    -- "enters each listed stand's tie at its end", also where there is none; a quota of 0, an empty list
    (sample, 1, "1 1 1", "3 1 1 1 1 1 3 0 1 1 1 1 1 1 1 1 1 3 0 2 1 1 1 2 1 3 1")
    ∷ (sample, 0, "1 1 1", "3 1 1 0 1 1 3 0 1 1 1 1 1 1 1 1 1 3 0 2 1 1 1 2 1 3 1") ∷ (sample, 0, "0", "3 1 1 0 1 1 2 0 1 1 1 1 1 1 0 2 0 2 0 1 1 2 1")
    ∷ (tied, 1, "1 1 1", "3 1 1 1 1 1 3 0 1 1 1 1 1 1 1 1 1 3 0 0 3 1 1 2 1 3 1")
    ∷ (mixed, 1, "1 1 1", "3 1 1 1 1 1 3 0 1 1 1 1 1 1 1 1 1 3 0 1 2 2 1 1 1 3 1")
    -- the listed stands alone, the list as it was brought
    ∷ (two_stands, 8, "1 2 1", "3 1 1 8 2 1 1 5 0 2 1 1 2 1 2 2 1 1 1 1 2 1 5 0 2 0 2 1 1 1 2 1 1 1 2 1 3 1")
    ∷ (two_stands, 1, "2 2 1 1 1", "3 1 1 1 2 1 1 6 0 2 1 1 2 1 2 2 1 1 1 2 2 1 1 1 6 0 2 1 2 1 1 1 3 1 2 1 1 1 2 1 3 1")
    -- "takes the number after the highest": 1 where there is none, and no leaver's
    ∷ (nobody, 1, "0", "1 1 0 0 0 0 0 0") ∷ ("0 1 1 0 0 0 0 0 0", 1, "1 1 1", "1 1 1 1 1 0 1 1 1 1 0 0 1 1 1")
    ∷ ("2 0 1 1 1 1 0 0 1 1 1 1 0 1 0 2 1", 1, "1 1 1", "3 0 1 1 1 1 2 0 0 1 1 1 1 1 1 2 0 1 1 2 1 3 1")
    -- "the joiner's entries join a stand's tie in shift order", whatever their order in the list, which stays as it was brought;
    -- each stand has its own
    ∷ (sample, 1, "2 1 3 1 1", "3 1 1 1 1 1 4 0 1 1 1 1 1 1 2 1 3 1 1 4 0 2 2 1 1 2 1 3 1 3 3")
    ∷ (sample, 1, "1 1 3", "3 1 1 1 1 1 3 0 1 1 1 1 1 1 1 1 3 3 0 2 1 1 1 2 1 3 3")
    ∷ (tied, 2, "3 1 3 1 1 1 2", "3 1 1 2 1 1 5 0 1 1 1 1 1 1 3 1 3 1 1 1 2 5 0 0 5 1 1 2 1 3 1 3 2 3 3")
    ∷ (across, 1, "2 1 2 1 1", "3 2 1 1 1 2 6 0 3 1 3 1 1 1 2 1 1 1 2 1 2 1 1 6 0 1 5 1 3 1 1 1 2 2 1 3 1 3 2")
    ∷ (two_stands, 3, "4 2 2 1 3 2 1 1 1", "3 1 1 3 2 1 1 8 0 2 1 1 2 1 2 2 1 1 1 4 2 2 1 3 2 1 1 1 8 0 2 2 2 1 1 1 3 1 3 3 2 2 1 1 2 1 3 1 3 2") ∷ []

pub joiners : all? (λ (c : String × ℕ × String × String). gives (join (read c.0) c.1 (bytes c.2)) (bytes c.3)) joins ≡ true
unfolding numbers_from listed listed_back both_or_neither read_each read_roster_by write_roster_by joined join_on
joiners = refl

abbrev refusals : List (String × ℕ × String × ℕ)
refusals =
    -- 3 before the list, which is not there; the length: 1, and 2 above 32, whatever the number of stands
    (sample, 9, "", 3) ∷ (sample, 255, "1 1 1", 3) ∷ (sample, 1, "", 1) ∷ (sample, 1, "33", 2) ∷ (sample, 1, "33 9 9", 2) ∷ (sample, 1, "32", 1)
    ∷ (nobody, 1, "33", 2)
    -- each entry: 1, also where half of it is there, whatever the number; 4, 18, 5
    ∷ (sample, 1, "1", 1) ∷ (sample, 1, "1 1", 1) ∷ (sample, 1, "1 9", 1) ∷ (sample, 1, "2 1 1", 1) ∷ (sample, 1, "2 1 1 1", 1) ∷ (sample, 1, "1 0 1", 4)
    ∷ (sample, 1, "1 2 1", 4) ∷ (sample, 1, "1 9 9", 4) ∷ (sample, 1, "1 0 0", 4) ∷ (two_stands, 1, "2 3 1", 4) ∷ (nobody, 1, "1 1 1", 4)
    ∷ (sample, 1, "1 1 0", 18) ∷ (sample, 1, "1 1 4", 18) ∷ (sample, 1, "2 1 4", 18) ∷ (sample, 1, "2 1 4 1 4", 18) ∷ (sample, 1, "2 1 1 1 4", 18)
    ∷ (two_stands, 1, "2 2 4 3 1", 18) ∷ (sample, 1, "2 1 1 1 1", 5) ∷ (sample, 1, "3 1 2 1 2 1 4", 5) ∷ (two_stands, 1, "2 2 3 2 3 9", 5)
    -- then 9
    ∷ (sample, 1, "1 1 1 7", 9) ∷ (sample, 1, "0 0", 9) ∷ (sample, 1, "2 1 3 1 1 1", 9) ∷ []

pub join_refusals : all? (λ (c : String × ℕ × String × ℕ). eqb (refusal_in (join (read c.0) c.1 (bytes c.2))) c.3) refusals ≡ true
unfolding numbers_from listed listed_back both_or_neither read_each read_roster_by joined join_on
join_refusals = refl

-- 17 "when 32 numbers are taken, leavers' included, or the quotas would pass 64", behind 3 and before the list: so many surveyors of these
-- quotas, no stands; 0 for none
abbrev limits : List (List ℕ × ℕ × String × ℕ)
limits =
    (replicate 31 2, 2, "0", 0) ∷ (replicate 32 2, 0, "", 17) ∷ (replicate 32 0, 0, "0", 17) ∷ (replicate 32 2, 9, "", 3)
    ∷ (replicate 8 8, 0, "0", 0) ∷ (replicate 8 8, 1, "", 17) ∷ (replicate 7 8, 8, "0", 0) ∷ (8 ∷ [], 8, "0", 0) ∷ (8 ∷ [], 9, "0", 3) ∷ []

pub join_limits : all? (λ (c : List ℕ × ℕ × String × ℕ). eqb (refusal_in (join (read_roster (alone c.0)) c.1 (bytes c.2))) c.3) limits ≡ true
unfolding numbers_from listed listed_back both_or_neither read_each read_roster_by joined join_on
join_limits = refl

-- W-204: "A joiner's entry that takes a stand's list past 32 meets 2, after all checks of the joiner's own list." So many surveyors, who all list
-- the second of two stands in these shifts, of whom it ties all but the first; the list brought; 0 for none
abbrev of_shifts : ℕ → List ℕ → List Entry
of_shifts n ks = map (λ k. record { number = n; shift = k }) ks

abbrev crowd : ℕ → List ℕ → Roster
crowd n ks = record {
  quotas_s = replicate n 1;
  quotas_t = 1 ∷ 1 ∷ [];
  lists_s = replicate n (of_shifts 2 ks);
  lists_t = record { strict = []; tied = [] } ∷ record { strict = of_shifts 1 ks; tied = gather (λ s. of_shifts s ks) (range 2 (n - 1)) } ∷ [];
}

abbrev join_crowd : ℕ → List ℕ → List ℕ → Reading Roster
join_crowd n ks list = join (read_roster (write_roster (crowd n ks))) 1 list

abbrev crowds : List (ℕ × List ℕ × String × ℕ)
crowds =
    -- 31 and one more, or none; 31 and two
    (31, 1 ∷ [], "1 2 1", 0) ∷ (31, 1 ∷ [], "1 2 3", 0) ∷ (31, 1 ∷ [], "0", 0) ∷ (31, 1 ∷ [], "2 2 1 2 2", 2) ∷ (31, 3 ∷ [], "3 2 1 2 2 2 3", 2)
    -- 30 and two, and three; 32 and none, and one; the other stand has room
    ∷ (15, 1 ∷ 3 ∷ [], "2 2 3 2 1", 0) ∷ (15, 1 ∷ 3 ∷ [], "3 2 1 2 2 2 3", 2) ∷ (16, 2 ∷ 3 ∷ [], "0", 0) ∷ (16, 2 ∷ 3 ∷ [], "1 2 1", 2)
    ∷ (16, 2 ∷ 3 ∷ [], "3 1 1 1 2 1 3", 0) ∷ (16, 2 ∷ 3 ∷ [], "2 1 1 2 1", 2)
    -- behind 17 and all of the list's: 1, 4, 18, 5, 9
    ∷ (32, 1 ∷ [], "1 2 1", 17) ∷ (31, 1 ∷ [], "2 2 1 2", 1) ∷ (16, 1 ∷ 2 ∷ [], "2 2 1 3 1", 4) ∷ (16, 1 ∷ 2 ∷ [], "2 2 1 2 4", 18)
    ∷ (31, 1 ∷ [], "3 2 1 2 2 2 2", 5) ∷ (31, 1 ∷ [], "2 2 1 2 2 7", 9) ∷ (16, 1 ∷ 2 ∷ [], "1 2 3 0", 9) ∷ []

pub join_crowds : all? (λ (c : ℕ × List ℕ × String × ℕ). eqb (refusal_in (join_crowd c.0 c.1 (bytes c.2))) c.3) crowds ≡ true
unfolding numbers_from listed listed_back both_or_neither read_each read_roster_by write_roster_by joined join_on
join_crowds = refl

-- ---- who leaves: the roster, the number, the roster then
abbrev leaves : List (String × ℕ × String)
leaves =
    -- "keeps the number, with quota zero and no pairs"; again, the same
    (sample, 1, "2 0 1 1 1 1 0 0 1 1 1 1 0 1 0 2 1") ∷ ("2 0 1 1 1 1 0 0 1 1 1 1 0 1 0 2 1", 1, "2 0 1 1 1 1 0 0 1 1 1 1 0 1 0 2 1")
    ∷ (sample, 2, "2 1 0 1 1 1 0 1 1 1 0 1 0 1 0 1 1")
    -- out of strict parts and ties; those behind move up, and a tie of one stays a tie
    ∷ (tied, 1, "2 0 1 1 1 1 0 0 1 1 1 1 0 0 1 2 1") ∷ (mixed, 2, "2 1 0 1 1 1 0 1 1 1 0 1 0 0 1 1 1")
    ∷ (two_stands, 2, "2 1 0 2 1 1 2 0 2 1 1 2 1 0 2 0 1 0 1 1 1 0 1 1")
    ∷ ("3 1 1 1 1 1 3 0 1 1 1 1 1 1 1 1 1 3 0 2 1 1 1 2 1 3 1", 1, "3 0 1 1 1 1 2 0 0 1 1 1 1 1 1 2 0 1 1 2 1 3 1")
    ∷ ("3 1 1 1 1 1 3 0 1 1 1 1 1 1 1 1 1 3 0 2 1 1 1 2 1 3 1", 3, "3 1 1 0 1 1 2 0 1 1 1 1 1 1 0 2 0 2 0 1 1 2 1")
    -- a quota of 0 with pairs
    ∷ ("2 0 1 1 1 2 0 1 1 1 1 1 1 2 0 2 0 1 1 2 1", 1, "2 0 1 1 1 1 0 0 1 1 1 1 0 1 0 2 1")
    -- W-204: the pairs of all shifts, strict and tied
    ∷ (twice, 1, "1 0 1 2 0 0 0 0 0 0 0") ∷ (across, 1, "2 0 1 1 2 1 0 0 1 1 1 1 0 0 1 2 1")
    ∷ (across, 2, "2 2 0 1 2 3 0 3 1 3 1 1 1 2 0 3 0 1 2 1 3 1 1 1 2")
    ∷ ("3 1 1 1 1 1 4 0 1 1 1 1 1 1 2 1 3 1 1 4 0 2 2 1 1 2 1 3 1 3 3", 3, "3 1 1 0 1 1 2 0 1 1 1 1 1 1 0 2 0 2 0 1 1 2 1") ∷ []

pub leavers : all? (λ (c : String × ℕ × String). gives (leave (read c.0) c.1) (bytes c.2)) leaves ≡ true
unfolding numbers_from listed listed_back both_or_neither read_each read_roster_by write_roster_by departed leave_on
leavers = refl

-- 16 "a leaver's number outside the surveyors"
pub leave_refusals : all? (λ (c : String × ℕ). eqb (refusal_in (leave (read c.0) c.1)) 16)
    ((sample, 0) ∷ (sample, 3) ∷ (sample, 255) ∷ (nobody, 0) ∷ (nobody, 1) ∷ []) ≡ true
unfolding numbers_from listed listed_back both_or_neither read_each read_roster_by departed leave_on
leave_refusals = refl

-- one who has left already has quota 0 and no pair; quota 0 with a pair, or a quota without a pair, is not enough
abbrev gone_in : Reading Roster → (number : ℕ) → Bool
gone_in (accepted r) s = gone r s
gone_in (refused n) s = false

pub left_already : (gone_in (read "2 0 1 1 1 1 0 0 1 1 1 1 0 1 0 2 1") 1 ≡ true) × (gone_in (read "2 0 1 1 1 2 0 1 1 1 1 1 1 2 0 2 0 1 1 2 1") 1 ≡ false)
    × (gone_in (read "1 1 0 0 0 0 0 0") 1 ≡ false)
unfolding numbers_from listed listed_back both_or_neither read_each read_roster_by
left_already = (refl, refl, refl)

-- ---- the held plan: the plan file that is held before the change, and the plan's bytes behind it; a file that is no plan is no case
abbrev carried_to : Roster → Roster → Reading Plan → List ℕ → Bool
carried_to r h (accepted M) file = same_bytes (plan_bytes (instance_of h) (carried (instance_of r) (instance_of h) M)) file
carried_to r h (refused n) file = false

abbrev holds : Reading Roster → (change : Reading Roster) → (held after : List ℕ) → Bool
holds (accepted r) (accepted h) held after = carried_to r h (read_plan (instance_of r) held) after
holds (accepted r) (refused n) held after = false
holds (refused n) change held after = false

-- one stand of quota 2 for two (P5); every pair of three and three but one; surveyor 1 with stand 1 in all shifts and with stand 2 in shift 2,
-- surveyor 2 with stand 1 in shift 1
abbrev shared : String
shared = "2 1 1 1 2 2 0 1 1 1 1 1 1 2 0 0 2 1 1 2 1"

abbrev three : String
three = "3 1 1 2 3 1 1 1 8 0 3 1 1 2 1 3 1 3 2 1 3 1 1 1 2 2 1 1 1 8 0 3 0 1 1 2 1 3 1 3 0 2 1 1 1 3 1 2 0 1 1 2 1"

abbrev shifted : String
shifted = "2 2 1 2 2 1 5 0 4 1 3 1 1 2 2 1 2 1 1 1 5 0 1 3 1 1 1 2 1 3 2 1 1 0 1 2"

-- "The held plan loses the leaver's pairs", and may become the empty one
pub plans_left : all? (λ (c : String × String × ℕ × String). holds (read c.0) (leave (read c.0) c.2) (bytes c.1) (bytes c.3))
    ((shared, "2 1 1 1 2 1 1", 1, "1 2 1 1") ∷ (shared, "2 1 1 1 2 1 1", 2, "1 1 1 1") ∷ (shared, "1 1 1 1", 1, "0") ∷ (shared, "1 1 1 1", 2, "1 1 1 1")
    ∷ (shared, "0", 1, "0") ∷ (three, "3 1 3 1 2 1 1 3 2 1", 2, "2 1 3 1 3 2 1") ∷ (three, "2 3 1 1 3 2 1", 3, "0") ∷ (shifted, "2 1 1 1 1 1 3", 1, "0")
    ∷ (shifted, "2 1 1 1 1 1 3", 2, "2 1 1 1 1 1 3") ∷ (shifted, "3 1 1 3 1 2 2 2 1 1", 1, "1 2 1 1")
    ∷ (shifted, "3 1 1 3 1 2 2 2 1 1", 2, "2 1 1 3 1 2 2") ∷ []) ≡ true
unfolding numbers_from low listed listed_back both_or_neither read_each read_roster_by position edges_of instance_of edge_of_pair read_plan_by plan_bytes_by
    departed leave_on carried
plans_left = refl

-- a joiner leaves it as it is
pub plans_joined : all? (λ (c : String × String × String). holds (read c.0) (join (read c.0) 3 (bytes c.2)) (bytes c.1) (bytes c.1))
    ((shared, "2 1 1 1 2 1 1", "1 1 1") ∷ (shared, "0", "1 1 1") ∷ (three, "3 1 3 1 2 1 1 3 2 1", "3 3 1 2 1 1 1")
    ∷ (shifted, "3 1 1 3 1 2 2 2 1 1", "4 2 3 1 3 1 1 2 2") ∷ (shifted, "2 1 1 2 1 1 3", "1 1 2") ∷ []) ≡ true
unfolding numbers_from low listed listed_back both_or_neither read_each read_roster_by position edges_of instance_of edge_of_pair read_plan_by plan_bytes_by
    joined join_on carried
plans_joined = refl

-- bytes that are no plan of the roster can be one of the changed roster, as they are or without the leaver's pairs: so bytes that are kept
-- from before a change must have been a plan before it
pub stale : (meets_on (read sample) (bytes "1 3 1 3") 10 ≡ true) × (meets_on (join (read sample) 1 (bytes "1 1 3")) (bytes "1 3 1 3") 0 ≡ true)
    × (meets_on (read sample) (bytes "2 1 1 1 2 1 1") 12 ≡ true) × (meets_on (leave (read sample) 2) (bytes "1 1 1 1") 0 ≡ true)
unfolding numbers_from low listed listed_back both_or_neither read_each read_roster_by position edges_of instance_of edge_of_pair read_plan_by joined join_on departed leave_on
stale = (refl, refl, refl, refl)
