-- Two districts joined, run by the checker: the joined roster's bytes, which are read back; refusals in their order; sums at the limits and one
-- above; and the strongly popular plans of both and of the joined roster. Numbers are as in files.
use Rattle.std.specs.Prelude.{ℕ, ◌≡◌, refl, Bool, true, false, ◌&&◌, List, [], ◌∷◌, ◌++◌, map, length, replicate, eqb}
use Prim.Native.String.{String}
use Rattle.lists.specs.Keep.{all?}
use Rattle.lists.specs.Sum.{count}
use Rattle.model.specs.Decimal.{bytes, numbers_from, same_bytes}
use Rattle.model.specs.Reading.{Reading, accepted, refused, read_each}
use Rattle.model.specs.Roster.{Roster, listed, listed_back, both_or_neither}
use Rattle.model.specs.RosterFile.{read_roster_by, read_roster, write_roster_by}
use Rattle.model.specs.Edges.{position, edges_of, instance_of}
use Rattle.model.specs.Instance.{deg}
use Rattle.model.specs.Vote.{node_vote, vote}
use Rattle.model.specs.Plans.{choices, within, plans_of, same_plan, beaten_by, drawn_with, verdict_of, strong_plans}
use Rattle.model.specs.PlanFile.{Named, plan_bytes_by, plan_bytes}
use Rattle.model.specs.RosterCases.{refusal_in, meets}
use Rattle.model_files.specs.Districts.{side_by_side, sums_check, join_of, joined_file, pairs_beside, pairs_bytes}

-- nobody; document 01's sample (P3); P4, a tie, without a strongly popular plan; two surveyors and three stands with other quotas, with shifts and
-- ties
abbrev nobody : String
nobody = "0 0 0 0 0 0"

abbrev sample : String
sample = "2 1 1 1 1 2 0 1 1 1 1 1 1 2 0 2 0 1 1 2 1"

abbrev tied : String
tied = "2 1 1 1 1 2 0 1 1 1 1 1 1 2 0 0 2 1 1 2 1"

abbrev wide : String
wide = "2 1 2 3 1 2 3 5 0 2 3 2 1 1 3 2 1 3 1 1 3 5 0 1 1 2 3 1 1 1 0 2 1 0 2 1 2 2 1"

-- ---- the bytes
abbrev gives : Reading (List ℕ) → List ℕ → Bool
gives (accepted bs) file = same_bytes bs file && meets file 0
gives (refused n) file = false

abbrev joined : List (String × String × String)
joined =
    (nobody, nobody, nobody) ∷ (sample, nobody, sample) ∷ (nobody, sample, sample)
    ∷ (sample, sample, "4 1 1 1 1 2 1 1 4 0 1 1 1 1 1 1 1 2 1 1 2 1 4 0 2 0 1 1 2 1 2 0 3 1 4 1")
    -- stand numbers grow by the first's stands, surveyor numbers by its surveyors; shifts, orders and ties stay
    ∷ (sample, wide, "4 1 1 1 2 4 1 1 2 3 7 0 1 1 1 1 1 1 2 4 2 2 1 3 3 1 4 1 2 3 7 0 2 0 1 1 2 1 1 1 4 3 3 1 1 0 4 1 0 2 3 2 4 1")
    ∷ (wide, sample, "4 1 2 1 1 4 1 2 3 1 7 0 2 3 2 1 1 3 2 1 3 1 1 3 1 4 1 1 4 1 7 0 1 1 2 3 1 1 1 0 2 1 0 2 1 2 2 1 2 0 3 1 4 1") ∷ []

pub joined_files : all? (λ (c : String × String × String). gives (joined_file (bytes c.0) (bytes c.1)) (bytes c.2)) joined ≡ true
unfolding numbers_from listed listed_back both_or_neither read_each read_roster_by write_roster_by side_by_side sums_check join_of joined_file
joined_files = refl

-- ---- refusals: "the first checked in full before the second"
abbrev refusals : List (String × String × ℕ)
refusals =
    ("", "", 1) ∷ (sample, "", 1) ∷ ("33", "", 2) ∷ (sample, "33", 2) ∷ ("1 9", "33", 3) ∷ (sample, "1 9", 3)
    -- 9 and 8 of the first before 1 of the second
    ∷ ("0 0 0 0 0 0 7", "", 9) ∷ ("1 1 1 1 1 0 1 1 1 0 0 0 0", "", 8) ∷ (sample, "0 0 0 0 0 0 7", 9) ∷ (sample, "1 1 1 1 1 0 1 1 1 0 0 0 0", 8) ∷ []

pub join_refusals : all? (λ (c : String × String × ℕ). eqb (refusal_in (joined_file (bytes c.0) (bytes c.1))) c.2) refusals ≡ true
unfolding numbers_from listed listed_back both_or_neither read_each read_roster_by write_roster_by side_by_side sums_check join_of joined_file
join_refusals = refl

-- surveyors, stands with these quotas and no lists
abbrev standing : (qs qt : List ℕ) → List ℕ
standing qs qt = (length qs ∷ qs) ++ ((length qt ∷ qt) ++ ((0 ∷ 0 ∷ replicate (length qs) 0)
    ++ (0 ∷ 0 ∷ (replicate (length qt) 0 ++ replicate (length qt) 0))))

-- "sums past document 01's limits meet 2 and then 3": the quotas of both sides of the first and of the second
abbrev sums : List ((List ℕ × List ℕ) × (List ℕ × List ℕ) × ℕ)
sums =
    ((replicate 16 1, []), (replicate 16 1, []), 0) ∷ ((replicate 16 1, []), (replicate 17 1, []), 2)
    ∷ (([], replicate 31 1), ([], replicate 1 1), 0) ∷ (([], replicate 32 1), ([], replicate 1 1), 2)
    ∷ ((replicate 4 8, []), (replicate 4 8, []), 0) ∷ ((replicate 4 8, []), (replicate 4 8 ++ 1 ∷ [], []), 3)
    ∷ (([], replicate 8 8), ([], 0 ∷ []), 0) ∷ (([], replicate 8 8), ([], 1 ∷ []), 3)
    -- 2 of the stands before 3 of the surveyors; both sides at their limits
    ∷ ((replicate 8 8, replicate 32 0), (1 ∷ [], 0 ∷ []), 2) ∷ ((replicate 32 0, replicate 8 8), (0 ∷ [], 1 ∷ []), 2)
    ∷ ((replicate 16 2, replicate 16 2), (replicate 16 2, replicate 16 2), 0) ∷ []

pub join_sums : all? (λ (c : (List ℕ × List ℕ) × (List ℕ × List ℕ) × ℕ).
    eqb (refusal_in (join_of (standing c.0.0 c.0.1) (standing c.1.0 c.1.1))) c.2) sums ≡ true
unfolding numbers_from listed listed_back both_or_neither read_each read_roster_by side_by_side sums_check join_of
join_sums = refl

-- ---- "The joined roster has a strongly popular plan exactly when both have one, and it is the two side by side."
abbrev strong_of : Reading Roster → List (List ℕ)
strong_of (accepted r) = map (plan_bytes (instance_of r)) (strong_plans (instance_of r))
strong_of (refused n) = []

abbrev Strong : String → String → List (List ℕ) → Type 0
Strong a b ps = strong_of (join_of (bytes a) (bytes b)) ≡ ps

pub strong_apart : (strong_of (read_roster (bytes sample)) ≡ bytes "1 1 1 1" ∷ []) × (strong_of (read_roster (bytes tied)) ≡ [])
    × (strong_of (read_roster (bytes wide)) ≡ bytes "3 1 3 2 2 2 1 2 3 1" ∷ [])
unfolding numbers_from count listed listed_back both_or_neither read_each read_roster_by instance_of edges_of position deg node_vote vote choices within plans_of
    same_plan beaten_by drawn_with verdict_of strong_plans plan_bytes_by
strong_apart = (refl, refl, refl)

pub strong_joined : Strong sample sample (bytes "2 1 1 1 3 2 1" ∷ []) × Strong sample tied [] × Strong tied sample []
    × Strong nobody sample (bytes "1 1 1 1" ∷ [])
unfolding numbers_from count listed listed_back both_or_neither read_each read_roster_by instance_of edges_of position deg node_vote vote choices within plans_of
    same_plan beaten_by drawn_with verdict_of strong_plans plan_bytes_by side_by_side sums_check join_of
strong_joined = (refl, refl, refl, refl)

pub strong_wide : Strong sample wide (bytes "4 1 1 1 3 4 2 4 3 1 4 4 1" ∷ [])
unfolding numbers_from count listed listed_back both_or_neither read_each read_roster_by instance_of edges_of position deg node_vote vote choices within plans_of
    same_plan beaten_by drawn_with verdict_of strong_plans plan_bytes_by side_by_side sums_check join_of
strong_wide = refl

-- its pairs: the first's, then the second's, moved up by the first's two surveyors and one stand
abbrev pair : ℕ → ℕ → ℕ → Named
pair s t k = record { surveyor = s; stand = t; shift = k }

abbrev behind_first : Reading Roster → List Named → List Named → List Named
behind_first (accepted r) ps qs = pairs_beside r ps qs
behind_first (refused n) ps qs = []

pub pairs_beside_law : behind_first (read_roster (bytes sample)) (pair 1 1 1 ∷ []) (pair 1 3 2 ∷ pair 2 1 2 ∷ pair 2 3 1 ∷ [])
    ≡ pair 1 1 1 ∷ pair 3 4 2 ∷ pair 4 2 2 ∷ pair 4 4 1 ∷ []
unfolding numbers_from listed listed_back both_or_neither read_each read_roster_by
pairs_beside_law = refl

-- and its bytes, which strong-wide has found
pub bytes_beside : pairs_bytes (pair 1 1 1 ∷ pair 3 4 2 ∷ pair 4 3 1 ∷ pair 4 4 1 ∷ []) ≡ bytes "4 1 1 1 3 4 2 4 3 1 4 4 1"
unfolding numbers_from
bytes_beside = refl
