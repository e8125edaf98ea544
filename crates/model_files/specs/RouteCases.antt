-- Rosters stored in walking order, run by the checker: stored and back, refusals in their order, and the renumbered plan. Routes of three stands
-- that are not their own way back are among them. Numbers are as in files.
use Rattle.std.specs.Prelude.{ℕ, ◌≡◌, refl, Bool, true, false, ◌&&◌, List, [], ◌∷◌, ◌++◌, map, replicate, eqb}
use Prim.Native.String.{String}
use Rattle.lists.specs.Keep.{all?}
use Rattle.lists.specs.Sum.{range, count}
use Rattle.model.specs.Decimal.{bytes, numbers_from, same_bytes}
use Rattle.model.specs.Reading.{Reading, accepted, refused, read_each}
use Rattle.model.specs.Roster.{Roster, listed, listed_back, both_or_neither}
use Rattle.model.specs.RosterFile.{read_roster_by, read_roster, write_roster_by}
use Rattle.model.specs.Edges.{position, edges_of, instance_of}
use Rattle.model.specs.Instance.{deg}
use Rattle.model.specs.Vote.{node_vote, vote}
use Rattle.model.specs.Plans.{choices, within, plans_of, same_plan, beaten_by, drawn_with, verdict_of, strong_plans}
use Rattle.model.specs.PlanFile.{plan_bytes_by, plan_bytes}
use Rattle.model.specs.Refusal.{group_of, form, content, desk}
use Rattle.model.specs.RosterCases.{refusal_in, meets}
use Rattle.model_desk.specs.Desk as D
use Rattle.model_files.specs.StoredCalls.{stored_answer, stored_lent}
use Rattle.model_files.specs.Routes.{names_each, new_number, renumbered, way_back, store_of, unstore_of, renumbered_plan}

-- document 01's sample (P3), P6, P10; two surveyors and three stands with other quotas, with shifts and ties
abbrev sample : String
sample = "2 1 1 1 1 2 0 1 1 1 1 1 1 2 0 2 0 1 1 2 1"

abbrev circle : String
circle = "2 1 1 2 1 1 4 0 2 1 1 2 1 2 2 1 1 1 4 0 2 0 2 1 1 1 2 0 1 1 2 1"

abbrev tenth : String
tenth = "2 1 1 2 1 2 4 0 2 1 1 2 1 2 1 1 2 1 4 0 0 2 1 1 2 1 2 0 1 1 2 1"

abbrev wide : String
wide = "2 1 2 3 1 2 3 5 0 2 3 2 1 1 3 2 1 3 1 1 3 5 0 1 1 2 3 1 1 1 0 2 1 0 2 1 2 2 1"

-- ---- stored, and back: the route, the roster before, the roster then
abbrev stored : List (String × String × String)
stored =
    ("0", "0 0 0 0 0 0", "0 0 0 0 0 0") ∷ ("1 1", sample, sample) ∷ ("2 1 2", circle, circle)
    ∷ ("2 2 1", circle, "2 1 1 2 1 1 4 0 2 2 1 1 1 2 1 1 2 1 4 0 2 0 1 1 2 1 2 0 2 1 1 1")
    ∷ ("2 2 1", tenth, "2 1 1 2 2 1 4 0 2 2 1 1 1 2 2 1 1 1 4 0 2 0 1 1 2 1 0 2 1 1 2 1")
    -- a route that is not its own way back: the first named becomes 1, quotas and lists go with their stands, each surveyor's order stays
    ∷ ("3 2 3 1", wide, "2 1 2 3 2 3 1 5 0 2 2 2 3 1 3 1 1 2 1 3 3 5 0 1 0 2 1 0 2 1 2 2 1 1 1 2 3 1 1")
    ∷ ("3 3 1 2", wide, "2 1 2 3 3 1 2 5 0 2 1 2 2 1 3 3 1 1 1 2 3 5 0 0 2 1 2 2 1 1 1 2 3 1 1 1 0 2 1") ∷ []

abbrev is : Reading (List ℕ) → (route roster : String) → Bool
is (accepted bs) route roster = same_bytes bs (bytes route ++ bytes roster)
is (refused n) route roster = false

pub files_stored : all? (λ (c : String × String × String). (is (store_of (bytes c.0 ++ bytes c.1)) c.0 c.2
    && is (unstore_of (bytes c.0 ++ bytes c.2)) c.0 c.1) && meets (bytes c.2) 0) stored ≡ true
unfolding numbers_from listed listed_back both_or_neither read_each read_roster_by write_roster_by names_each new_number renumbered way_back store_of unstore_of
files_stored = refl

-- a file that was never stored can be unstored: by the way back
pub unstored_first : is (unstore_of (bytes "3 2 3 1" ++ bytes wide)) "3 2 3 1"
    "2 1 2 3 3 1 2 5 0 2 1 2 2 1 3 3 1 1 1 2 3 5 0 0 2 1 2 2 1 1 1 2 3 1 1 1 0 2 1" ≡ true
unfolding numbers_from listed listed_back both_or_neither read_each read_roster_by write_roster_by names_each new_number renumbered way_back store_of unstore_of
unstored_first = refl

-- ---- refusals, alike for both
abbrev refusals : List (String × ℕ)
refusals =
    -- "A route cut short meets 1 and a count too high 2, before the roster is read"; a number is not judged there
    ("", 1) ∷ ("1", 1) ∷ ("2 9", 1) ∷ ("33", 2) ∷ ("33 9 9", 2) ∷ ("32", 1) ∷ ("0", 1) ∷ ("1 9", 1)
    -- the roster's own, whatever the route: 1, 2, 3, 4, 18, 7, 9, 8
    ∷ ("0 1", 1) ∷ ("2 1 1 33", 2) ∷ ("1 0 1 9", 3) ∷ ("1 7 1 1 1 1 1 0 1 2 1", 4) ∷ ("1 7 1 1 1 1 1 0 1 1 4", 18) ∷ ("2 5 5 0 0 1 0", 7)
    ∷ ("1 7 0 0 0 0 0 0 0", 9) ∷ ("1 7 1 1 1 1 1 0 1 1 1 0 0 0 0", 8)
    -- "a route that is not each stand exactly once (23": too few, too many, 0, above the stands, twice
    ∷ ("0 0 1 1 0 0 0 0 0 0", 23) ∷ ("1 1 0 0 0 0 0 0", 23) ∷ ("2 1 1 0 1 1 0 0 0 0 0 0", 23) ∷ ("1 0 0 1 1 0 0 0 0 0 0", 23)
    ∷ ("1 2 0 1 1 0 0 0 0 0 0", 23) ∷ ("2 1 1 0 2 1 1 0 0 0 0 0 0 0 0", 23) ∷ ("2 1 2 0 2 1 1 0 0 0 0 0 0 0 0", 0) ∷ []

pub route_refusals : all? (λ (c : String × ℕ). eqb (refusal_in (store_of (bytes c.0))) c.1 && eqb (refusal_in (unstore_of (bytes c.0))) c.1) refusals
    ≡ true
unfolding numbers_from listed listed_back both_or_neither read_each read_roster_by write_roster_by names_each new_number renumbered way_back store_of unstore_of
route_refusals = refl

-- 32 stands, stored from the last to the first
abbrev many : List ℕ
many = 0 ∷ 32 ∷ (replicate 32 2 ++ (0 ∷ 0 ∷ 0 ∷ 0 ∷ replicate 64 0))

abbrev turned : List ℕ → List ℕ
turned [] = []
turned (x ∷ xs) = turned xs ++ x ∷ []

pub route_of_32 : refusal_in (store_of (32 ∷ (turned (range 1 32) ++ many))) ≡ 0
unfolding listed listed_back both_or_neither read_each read_roster_by write_roster_by names_each new_number renumbered store_of
route_of_32 = refl

-- ---- "Either buffer needs 4,295 bytes, else 15", before the file is read; beyond what is written it keeps its bytes
pub files_said : (stored_answer (store_of []) (replicate 4294 7) ≡ D.refused 15 desk) × (stored_answer (unstore_of []) (replicate 4294 7) ≡ D.refused 15 desk)
    × (stored_answer (store_of []) (replicate 4295 7) ≡ D.refused 1 form)
    × (stored_answer (store_of (bytes "1 1" ++ bytes sample)) (replicate 4295 7) ≡ D.said (D.wrote 23))
    × (stored_answer (store_of (bytes "1 2" ++ bytes sample)) (replicate 4295 7) ≡ D.refused 23 content)
unfolding numbers_from group_of listed listed_back both_or_neither read_each read_roster_by write_roster_by names_each new_number renumbered way_back store_of unstore_of
    stored_answer
files_said = (refl, refl, refl, refl, refl)

pub files_written : (stored_lent (store_of (bytes "1 1" ++ bytes sample)) (replicate 4295 7) ≡ bytes "1 1" ++ (bytes sample ++ replicate 4272 7))
    × (stored_lent (store_of (bytes "1 1" ++ bytes sample)) (replicate 4294 7) ≡ replicate 4294 7)
    × (stored_lent (store_of (bytes "1 2" ++ bytes sample)) (replicate 4295 7) ≡ replicate 4295 7)
unfolding numbers_from listed listed_back both_or_neither read_each read_roster_by write_roster_by names_each new_number renumbered store_of stored_lent
files_written = (refl, refl, refl)

-- ---- "The strongly popular plan of the renumbered roster is the renumbered plan, and none stays none"
abbrev before : Reading Roster → List (List ℕ)
before (accepted r) = map (plan_bytes (instance_of r)) (strong_plans (instance_of r))
before (refused n) = []

abbrev after : List ℕ → Reading Roster → List (List ℕ)
after route (accepted r) = let H = instance_of (renumbered route r) in map (plan_bytes H) (strong_plans H)
after route (refused n) = []

abbrev carried : List ℕ → Reading Roster → List (List ℕ)
carried route (accepted r) =
    let H = instance_of (renumbered route r) in
    map (λ M. plan_bytes H (renumbered_plan route (instance_of r) H M)) (strong_plans (instance_of r))
carried route (refused n) = []

abbrev Plans : (route roster : String) (old new : List (List ℕ)) → Type 0
Plans route roster old new = let r = read_roster (bytes roster) in
    (before r ≡ old) × (after (bytes route) r ≡ new) × (carried (bytes route) r ≡ new)

-- P10; P6 has none; three stands, whose pairs come in another order
pub plans_renumbered : Plans "2 1" tenth (bytes "2 1 2 1 2 1 1" ∷ []) (bytes "2 1 1 1 2 2 1" ∷ []) × Plans "2 1" circle [] []
unfolding numbers_from count listed listed_back both_or_neither read_each read_roster_by instance_of edges_of position deg node_vote vote choices within plans_of
    same_plan beaten_by drawn_with verdict_of strong_plans plan_bytes_by new_number renumbered renumbered_plan
plans_renumbered = ((refl, refl, refl), (refl, refl, refl))

pub plans_of_three : Plans "2 3 1" wide (bytes "3 1 3 2 2 2 1 2 3 1" ∷ []) (bytes "3 1 2 2 2 1 1 2 2 1" ∷ [])
unfolding numbers_from count listed listed_back both_or_neither read_each read_roster_by instance_of edges_of position deg node_vote vote choices within plans_of
    same_plan beaten_by drawn_with verdict_of strong_plans plan_bytes_by new_number renumbered renumbered_plan
plans_of_three = (refl, refl, refl)

pub plans_other_way : Plans "3 1 2" wide (bytes "3 1 3 2 2 2 1 2 3 1" ∷ []) (bytes "3 1 1 2 2 1 1 2 3 1" ∷ [])
unfolding numbers_from count listed listed_back both_or_neither read_each read_roster_by instance_of edges_of position deg node_vote vote choices within plans_of
    same_plan beaten_by drawn_with verdict_of strong_plans plan_bytes_by new_number renumbered renumbered_plan
plans_other_way = (refl, refl, refl)
