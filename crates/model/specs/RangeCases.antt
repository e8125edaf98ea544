-- Ranges run by the checker: files with the refusal that each meets, the roster's order, votes under choices, and the question's order.
use Rattle.std.specs.Prelude.{ℕ, ◌≡◌, refl, true, false, List, [], ◌∷◌, map, eqb, ℤ, pos, negsuc}
use Prim.Native.String.{String}
use Rattle.lists.specs.Sum.{count}
use Rattle.lists.specs.Search.{low}
use Rattle.lists.specs.Keep.{all?}
use Rattle.model.specs.Decimal.{bytes, numbers_from}
use Rattle.model.specs.Reading.{Reading, accepted, refused, read_each}
use Rattle.model.specs.Roster.{Roster, listed, listed_back, both_or_neither}
use Rattle.model.specs.RosterFile.{read_roster_by, read_roster}
use Rattle.model.specs.RosterCases.{refusal_in}
use Rattle.model.specs.Edges.{position, edges_of, instance_of}
use Rattle.model.specs.Instance.{deg}
use Rattle.model.specs.Vote.{node_vote, vote}
use Rattle.model.specs.Plans.{vote_of}
use Rattle.model.specs.PlanFile.{edge_of_pair, read_plan_by}
use Rattle.model.specs.Ranges.{range_of, read_ranges, place_s, place_t, ranked, roster_ranks, read_question}

abbrev nothing : Roster
nothing = record { quotas_s = []; quotas_t = []; lists_s = []; lists_t = [] }

abbrev roster_in : Reading Roster → Roster
roster_in (accepted r) = r
roster_in (refused n) = nothing

-- document 01's sample, with four entries; P10, with a tie; one surveyor and one stand in shifts 3 and 1, the stand's shift 3 tied (P23)
abbrev sample : Roster
sample = roster_in (read_roster (bytes "2 1 1 1 1 2 0 1 1 1 1 1 1 2 0 2 0 1 1 2 1"))

abbrev P10 : Roster
P10 = roster_in (read_roster (bytes "2 1 1 2 1 2 4 0 2 1 1 2 1 2 1 1 2 1 4 0 0 2 1 1 2 1 2 0 1 1 2 1"))

abbrev twice : Roster
twice = roster_in (read_roster (bytes "1 2 1 2 2 0 2 1 3 1 1 2 0 1 1 1 1 1 3"))

-- ---- "a range with low 0, low above high or high above 32 (21, at the entry, after 1 and before 9)"
abbrev files : List (String × ℕ)
files =
    -- nothing, half a range, a range missing; 21 at an entry before a missing one, and no 21 in half a range
    ("", 1) ∷ ("1", 1) ∷ ("0", 1) ∷ ("1 2 1 1 1 4", 1) ∷ ("1 2 1 1 1 4 2", 1) ∷ ("0 1", 21) ∷ ("1 2 0 1 1", 21) ∷ ("1 2 2 1 1", 21) ∷ ("1 33", 21)
    ∷ ("33 33", 21) ∷ ("0 0", 21) ∷ ("1 2 1 1 1 4 0 3", 21) ∷ ("1 2 1 1 1 4 0 3 7", 21)
    -- bytes after the end; all taken, the lowest and the highest
    ∷ ("1 2 1 1 1 4 2 3 7", 9) ∷ ("1 2 1 1 1 4 2 3", 0) ∷ ("1 1 1 32 32 32 1 32", 0) ∷ []

pub ranges_refused : all? (λ (c : String × ℕ). eqb (refusal_in (read_ranges sample (bytes c.0))) c.1) files ≡ true
unfolding numbers_from listed listed_back both_or_neither read_each read_roster_by read_ranges
ranges_refused = refl

-- a roster without entries takes the empty file, and no other
pub no_ranges : (read_ranges nothing [] ≡ accepted []) × (read_ranges nothing (1 ∷ []) ≡ refused 9) × (read_ranges nothing (0 ∷ 0 ∷ []) ≡ refused 9)
unfolding read_each read_ranges
no_ranges = (refl, refl, refl)

pub ranges_read_law : read_ranges sample (bytes "1 2 1 1 1 4 2 3") ≡ accepted (map range_of ((1, 2) ∷ (1, 1) ∷ (1, 4) ∷ (2, 3) ∷ []))
unfolding numbers_from listed listed_back both_or_neither read_each read_roster_by read_ranges
ranges_read_law = refl

-- ---- the roster's order, and the ranks of the roster in it
-- surveyor 1's entries for stands 1 and 2, surveyor 2's; stand 1's tie of surveyors 1 and 2, stand 2's
pub places : (place_s P10 0 0 1 ≡ 0) × (place_s P10 0 1 1 ≡ 1) × (place_s P10 1 0 1 ≡ 2) × (place_s P10 1 1 1 ≡ 3)
    × (place_t P10 0 0 1 ≡ 4) × (place_t P10 1 0 1 ≡ 5) × (place_t P10 0 1 1 ≡ 6) × (place_t P10 1 1 1 ≡ 7)
unfolding numbers_from listed listed_back both_or_neither read_each read_roster_by position place_s place_t
places = (refl, refl, refl, refl, refl, refl, refl, refl)

-- shift 3 stands first in the surveyor's list, last in the stand's
pub shift_places : (place_s twice 0 0 3 ≡ 0) × (place_s twice 0 0 1 ≡ 1) × (place_t twice 0 0 1 ≡ 2) × (place_t twice 0 0 3 ≡ 3)
unfolding numbers_from listed listed_back both_or_neither read_each read_roster_by position place_s place_t
shift_places = (refl, refl, refl, refl)

pub ranks : (roster_ranks sample ≡ bytes "1 1 1 2") × (roster_ranks P10 ≡ bytes "1 2 1 2 1 1 1 2") × (roster_ranks twice ≡ bytes "1 2 1 2")
unfolding numbers_from listed listed_back both_or_neither read_each read_roster_by roster_ranks
ranks = (refl, refl, refl)

-- ---- votes under choices: pair 1-1 of the sample against pair 2-1
abbrev against : List ℕ → ℤ
against ws = vote_of (ranked sample ws) (true ∷ false ∷ []) (false ∷ true ∷ [])

-- the roster's own ranks; equal ranks at the stand; the second better there; ranks at the surveyors decide nothing, as each faces an empty place
pub choices : (against (bytes "1 1 1 2") ≡ pos 1) × (against (bytes "1 1 3 3") ≡ pos 0) × (against (bytes "2 1 4 2") ≡ negsuc 0)
    × (against (bytes "32 1 1 2") ≡ pos 1) × (against (bytes "32 1 32 32") ≡ pos 0)
unfolding numbers_from count listed listed_back both_or_neither read_each read_roster_by position edges_of instance_of deg node_vote vote place_s place_t ranked
choices = (refl, refl, refl, refl, refl)

-- a pair in both plans faces itself, whatever its rank: stand 1 of P10 (quota 1) and stand 2 (quota 2), plans 1-2, 2-2 against 1-2, 2-1
abbrev shared : List ℕ → ℤ
shared ws = vote_of (ranked P10 ws) (false ∷ true ∷ false ∷ true ∷ []) (false ∷ true ∷ true ∷ false ∷ [])

pub shared_faces_itself : (shared (bytes "1 2 1 2 1 1 1 2") ≡ negsuc 0) × (shared (bytes "1 32 1 2 1 1 1 2") ≡ negsuc 0)
    × (shared (bytes "1 2 1 2 1 1 32 2") ≡ negsuc 0) × (shared (bytes "1 2 2 2 1 1 1 2") ≡ pos 0)
unfolding numbers_from count listed listed_back both_or_neither read_each read_roster_by position edges_of instance_of deg node_vote vote place_s place_t ranked
shared_faces_itself = (refl, refl, refl, refl)

-- ---- "The plans are checked first, then the ranges": the first plan's refusal, the second's, the ranges'
abbrev asked : String → String → String → ℕ
asked a b c = refusal_in (read_question sample (bytes a) (bytes b) (bytes c))

pub questions : (asked "1 1 1 2" "1" "0 0" ≡ 10) × (asked "1 1 1 1" "1" "0 0" ≡ 1) × (asked "1 1 1 1" "1 1 1 1 0" "" ≡ 9)
    × (asked "1 1 1 1" "1 2 1 1" "0 0" ≡ 21) × (asked "1 1 1 1" "1 2 1 1" "1 2 1 1 1 4 2 3 0" ≡ 9) × (asked "1 1 1 1" "1 2 1 1" "1 2 1 1 1 4 2 3" ≡ 0)
    × (asked "" "" "" ≡ 1)
unfolding numbers_from low listed listed_back both_or_neither read_each read_roster_by position edges_of instance_of edge_of_pair read_plan_by read_ranges read_question
questions = (refl, refl, refl, refl, refl, refl, refl)
