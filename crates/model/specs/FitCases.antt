-- Rosters within the limits and just outside them, run by the checker: each limit is passed by one, with all else in order. And counts of two bytes,
-- and ranks.
use Rattle.std.specs.Prelude.{ℕ, ◌≡◌, refl, true, false, List, [], ◌∷◌, map, replicate}
use Prim.Native.String.{String}
use Rattle.lists.specs.Sum.{range}
use Rattle.lists.specs.Keep.{gather}
use Rattle.model.specs.Decimal.{bytes, numbers_from}
use Rattle.model.specs.Roster.{Entry, Ranking, Roster, listed, listed_back, both_or_neither, list_fits, ranking_fits, fits_by, fits}
use Rattle.model.specs.RosterFile.{plain, wide_bytes}
use Rattle.model.specs.Edges.{position}

abbrev entry : ℕ → ℕ → Entry
entry n k = record { number = n; shift = k }

abbrev early : String → List Entry
early s = map (λ n. entry n 1) (bytes s)

abbrev ranking : (strict tied : List Entry) → Ranking
ranking s t = record { strict = s; tied = t }

abbrev roster : (quotas_s quotas_t : String) → List (List Entry) → List Ranking → Roster
roster p q ls ts = record { quotas_s = bytes p; quotas_t = bytes q; lists_s = ls; lists_t = ts }

-- surveyors with these quotas, who rank nothing
abbrev idle : List ℕ → Roster
idle qs = record { quotas_s = qs; quotas_t = []; lists_s = map (λ q. []) qs; lists_t = [] }

-- one surveyor with so many stands, with each in all shifts
abbrev busy : ℕ → Roster
busy n = record {
  quotas_s = 1 ∷ [];
  quotas_t = replicate n 1;
  lists_s = gather (λ j. map (entry j) (range 1 3)) (range 1 n) ∷ [];
  lists_t = replicate n (ranking (map (entry 1) (range 1 3)) []);
}

-- nobody; document 01's sample; a tie in order; 32 surveyors; quotas of 64 in all; a list of 30
abbrev within : List Roster
within =
    idle [] ∷ roster "1 1" "1" (early "1" ∷ early "1" ∷ []) (ranking (early "1 2") [] ∷ [])
    ∷ roster "1 1" "8" (early "1" ∷ early "1" ∷ []) (ranking [] (early "1 2") ∷ [])
    ∷ roster "2" "2" ((entry 1 3 ∷ entry 1 1 ∷ []) ∷ []) (ranking [] (entry 1 1 ∷ entry 1 3 ∷ []) ∷ []) ∷ idle (replicate 32 0) ∷ idle (replicate 8 8)
    ∷ busy 10 ∷ []

pub fitting : map fits within ≡ replicate 7 true
unfolding numbers_from listed listed_back both_or_neither fits_by
fitting = refl

abbrev outside : List Roster
outside =
    -- a surveyor's quota, a stand's; 33 surveyors; quotas of 65 in all
    roster "9 1" "1" (early "1" ∷ early "1" ∷ []) (ranking (early "1 2") [] ∷ [])
    ∷ roster "1 1" "9" (early "1" ∷ early "1" ∷ []) (ranking (early "1 2") [] ∷ [])
    ∷ idle (replicate 33 0) ∷ idle (1 ∷ replicate 8 8)
    -- a list too few, on either side
    ∷ roster "1 1" "" ([] ∷ []) [] ∷ roster "" "1" [] []
    -- a list of 33
    ∷ busy 11
    -- an entry above the other side's count, also where it is none above its own, 0, with shift 0 or 4; a stand's entry likewise
    ∷ roster "1 1" "1" (early "2" ∷ [] ∷ []) (ranking [] [] ∷ [])
    ∷ roster "1" "1" (early "2" ∷ []) (ranking [] [] ∷ []) ∷ roster "1" "1" (early "0" ∷ []) (ranking [] [] ∷ [])
    ∷ roster "1" "1" ((entry 1 0 ∷ []) ∷ []) (ranking (entry 1 0 ∷ []) [] ∷ []) ∷ roster "1" "1" ((entry 1 4 ∷ []) ∷ []) (ranking (entry 1 4 ∷ []) [] ∷ [])
    ∷ roster "1" "1" ([] ∷ []) (ranking (early "2") [] ∷ [])
    -- an entry twice, in a list, behind another one, in a ranking
    ∷ roster "1" "1" (early "1 1" ∷ []) (ranking (early "1") [] ∷ [])
    ∷ roster "1" "1 1" (early "1 2 2" ∷ []) (ranking (early "1") [] ∷ ranking (early "1") [] ∷ [])
    ∷ roster "1" "1" (early "1" ∷ []) (ranking (early "1") (early "1") ∷ [])
    -- ties that do not ascend, by number, by shift
    ∷ roster "1 1" "1" (early "1" ∷ early "1" ∷ []) (ranking [] (early "2 1") ∷ [])
    ∷ roster "2" "2" ((entry 1 3 ∷ entry 1 1 ∷ []) ∷ []) (ranking [] (entry 1 3 ∷ entry 1 1 ∷ []) ∷ [])
    -- a pair that one side lists
    ∷ roster "1" "1" (early "1" ∷ []) (ranking [] [] ∷ []) ∷ roster "1" "1" ([] ∷ []) (ranking (early "1") [] ∷ []) ∷ []

pub not_fitting : map fits outside ≡ replicate 20 false
unfolding numbers_from listed listed_back both_or_neither fits_by
not_fitting = refl

-- with the limit from before W-204, the other side's count: a surveyor with two stands, a stand with two surveyors, one with one in two shifts
pub fitting_before : map (fits_by plain.longest) (
    roster "2" "1 1" (early "1 2" ∷ []) (ranking (early "1") [] ∷ ranking (early "1") [] ∷ [])
    ∷ roster "1 1" "1" (early "1" ∷ early "1" ∷ []) (ranking (early "1 2") [] ∷ [])
    ∷ roster "2" "2" ((entry 1 1 ∷ entry 1 3 ∷ []) ∷ []) (ranking (entry 1 1 ∷ entry 1 3 ∷ []) [] ∷ []) ∷ []) ≡ true ∷ true ∷ false ∷ []
unfolding numbers_from listed listed_back both_or_neither fits_by
fitting_before = refl

-- how long a list, a ranking may be
pub lengths : map (λ n. list_fits n 3 (early "1 2 3")) (2 ∷ 3 ∷ []) ≡ false ∷ true ∷ []
unfolding numbers_from
lengths = refl

pub ranking_lengths : map (λ n. ranking_fits n 3 (ranking (early "3") (early "1 2"))) (2 ∷ 3 ∷ []) ≡ false ∷ true ∷ []
unfolding numbers_from
ranking_lengths = refl

-- "a two-byte count of all entries, low byte first"
pub wide : map wide_bytes (0 ∷ 255 ∷ 256 ∷ 300 ∷ 1024 ∷ []) ≡ (0 ∷ 0 ∷ []) ∷ (255 ∷ 0 ∷ []) ∷ (0 ∷ 1 ∷ []) ∷ (44 ∷ 1 ∷ []) ∷ (0 ∷ 4 ∷ []) ∷ []
wide = refl

-- "The rank of a strict entry is its position from 1; all tied entries share the next number"
pub ranks : map (λ x. position x (early "4 2 7")) (early "4 2 7 1 5") ≡ 1 ∷ 2 ∷ 3 ∷ 4 ∷ 4 ∷ []
unfolding numbers_from position
ranks = refl
