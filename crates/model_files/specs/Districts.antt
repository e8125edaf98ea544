-- Two districts on one tablet: request W-210 of document 02. Two rosters side by side, which two are refused, and the pairs of two plans side
-- by side.
use Rattle.std.specs.Prelude.{ℕ, ◌+◌, Bool, cond, ◌||◌, List, ◌∷◌, ◌++◌, map, length, ltb}
use Rattle.lists.specs.Sum.{sum}
use Rattle.lists.specs.Keep.{gather}
use Rattle.model.specs.Limits.{node_limit, quota_sum_limit, entry_limit}
use Rattle.model.specs.Reading.{Reading, accepted, refused, refuse_by}
use Rattle.model.specs.Roster.{Entry, Ranking, Roster, surveyor_count, stand_count, total_s, total_t}
use Rattle.model.specs.RosterFile.{read_roster, write_roster}
use Rattle.model.specs.PlanFile.{Named, shifted_pair}

-- "numbers moved up": each entry's number by n; its shift stays
abbrev pub entry_up : ℕ → Entry → Entry
entry_up n x = record { number = n + x.number; shift = x.shift }

-- a list's entries, their numbers moved up
abbrev pub list_up : ℕ → List Entry → List Entry
list_up n xs = map (entry_up n) xs

-- a stand's list, its numbers moved up
abbrev pub ranking_up : ℕ → Ranking → Ranking
ranking_up n R = record { strict = list_up n R.strict; tied = list_up n R.tied }

-- "Joining two rosters puts the second's surveyors and stands after the first's, numbers moved up": stand numbers by the first's stands,
-- surveyor numbers by its surveyors
unfoldable pub side_by_side : Roster → Roster → Roster
side_by_side r q = record {
  quotas_s = r.quotas_s ++ q.quotas_s;
  quotas_t = r.quotas_t ++ q.quotas_t;
  lists_s = r.lists_s ++ map (list_up (stand_count r)) q.lists_s;
  lists_t = r.lists_t ++ map (ranking_up (surveyor_count r)) q.lists_t;
}

-- "sums past document 01's limits": of the counts and of the section counts (2), and of the quotas (3)
abbrev pub counts_past : Roster → Roster → Bool
counts_past r q = ltb node_limit (surveyor_count r + surveyor_count q) || (ltb node_limit (stand_count r + stand_count q)
    || (ltb entry_limit (total_s r.lists_s + total_s q.lists_s) || ltb entry_limit (total_t r.lists_t + total_t q.lists_t)))

-- the quotas of two rosters' surveyors, or of their stands, sum past 64
abbrev pub quotas_past : Roster → Roster → Bool
quotas_past r q = ltb quota_sum_limit (sum (λ x. x) r.quotas_s + sum (λ x. x) q.quotas_s)
    || ltb quota_sum_limit (sum (λ x. x) r.quotas_t + sum (λ x. x) q.quotas_t)

-- "then sums past document 01's limits meet 2 and then 3"; 0 for none
unfoldable pub sums_check : Roster → Roster → ℕ
sums_check r q = cond (counts_past r q) 2 (cond (quotas_past r q) 3 0)

-- the second file's reading, and the sums behind it
abbrev pub second_to : Roster → Reading Roster → Reading Roster
second_to r (accepted q) = refuse_by (sums_check r q) (accepted (side_by_side r q))
second_to r (refused n) = refused n

-- "the first checked in full before the second": the second is read where the first is accepted
abbrev pub first_to : Reading Roster → (second : List ℕ) → Reading Roster
first_to (accepted r) second = second_to r (read_roster second)
first_to (refused n) second = refused n

-- "Both come as files"
unfoldable pub join_of : (first second : List ℕ) → Reading Roster
join_of first second = first_to (read_roster first) second

-- the bytes that are written
abbrev pub file_of : Reading Roster → Reading (List ℕ)
file_of (accepted r) = accepted (write_roster r)
file_of (refused n) = refused n

-- the file of the joined roster of two roster files, or the refusal
unfoldable pub joined_file : (first second : List ℕ) → Reading (List ℕ)
joined_file first second = file_of (join_of first second)

-- ---- plans: "it is the two side by side"
-- a pair of the second, with its numbers moved up
abbrev pub pair_up : (ns nt : ℕ) → Named → Named
pair_up ns nt p = record { surveyor = ns + p.surveyor; stand = nt + p.stand; shift = p.shift }

-- the pairs of a plan of the first, then those of a plan of the second
abbrev pub pairs_beside : Roster → List Named → List Named → List Named
pairs_beside r ps qs = ps ++ map (pair_up (surveyor_count r) (stand_count r)) qs

-- their bytes as a plan's: "a count byte", "then" three bytes "a pair (surveyor, stand)" and the shift
abbrev pub pairs_bytes : List Named → List ℕ
pairs_bytes ps = length ps ∷ gather shifted_pair.bytes ps
