-- The sizes of files and buffers, tied to the layouts and to each other, run by the checker: so many counts, quotas and lengths, and so many entries or
-- pairs of so many bytes.
use Rattle.std.specs.Prelude.{ℕ, suc, ◌+◌, ◌*◌, ◌≡◌, refl, true, false, [], ◌∷◌, map, length}
use Rattle.model.specs.Limits.{node_limit, entry_limit, list_limit, plan_limit, entry_width, pair_width, empty_rank, plan_size, roster_size, diary_size, left_size}
use Rattle.model.specs.Limits.{quota_limit, last_day, day_size, rank_limit, choice_size, stored_size, input_size, old_roster_size, old_plan_size}
use Rattle.model.specs.Reading.{is_bytes}
use Rattle.model.specs.Roster.{Entry}
use Rattle.model.specs.RosterFile.{shifted, plain}
use Rattle.model.specs.Plans.{on, same_plan}
use Rattle.model.specs.PlanFile.{Named, shifted_pair, plain_pair}

abbrev an_entry : Entry
an_entry = record { number = 7; shift = 3 }

abbrev a_pair : Named
a_pair = record { surveyor = 5; stand = 7; shift = 3 }

-- an entry, a pair; without a shift they are a byte shorter
pub widths : (length (shifted.bytes an_entry) ≡ entry_width) × (suc (length (plain.bytes an_entry)) ≡ entry_width)
    × (length (shifted_pair.bytes a_pair) ≡ pair_width) × (suc (length (plain_pair.bytes a_pair)) ≡ pair_width)
widths = (refl, refl, refl, refl)

-- the longest roster: two counts, two sides' quotas, for each side a count of two bytes and all entries, a length for each surveyor's list and two
-- for each stand's
abbrev longest : (width : ℕ) → ℕ
longest w = (2 + 2 * node_limit) + ((2 + node_limit) + w * entry_limit) + ((2 + 2 * node_limit) + w * entry_limit)

pub sizes : (roster_size ≡ longest entry_width) × (old_roster_size ≡ longest (length (plain.bytes an_entry))) × (input_size ≡ suc roster_size)
    × (plan_size ≡ suc (plan_limit * pair_width)) × (old_plan_size ≡ suc (plan_limit * length (plain_pair.bytes a_pair))) × (left_size ≡ entry_limit * pair_width)
    × (diary_size ≡ entry_limit) × (empty_rank ≡ suc list_limit) × (stored_size ≡ suc node_limit + roster_size)
sizes = (refl, refl, refl, refl, refl, refl, refl, refl, refl)

-- a day byte for each pair of the longest plan; of the days there is one more than any node has entries
pub days : (day_size ≡ plan_limit) × (last_day ≡ suc quota_limit)
days = (refl, refl)

-- a rank byte for each entry of both sides' longest lists; the highest rank is that of the last entry of the longest list, and below an empty place's
pub ranks : (choice_size ≡ entry_limit + entry_limit) × (rank_limit ≡ list_limit) × (suc rank_limit ≡ empty_rank)
ranks = (refl, refl, refl)

-- how long a list may be, whatever the other side's count, and in an old roster as that count
pub lists_end_law : (shifted.longest 7 ≡ list_limit) × (plain.longest 7 ≡ 7)
lists_end_law = (refl, refl)

-- what is a byte; no pair is in a plan behind its end
pub ends : (is_bytes (0 ∷ 255 ∷ []) ≡ true) × (is_bytes (256 ∷ []) ≡ false) × (on (true ∷ []) 1 ≡ false)
ends = (refl, refl, refl)

-- "Plans with the same pairs are one plan": not with a pair less, with one more, with another
pub same_plans : map (same_plan (true ∷ false ∷ [])) ((true ∷ false ∷ []) ∷ (false ∷ false ∷ []) ∷ (true ∷ true ∷ []) ∷ (false ∷ true ∷ []) ∷ [])
    ≡ true ∷ false ∷ false ∷ false ∷ []
unfolding same_plan
same_plans = refl
