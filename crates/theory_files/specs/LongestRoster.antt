-- W-204: "rosters 4,262" bytes, and there is one: no smaller buffer would do (Rosters.roster_size_law has that none is longer). Computed.
use Rattle.std.specs.Prelude.{ℕ, ◌≡◌, refl, Bool, true, false, List, [], ◌∷◌, ◌++◌, length, replicate}
use Rattle.lists.specs.Keep.{gather}
use Rattle.lists.specs.Sum.{range}
use Rattle.model.specs.Decimal.{same_bytes}
use Rattle.model.specs.Limits.{roster_size}
use Rattle.model.specs.Reading.{Reading, accepted, refused, read_each}
use Rattle.model.specs.Roster.{Entry, Roster, listed, listed_back, both_or_neither}
use Rattle.model.specs.RosterFile.{read_roster_by, read_roster, write_roster_by, write_roster}
use Rattle.model.specs.Text.{text}
use Rattle.model.specs.Refusal.{group_of}
use Rattle.model.specs.Printed.{digits, printed}

-- 32 surveyors and 32 stands of quota 2; the first half of each with the first half of the other in shifts 1 and 3, the second with the second in
-- shifts 2 and 3: 32 entries a list, 1,024 a side
abbrev block : (from size : ℕ) (early late : ℕ) → List Entry
block from size early late = gather (λ n. record { number = n; shift = early } ∷ record { number = n; shift = late } ∷ []) (range from size)

abbrev full : Roster
full = record {
  quotas_s = replicate 32 2;
  quotas_t = replicate 32 2;
  lists_s = replicate 16 (block 1 16 1 3) ++ replicate 16 (block 17 16 2 3);
  lists_t = replicate 16 (record { strict = block 1 10 1 3; tied = block 11 6 1 3 })
      ++ replicate 16 (record { strict = block 17 10 2 3; tied = block 27 6 2 3 });
}

abbrev writes_back : Reading Roster → List ℕ → Bool
writes_back (accepted r) file = same_bytes (write_roster r) file
writes_back (refused n) file = false

pub longest : (length (write_roster full) ≡ roster_size) × (writes_back (read_roster (write_roster full)) (write_roster full) ≡ true)
unfolding write_roster_by listed listed_back both_or_neither read_each read_roster_by
longest = (refl, refl)

-- "the program reads at most 4,263": one byte behind the longest roster is still read, and refused
pub behind_longest : printed (λ G M. M) (write_roster full ++ 0 ∷ []) ≡ text "refused 9 form\n"
unfolding text group_of digits printed write_roster_by listed listed_back both_or_neither read_each read_roster_by
behind_longest = refl
