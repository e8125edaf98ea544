-- Sheets run by the checker: which lists of days spread a plan, the days used, the busiest node.
use Rattle.std.specs.Prelude.{ℕ, ◌≡◌, refl, Bool, true, false, not, ◌&&◌, List, [], ◌∷◌, eqb}
use Rattle.lists.specs.Sum.{count}
use Rattle.lists.specs.Search.{low}
use Rattle.lists.specs.Keep.{all?}
use Rattle.model.specs.Decimal.{bytes, numbers_from}
use Rattle.model.specs.Reading.{Reading, accepted, refused, read_each}
use Rattle.model.specs.Roster.{Roster, listed, listed_back, both_or_neither}
use Rattle.model.specs.RosterFile.{read_roster_by, read_roster}
use Rattle.model.specs.Edges.{position, edges_of, instance_of}
use Rattle.model.specs.Instance.{Instance, deg}
use Rattle.model.specs.Plans.{Plan}
use Rattle.model.specs.PlanFile.{edge_of_pair, read_plan_by, read_plan}
use Rattle.model.specs.Days.{spreads, days_used, busiest}

-- a roster's file, a plan's file, how many entries the busiest node has; lists of days that spread the plan, and lists that do not
pub record Case : Type 0 where
  pub roster : List ℕ
  pub plan : List ℕ
  pub most : ℕ
  pub good : List (List ℕ)
  pub bad : List (List ℕ)

abbrev on_plan : Instance → Case → Reading Plan → Bool
on_plan G c (accepted M) = eqb (busiest G M) c.most && (all? (spreads G M) c.good
    && all? (λ ds. not (spreads G M ds)) c.bad)
on_plan G c (refused n) = false

abbrev holds : Case → Reading Roster → Bool
holds c (accepted r) = on_plan (instance_of r) c (read_plan (instance_of r) c.plan)
holds c (refused n) = false

-- P6's four pairs, with quotas 2
abbrev square : List ℕ
square = bytes "2 2 2 2 2 2 4 0 2 1 1 2 1 2 2 1 1 1 4 0 2 0 2 1 1 1 2 0 1 1 2 1"

-- one surveyor and one stand in three shifts, quotas 3
abbrev shifts : List ℕ
shifts = bytes "1 3 1 3 3 0 3 1 3 1 1 1 2 3 0 3 0 1 2 1 3 1 1"

-- pairs 1-2, 1-3, 2-1, 2-3, quotas 2: the first day free at both ends, entry by entry, uses a third day
abbrev path : List ℕ
path = bytes "2 2 2 3 2 2 2 4 0 2 2 1 3 1 2 1 1 3 1 4 0 1 0 2 1 1 0 1 1 2 0 1 1 2 1"

-- P5, a stand with two surveyors; a surveyor with two stands
abbrev at_stand : List ℕ
at_stand = bytes "2 1 1 1 2 2 0 1 1 1 1 1 1 2 0 0 2 1 1 2 1"

abbrev at_surveyor : List ℕ
at_surveyor = bytes "1 2 2 1 1 2 0 2 2 1 1 1 2 0 1 0 1 1 1 0 1 1"

abbrev cases : List Case
cases =
    record { roster = bytes "0 0 0 0 0 0"; plan = bytes "0"; most = 0; good = [] ∷ []; bad = bytes "1" ∷ [] }
    ∷ record {
      roster = square;
      plan = bytes "2 1 1 1 2 2 1";
      most = 1;
      good = bytes "1 1" ∷ bytes "1 2" ∷ bytes "9 9" ∷ [];
      bad = bytes "1" ∷ bytes "1 1 1" ∷ [] ∷ [];
    }
    ∷ record { roster = at_stand; plan = bytes "2 1 1 1 2 1 1"; most = 2; good = bytes "1 2" ∷ []; bad = bytes "1 1" ∷ [] }
    ∷ record { roster = at_surveyor; plan = bytes "2 1 1 1 1 2 1"; most = 2; good = bytes "2 1" ∷ []; bad = bytes "2 2" ∷ [] }
    -- all four: entries 1 and 4, and 2 and 3, share no end
    ∷ record {
      roster = square;
      plan = bytes "4 1 1 1 1 2 1 2 1 1 2 2 1";
      most = 2;
      good = bytes "1 2 2 1" ∷ bytes "1 2 3 4" ∷ bytes "200 0 0 200" ∷ [];
      bad = bytes "1 1 2 2" ∷ bytes "1 2 1 2" ∷ bytes "1 2 2" ∷ bytes "1 2 2 1 3" ∷ [];
    }
    -- "one surveyor and one stand in two shifts are two pairs" (W-204): two entries, two days
    ∷ record { roster = shifts; plan = bytes "2 1 1 1 1 1 3"; most = 2; good = bytes "1 2" ∷ bytes "2 1" ∷ []; bad = bytes "1 1" ∷ [] }
    ∷ record { roster = shifts; plan = bytes "3 1 1 1 1 1 2 1 1 3"; most = 3; good = bytes "1 2 3" ∷ []; bad = bytes "1 2 1" ∷ bytes "1 2 2" ∷ [] }
    ∷ record {
      roster = path;
      plan = bytes "4 1 2 1 1 3 1 2 1 1 2 3 1";
      most = 2;
      good = bytes "1 2 2 1" ∷ bytes "1 2 1 3" ∷ [];
      bad = bytes "1 2 1 2" ∷ [];
    } ∷ []

pub sheets : all? (λ c. holds c (read_roster c.roster)) cases ≡ true
unfolding numbers_from count low listed listed_back both_or_neither read_each read_roster_by position edges_of instance_of deg edge_of_pair read_plan_by spreads busiest
sheets = refl

-- each day once, in any order
pub used : (days_used [] ≡ 0) × (days_used (bytes "1 2 1") ≡ 2) × (days_used (bytes "3 3 3") ≡ 1) × (days_used (bytes "1 2 1 3 2 200") ≡ 4)
unfolding numbers_from
used = (refl, refl, refl, refl)
