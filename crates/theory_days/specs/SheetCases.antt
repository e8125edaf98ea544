-- The days that are written, run by the checker: plans on which the first day that is free at both ends, entry by entry, would use a day too many.
use Rattle.std.specs.Prelude.{ℕ, ◌≡◌, refl, Bool, true, false, List, [], ◌∷◌}
use Prim.Native.String.{String}
use Rattle.lists.specs.Sum.{count}
use Rattle.lists.specs.Search.{low}
use Rattle.lists.specs.Keep.{all?}
use Rattle.model.specs.Decimal.{bytes, numbers_from, same_bytes}
use Rattle.model.specs.Reading.{Reading, accepted, refused, read_each}
use Rattle.model.specs.Roster.{Roster, listed, listed_back, both_or_neither}
use Rattle.model.specs.RosterFile.{read_roster_by, read_roster}
use Rattle.model.specs.Edges.{position, edges_of, instance_of}
use Rattle.model.specs.Instance.{Instance}
use Rattle.model.specs.Plans.{Plan}
use Rattle.model.specs.PlanFile.{edge_of_pair, read_plan_by, read_plan}
use Rattle.theory_days.specs.Chain.{set_day, chase}
use Rattle.theory_days.specs.Spread.{free_day, with_day, spread}
use Rattle.theory_days.specs.Sheets.{spread_by, spread_of}

-- a roster's file, a plan's file, and its days
pub record Case : Type 0 where
  pub roster : String
  pub plan : String
  pub days : String

abbrev on_plan : Instance → Reading Plan → List ℕ → Bool
on_plan G (accepted M) ds = same_bytes (spread_of G M) ds
on_plan G (refused n) ds = false

abbrev holds : Case → Reading Roster → Bool
holds c (accepted r) = on_plan (instance_of r) (read_plan (instance_of r) (bytes c.plan)) (bytes c.days)
holds c (refused n) = false

abbrev cases : List Case
cases =
    record { roster = "0 0 0 0 0 0"; plan = "0"; days = "" }
    -- a day free at both ends; the day free at the stand taken at the surveyor, and no clash at the stand
    ∷ record { roster = "2 2 2 2 2 2 4 0 2 1 1 2 1 2 2 1 1 1 4 0 2 0 2 1 1 1 2 0 1 1 2 1"; plan = "2 1 1 1 2 2 1"; days = "1 1" }
    ∷ record { roster = "2 2 2 2 2 2 4 0 2 1 1 2 1 2 2 1 1 1 4 0 2 0 2 1 1 1 2 0 1 1 2 1"; plan = "4 1 1 1 1 2 1 2 1 1 2 2 1"; days = "1 2 2 1" }
    -- one surveyor and one stand in three shifts
    ∷ record { roster = "1 3 1 3 3 0 3 1 3 1 1 1 2 3 0 3 0 1 2 1 3 1 1"; plan = "3 1 1 1 1 1 2 1 1 3"; days = "1 2 3" }
    -- pairs 1-2, 1-3, 2-1, 2-3 with quotas 2: a chain
    ∷ record { roster = "2 2 2 3 2 2 2 4 0 2 2 1 3 1 2 1 1 3 1 4 0 1 0 2 1 1 0 1 1 2 0 1 1 2 1"; plan = "4 1 2 1 1 3 1 2 1 1 2 3 1"; days = "2 1 1 2" } ∷ []

pub sheets : all? (λ c. holds c (read_roster (bytes c.roster))) cases ≡ true
unfolding numbers_from count low listed listed_back both_or_neither read_each read_roster_by position edges_of instance_of edge_of_pair read_plan_by set_day chase free_day
    with_day spread spread_by
sheets = refl
