-- Nine-day sheets: request W-209 of document 02. The entries of a plan, in the plan's order, each with a day. Which spreading is open; what
-- holds of the one that is written is the record `Sheet`.
use Rattle.std.specs.Prelude.{ℕ, suc, ◌≤◌, max, ◌≡◌, Bool, not, cond, ◌&&◌, List, [], ◌∷◌, ◌++◌, map, length, get_or, T, eqb, leb}
use Rattle.lists.specs.Sum.{up_to, range}
use Rattle.lists.specs.Keep.{all?}
use Rattle.model.specs.Limits.{quota_limit, last_day}
use Rattle.model.specs.Roster.{elem}
use Rattle.model.specs.Instance.{Instance, surveyors, stands, deg}
use Rattle.model.specs.Plans.{Plan, on}
use Rattle.model.specs.PlanFile.{edges_in}

-- the entries of a plan, in its order
abbrev pub entries_of : Instance → Plan → List ℕ
entries_of G M = edges_in G.m (on M)

-- the i-th and the j-th entry are at one node of this side on one day
abbrev pub clash : (end : ℕ → ℕ) (es ds : List ℕ) → ℕ → ℕ → Bool
clash end es ds i j = eqb (get_or ds i 0) (get_or ds j 0) && eqb (end (get_or es i 0)) (end (get_or es j 0))

-- "No surveyor and no stand has two entries on one day." "Each entry stands on exactly one day": the list has a day for each entry.
unfoldable pub spreads : Instance → Plan → List ℕ → Bool
spreads G M ds = let es = entries_of G M in eqb (length ds) (length es)
    && all? (λ i. all? (λ j. not (clash G.sv es ds i j) && not (clash G.st es ds i j)) (up_to i)) (up_to (length es))

-- "The days used": how many numbers the list has, each counted once
abbrev pub days_used : List ℕ → ℕ
days_used [] = 0
days_used (d ∷ ds) = cond (elem d ds) (days_used ds) (suc (days_used ds))

-- the greatest of some numbers, 0 of none
abbrev pub greatest : List ℕ → ℕ
greatest [] = 0
greatest (x ∷ xs) = max x (greatest xs)

-- "as many as the busiest node has entries"
unfoldable pub busiest : Instance → Plan → ℕ
busiest G M = greatest (map (deg (surveyors G) (on M)) (range 0 G.ns) ++ map (deg (stands G) (on M)) (range 0 G.nt))

-- what holds of the days that are written. That they are the first ones, none left out, is the house's own.
pub record Sheet (G : Instance) (M : Plan) (ds : List ℕ) : Type 0 where
  pub apart : T (spreads G M ds)
  pub days : T (all? (λ d. leb 1 d && leb d last_day) ds)
  pub first : T (all? (λ d. leb d (busiest G M)) ds)
  pub used : days_used ds ≡ busiest G M
  pub eight : busiest G M ≤ quota_limit  -- "so eight is the most and no valid plan is turned away"
  -- "any other spreading of the same plan that keeps surveyors and stands to one entry a day uses at least as many days", whatever its days
  pub fewest : (other : List ℕ) → T (spreads G M other) → days_used ds ≤ days_used other
