-- Stored in walking order: request W-214 of document 02. A file of a route and a roster, the roster with its stands renumbered and reordered by
-- the route, and back; and the renumbered plan.
use Rattle.std.specs.Prelude.{ℕ, suc, ◌-◌, Bool, true, not, cond, ◌&&◌, List, [], ◌∷◌, ◌++◌, map, length, get_or, eqb}
use Rattle.lists.specs.Sum.{range}
use Rattle.lists.specs.Keep.{all?, any?}
use Rattle.model.specs.Limits.{node_limit}
use Rattle.model.specs.Reading.{Reading, accepted, refused, ◌then◌, byte}
use Rattle.model.specs.Roster.{Entry, Roster, stand_count, list_t, elem, outside}
use Rattle.model.specs.RosterFile.{read_count, read_many, read_roster, list_bytes, write_roster}
use Rattle.model.specs.Instance.{Instance}
use Rattle.model.specs.Plans.{Plan, on}
use Rattle.model.specs.PlanFile.{Named, name_of, same_name, edges_in, plan_of}

-- "A route is a count byte, at most 32, and then stand numbers"; "A route cut short meets 1 and a count too high 2": a number is not judged here
abbrev pub read_route : List ℕ → Reading (List ℕ × List ℕ)
read_route bs = read_count node_limit bs then read_many byte

-- no number twice
abbrev pub differing : List ℕ → Bool
differing [] = true
differing (t ∷ ts) = not (elem t ts) && differing ts

-- "it names each stand once": as many names as stands, each of them a stand's, none twice
unfoldable pub names_each : (route : List ℕ) → Roster → Bool
names_each route r = eqb (length route) (stand_count r) && (all? (λ t. not (outside (stand_count r) t)) route && differing route)

-- "the first named becoming 1 and so on": a stand's new number is its place in the route, from 1
unfoldable pub new_number : (route : List ℕ) → ℕ → ℕ
new_number [] t = 1
new_number (x ∷ route) t = cond (eqb t x) 1 (suc (new_number route t))

-- a surveyor's entry with its stand's new number
abbrev pub entry_by : (route : List ℕ) → Entry → Entry
entry_by route x = record { number = new_number route x.number; shift = x.shift }

-- "it renumbers and reorders the stands by the route": a surveyor's list keeps its order, a stand's list its entries
unfoldable pub renumbered : (route : List ℕ) → Roster → Roster
renumbered route r = record {
  quotas_s = r.quotas_s;
  quotas_t = map (λ t. get_or r.quotas_t (t - 1) 0) route;
  lists_s = map (map (entry_by route)) r.lists_s;
  lists_t = map (λ t. list_t r (t - 1)) route;
}

-- the route that leads back: the new number of each stand, in their old order
unfoldable pub way_back : (route : List ℕ) → List ℕ
way_back route = map (new_number route) (range 1 (length route))

-- ---- files
-- a route and a roster, with the roster renumbered by what `by` makes of the route
module _ (by : List ℕ → List ℕ) where
  -- "keeps the route in front"; "It refuses a route that is not each stand exactly once (23, after the roster itself is valid)."
  abbrev pub roster_behind : (route : List ℕ) → Reading Roster → Reading (List ℕ)
  roster_behind route (accepted r) = cond (names_each route r) (accepted (list_bytes route ++ write_roster (renumbered (by route) r))) (refused 23)
  roster_behind route (refused n) = refused n

  -- "before the roster is read"
  abbrev pub route_first : Reading (List ℕ × List ℕ) → Reading (List ℕ)
  route_first (accepted (route, file)) = roster_behind route (read_roster file)
  route_first (refused n) = refused n

-- "Storing takes one file, the route and then the roster"
unfoldable pub store_of : List ℕ → Reading (List ℕ)
store_of file = route_first (λ route. route) (read_route file)

-- "unstoring gives the original bytes"
unfoldable pub unstore_of : List ℕ → Reading (List ℕ)
unstore_of file = route_first way_back (read_route file)

-- ---- "The strongly popular plan of the renumbered roster is the renumbered plan"
abbrev pub pair_by : (route : List ℕ) → Named → Named
pair_by route p = record { surveyor = p.surveyor; stand = new_number route p.stand; shift = p.shift }

-- the plan of H whose pairs are those of a plan of G, renumbered; as a plan has them, ascending
unfoldable pub renumbered_plan : (route : List ℕ) (G H : Instance) → Plan → Plan
renumbered_plan route G H M = plan_of H.m (λ e. any? (λ d. same_name (pair_by route (name_of G d)) (name_of H e)) (edges_in G.m (on M)))
