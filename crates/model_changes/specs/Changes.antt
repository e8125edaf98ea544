-- Surveyors who join and leave in the field: request W-202 of document 02. What the roster is afterwards, which change is refused, and
-- which pairs of the held plan remain.
use Rattle.std.specs.Prelude.{ℕ, suc, ◌+◌, ◌-◌, Bool, not, cond, ◌&&◌, ◌||◌, List, [], ◌∷◌, ◌++◌, map, eqb, leb, ltb, length, set, get_or}
use Rattle.lists.specs.Sum.{sum}
use Rattle.lists.specs.Keep.{keep, any?, gather}
use Rattle.model.specs.Limits.{node_limit, quota_limit, quota_sum_limit, list_limit}
use Rattle.model.specs.Instance.{Instance}
use Rattle.model.specs.Plans.{Plan, on}
use Rattle.model.specs.Reading.{Reading, accepted, refused, whole}
use Rattle.model.specs.Roster.{Entry, Ranking, Roster, surveyor_count, stand_count, list_s, entries, has, shifts, outside}
use Rattle.model.specs.RosterFile.{shifted, read_list}
use Rattle.model.specs.PlanFile.{plan_of, name_of, edge_of_pair}

-- ---- a joiner
-- W-204: "the joiner's entries join a stand's tie in shift order": those at stand j
abbrev pub joiner_at : (joiner : ℕ) (list : List Entry) → ℕ → List Entry
joiner_at s list j = gather (λ k. cond (has (record { number = j; shift = k }) list) (record { number = s; shift = k } ∷ []) []) shifts

-- "enters each listed stand's tie at its end": the stands from number j on
abbrev pub entered : (joiner : ℕ) (list : List Entry) → ℕ → List Ranking → List Ranking
entered s list j [] = []
entered s list j (R ∷ Rs) = record { strict = R.strict; tied = R.tied ++ joiner_at s list j } ∷ entered s list (suc j) Rs

-- "A joiner brings a quota and (..) one stand list (..), takes the number after the highest"
unfoldable pub joined : Roster → (quota : ℕ) → (list : List Entry) → Roster
joined r q list = record {
  quotas_s = r.quotas_s ++ q ∷ [];
  quotas_t = r.quotas_t;
  lists_s = r.lists_s ++ list ∷ [];
  lists_t = entered (suc (surveyor_count r)) list 1 r.lists_t;
}

-- 17: "when 32 numbers are taken, leavers' included, or the quotas would pass 64"
abbrev pub no_place : Roster → ℕ → Bool
no_place r q = leb node_limit (surveyor_count r) || ltb quota_sum_limit (sum (λ x. x) r.quotas_s + q)

-- W-204: "A joiner's entry that takes a stand's list past 32 meets 2, after all checks of the joiner's own list."
abbrev pub too_long : Roster → Bool
too_long r = any? (λ R. ltb list_limit (length (entries R))) r.lists_t

-- the roster with the joiner, where the list is accepted and no stand's list gets too long; or the refusal
abbrev pub joined_by : Roster → ℕ → Reading (List Entry) → Reading Roster
joined_by r q (accepted list) = cond (too_long (joined r q list)) (refused 2) (accepted (joined r q list))
joined_by r q (refused n) = refused n

-- "A joiner's quota above 8 meets 3 straight after 15; a bad list meets 1, 2, 4, 5 and 9 in document 01's order", and
-- 18 after 4 (W-204); 17 "before the list is read"
unfoldable pub join_on : Roster → (quota : ℕ) → (file : List ℕ) → Reading Roster
join_on r q file = cond (ltb quota_limit q) (refused 3)
    (cond (no_place r q) (refused 17) (joined_by r q (whole (read_list shifted list_limit (stand_count r) file))))

-- ---- a leaver
abbrev pub without : ℕ → List Entry → List Entry
without s xs = keep (λ x. not (eqb s x.number)) xs

-- "A leaver keeps the number, with quota zero and no pairs"
unfoldable pub departed : Roster → (number : ℕ) → Roster
departed r s = record {
  quotas_s = set r.quotas_s (s - 1) 0;
  quotas_t = r.quotas_t;
  lists_s = set r.lists_s (s - 1) [];
  lists_t = map (λ R. record { strict = without s R.strict; tied = without s R.tied }) r.lists_t;
}

-- 16: "a leaver's number outside the surveyors"
unfoldable pub leave_on : Roster → (number : ℕ) → Reading Roster
leave_on r s = cond (outside (surveyor_count r) s) (refused 16) (accepted (departed r s))

-- one who has left already: "leaving twice changes nothing more"
abbrev pub gone : Roster → (number : ℕ) → Bool
gone r s = eqb (get_or r.quotas_s (s - 1) 0) 0 && eqb (length (list_s r (s - 1))) 0

-- ---- the held plan
-- "The held plan loses the leaver's pairs": the pairs of a plan of G that H still has
abbrev pub same_edge : Instance → Instance → ℕ → ℕ
same_edge G H e = edge_of_pair G (name_of H e)

-- a plan of G as one of H: the edges of H whose pair is in it
unfoldable pub carried : Instance → Instance → Plan → Plan
carried G H M = plan_of H.m (λ e. ltb (same_edge G H e) G.m && on M (same_edge G H e))
