-- The finder's answer: section "Finder" of document 01. Which rival it names is open; it is a parameter here, and what holds of it
-- is `Rival`.
use Rattle.std.specs.Prelude.{ℕ, suc, ◌≤◌, ◌≡◌, Bool, true, false, not, List, [], ◌∷◌, map, ℤ, pos, ◌<ℤ◌, T}
use Rattle.lists.specs.Sum.{◌∈◌}
use Rattle.model.specs.Limits.{shift_limit}
use Rattle.model.specs.Roster.{Roster, listed}
use Rattle.model.specs.Instance.{Instance}
use Rattle.model.specs.Plans.{Plan, plans_of, same_plan, Verdict, strong, popular, beaten, vote_of, verdict_of}
use Rattle.model.specs.Reduction.{Fate, fix, strike, Step, steps_of, end_of}
use Rattle.model.specs.PlanFile.{Named, edges_in, plan_of}

-- "The diary is a lent list of step records: fate, surveyor, stand, rule", with "the shift after the stand" (W-204). Fate 1 is fix and 2
-- strike; the others are document 01's numbers, so the surveyor and the stand count from 1.
pub record Record : Type 0 where
  pub fate : ℕ
  pub surveyor : ℕ
  pub stand : ℕ
  pub shift : ℕ
  pub rule : ℕ

-- a fate's number in a record
abbrev pub fate_number : Fate → ℕ
fate_number fix = 1
fate_number strike = 2

-- a step's record: its fate and rule, and the surveyor, stand and shift of its edge
abbrev pub record_of : Instance → Step → Record
record_of G x = record {
  fate = fate_number x.fate;
  surveyor = suc (G.sv x.edge);
  stand = suc (G.st x.edge);
  shift = G.sh x.edge;
  rule = x.rule;
}

-- the diary: a record for each step, in their order
unfoldable pub diary_of : Instance → List Record
diary_of G = map (record_of G) (steps_of G)

-- "The diary names only pairs of the roster and each of them at most once"
-- a pair of the roster: surveyor i and stand j, whose numbers are one more, in a shift from 1 to 3
pub record PairOf (r : Roster) (p : Named) : Type 0 where
  pub i : ℕ
  pub j : ℕ
  pub pair : T (listed r i j p.shift)
  pub surveyor_is : p.surveyor ≡ suc i
  pub stand_is : p.stand ≡ suc j
  pub shift_from : 1 ≤ p.shift
  pub shift_in : p.shift ≤ shift_limit

-- the numbers of a record's pair
abbrev pub pair_in : Record → Named
pair_in x = record { surveyor = x.surveyor; stand = x.stand; shift = x.shift }

-- "those pairs, ascending as in a plan": the edges that remain when no rule acts
unfoldable pub left_of : Instance → List ℕ
left_of G = edges_in G.m (end_of G).rem

-- "the fixed pairs are the candidate"
unfoldable pub candidate_of : Instance → Plan
candidate_of G = plan_of G.m (end_of G).fixed

-- what holds of a rival of M that is not strong: a plan within the quotas other than M, against which M's vote is below zero if M is
-- beaten, zero if it is popular
pub record Rival (G : Instance) (M N : Plan) : Type 0 where
  pub in_quotas : N ∈ plans_of G
  pub other : T (not (same_plan M N))
  pub wins : verdict_of G M ≡ beaten → vote_of G M N <ℤ pos 0
  pub draws : verdict_of G M ≡ popular → vote_of G M N ≡ pos 0

-- what the finder finds: a plan, or none and why
pub data Found : Type 0 where
  plan : Plan → Found  -- the strongly popular plan
  left : List ℕ → Found  -- none: pairs remain
  rivalled : (candidate rival : Plan) → ℤ → Found  -- none: and the candidate's vote against the rival

-- "the finder hands back a plan"
abbrev pub hands_back : Found → Bool
hands_back (plan M) = true
hands_back (left es) = false
hands_back (rivalled F N v) = false

-- what is found where no pair remains, by the verdict on the candidate
abbrev pub found : Instance → (Plan → Plan) → Verdict → Found
found G rival_of strong = plan (candidate_of G)
found G rival_of popular = rivalled (candidate_of G) (rival_of (candidate_of G)) (vote_of G (candidate_of G) (rival_of (candidate_of G)))
found G rival_of beaten = rivalled (candidate_of G) (rival_of (candidate_of G)) (vote_of G (candidate_of G) (rival_of (candidate_of G)))

-- whether a list of edges is empty
abbrev pub is_empty : List ℕ → Bool
is_empty [] = true
is_empty (x ∷ xs) = false

-- "If pairs remain when no rule acts, the answer is none, left, with those pairs, ascending as in a plan. Otherwise the fixed pairs are the candidate: strong
-- gives the plan; else none, rivalled, with candidate, rival and the candidate's vote against it"
unfoldable pub finder_of : Instance → (Plan → Plan) → Found
finder_of G rival_of = elim (is_empty (left_of G)) as (λ b. Found) [ true ↦ found G rival_of (verdict_of G (candidate_of G)) | false ↦ left (left_of G) ]
