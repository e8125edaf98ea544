-- The buffers after a call, run by the checker, where each buffer has bytes of its own: what is written goes to the right one. In DeskCases the buffers are
-- alike.
use Rattle.std.specs.Prelude.{ℕ, ◌≡◌, refl, true, false, [], ◌∷◌, ◌++◌, pos, replicate}
use Rattle.std.proofs.Math.Option.{Option-elim, or_else}
use Rattle.lists.specs.Sum.{count}
use Rattle.lists.specs.Search.{low}
use Rattle.lists.specs.First as Fst
use Rattle.model.specs.Decimal.{bytes, numbers_from}
use Rattle.model.specs.Reading.{read_each}
use Rattle.model.specs.Roster.{Roster, listed}
use Rattle.model.specs.RosterFile.{write_roster_by}
use Rattle.model.specs.Edges.{position, edges_of, instance_of}
use Rattle.model.specs.Instance.{Instance, deg}
use Rattle.model.specs.Vote.{node_vote, vote}
use Rattle.model.specs.Plans.{Plan, on, vote_of, choices, within, plans_of, same_plan, beaten_by, drawn_with, verdict_of}
use Rattle.model.specs.Reduction as R
use Rattle.model.specs.PlanFile.{plan_bytes_by, plan_bytes, edge_of_pair, pair_bytes, read_plan_by}
use Rattle.model.specs.Finder as F
use Rattle.model.specs.Finder.{Record, diary_of, left_of, candidate_of, finder_of}
use Rattle.model_changes.specs.Changes.{joined, join_on, departed, leave_on}
use Rattle.model.specs.Facing.{facing, pairing_bytes}
use Rattle.model_desk.specs.Compare.{pairings_of}
use Rattle.model_desk.specs.Desk as D
use Rattle.model_desk.specs.Desk.{Choices, Call, finds, Lends, said, state_refusal, answer_of, lent_after}
use Rattle.model_desk.specs.DeskCases.{diary, early, sample, twice, one}

abbrev step : ℕ → ℕ → ℕ → ℕ → ℕ → Record
step f s t k r = record { fate = f; surveyor = s; stand = t; shift = k; rule = r }

-- the pairs left in 3s, the plan in 4s, the rival in 5s
abbrev lent : Lends → Call finds
lent call = call (diary 1024) (replicate 3072 3) (replicate 193 4) (replicate 193 5)

-- what is found goes to its buffer: a plan, the pairs left, a candidate with its rival
pub found_lent : (D.found_written D.find (instance_of sample) (F.plan (true ∷ false ∷ [])) (diary 1024) (replicate 3072 3) (replicate 193 4) (replicate 193 5)
    ≡ D.find (step 1 1 1 1 1 ∷ step 2 2 1 1 2 ∷ diary 1022) (replicate 3072 3) (bytes "1 1 1 1" ++ replicate 189 4) (replicate 193 5))
    × (D.found_written D.find (instance_of sample) (F.left (0 ∷ 1 ∷ [])) (diary 1024) (replicate 3072 3) (replicate 193 4) (replicate 193 5)
    ≡ D.find (step 1 1 1 1 1 ∷ step 2 2 1 1 2 ∷ diary 1022) (bytes "1 1 1 2 1 1" ++ replicate 3066 3) (replicate 193 4) (replicate 193 5))
    × (D.found_written D.find (instance_of sample) (F.rivalled (true ∷ false ∷ []) (false ∷ true ∷ []) (pos 0)) (diary 1024) (replicate 3072 3) (replicate 193 4)
    (replicate 193 5)
    ≡ D.find (step 1 1 1 1 1 ∷ step 2 2 1 1 2 ∷ diary 1022) (replicate 3072 3) (bytes "1 1 1 1" ++ replicate 189 4) (bytes "1 2 1 1" ++ replicate 189 5))
unfolding numbers_from count low listed position edges_of instance_of deg R.cut R.ahead R.arrow R.loose R.reserved R.better_s R.better_t R.worse_reserved R.rule1
    R.rule2 R.rule3 R.rule4 R.rule5 R.rule6 R.rule7 Fst.first Option-elim or_else R.rules R.step_by R.first_step R.act R.begin R.steps_from R.state_after R.steps_of
    R.end_of plan_bytes_by diary_of
found_lent = (refl, refl, refl)

-- a pair's bytes
pub pairs : (pair_bytes (instance_of sample) 1 ≡ bytes "2 1 1") × (pair_bytes (instance_of twice) 1 ≡ bytes "1 1 3")
unfolding numbers_from low listed position edges_of instance_of
pairs = (refl, refl)

-- calls that write nothing leave what they are lent; a change writes what the finder finds on the changed roster
pub kept : (ch : Choices) → (lent_after ch one (D.load_roster (bytes "1 9")) ≡ D.load_roster (bytes "1 9"))
    × (lent_after ch one (D.load_plan (bytes "0")) ≡ D.load_plan (bytes "0"))
    × (lent_after ch one (D.compare (bytes "0") (bytes "1") [] []) ≡ D.compare (bytes "0") (bytes "1") [] [])
    × (lent_after ch one D.blocking ≡ D.blocking) × (lent_after ch one (D.propose (bytes "0") [] []) ≡ D.propose (bytes "0") [] [])
    × (lent_after ch one D.commit ≡ D.commit)
unfolding state_refusal lent_after
kept ch = (refl, refl, refl, refl, refl, refl)

pub changed : (ch : Choices) → (lent_after ch one (lent (D.leave 1))
    ≡ D.leave 1 (step 1 2 1 1 1 ∷ diary 1023) (replicate 3072 3) (bytes "1 2 1 1" ++ replicate 189 4) (replicate 193 5))
    × (lent_after ch one (lent (D.join 1 (bytes "1 1 1"))) ≡ D.join 1 (bytes "1 1 1") (step 1 1 1 1 1 ∷ step 2 2 1 1 2 ∷ step 2 3 1 1 2 ∷ diary 1021)
    (replicate 3072 3) (bytes "1 1 1 1" ++ replicate 189 4) (replicate 193 5))
unfolding numbers_from count low listed read_each position edges_of instance_of deg node_vote vote choices within plans_of same_plan beaten_by drawn_with
    verdict_of R.cut R.ahead R.arrow R.loose R.reserved R.better_s R.better_t R.worse_reserved R.rule1 R.rule2 R.rule3 R.rule4 R.rule5 R.rule6 R.rule7
    Fst.first Option-elim or_else R.rules R.step_by R.first_step R.act R.begin R.steps_from R.state_after R.steps_of R.end_of plan_bytes_by diary_of left_of
    candidate_of finder_of joined join_on departed leave_on state_refusal lent_after
changed ch = (refl, refl)

-- W-208: the pairings of both votes, each in its buffer: of a comparison the first file's vote first, of a proposal its own
pub pairings_lent : (ch : Choices) → (lent_after ch one (D.compare (bytes "1 1 1 1") (bytes "1 2 1 1") (replicate 256 6) (replicate 256 8))
    ≡ D.compare (bytes "1 1 1 1") (bytes "1 2 1 1") (bytes "1 33 33 1 1 2" ++ replicate 250 6) (bytes "33 1 1 33 2 1" ++ replicate 250 8))
    × (lent_after ch one (D.propose (bytes "1 2 1 1") (replicate 256 6) (replicate 256 8))
    ≡ D.propose (bytes "1 2 1 1") (bytes "33 1 1 33 2 1" ++ replicate 250 6) (bytes "1 33 33 1 1 2" ++ replicate 250 8))
    × (lent_after ch one (D.propose (bytes "1 3 1 1") (replicate 256 6) (replicate 256 8)) ≡ D.propose (bytes "1 3 1 1") (replicate 256 6) (replicate 256 8))
unfolding numbers_from count low listed position edges_of instance_of deg node_vote edge_of_pair read_plan_by facing pairing_bytes pairings_of state_refusal lent_after
    read_each
pairings_lent ch = (refl, refl, refl)

-- a roster is written to the buffer that is lent
pub roster_lent : (ch : Choices) → lent_after ch one (D.write_roster_to (replicate 4262 3))
    ≡ D.write_roster_to (bytes "2 1 1 1 1 2 0 1 1 1 1 1 1 2 0 2 0 1 1 2 1" ++ replicate 4241 3)
unfolding numbers_from write_roster_by state_refusal lent_after
roster_lent ch = refl

-- P4, a tie of two: the candidate is rivalled. Whichever rival is named, the candidate's vote against it is answered, and it is written behind the candidate;
-- so it is for the verdict on that plan.
abbrev tie : Roster
tie = record {
  quotas_s = bytes "1 1";
  quotas_t = bytes "1";
  lists_s = early "1" ∷ early "1" ∷ [];
  lists_t = record { strict = []; tied = early "1 2" } ∷ [];
}

abbrev G : Instance
G = instance_of tie

abbrev candidate : Plan
candidate = true ∷ false ∷ []

pub rival_answered : (ch : Choices) → (answer_of ch (D.roster tie) (lent D.find) ≡ said (D.none 2 (D.rivalled (vote_of G candidate (ch.rival_of G candidate)))))
    × (answer_of ch (D.planned tie candidate) (D.judge (replicate 193 5) (replicate 256 6)) ≡ said (D.popular (vote_of G candidate (ch.rival_of G candidate))))
unfolding numbers_from count low listed position edges_of instance_of deg node_vote vote choices within plans_of same_plan beaten_by drawn_with
    verdict_of R.cut R.ahead R.arrow R.loose R.reserved R.better_s R.better_t R.worse_reserved R.rule1 R.rule2 R.rule3 R.rule4 R.rule5 R.rule6 R.rule7
    Fst.first Option-elim or_else R.rules R.step_by R.first_step R.act R.begin R.steps_from R.state_after R.steps_of R.end_of left_of
    candidate_of finder_of state_refusal answer_of
rival_answered ch = (refl, refl)

pub rival_lent : (ch : Choices) → (lent_after ch (D.roster tie) (lent D.find) ≡ D.find (step 1 1 1 1 6 ∷ step 2 2 1 1 2 ∷ diary 1022) (replicate 3072 3)
    (bytes "1 1 1 1" ++ replicate 189 4) (D.onto (plan_bytes G (ch.rival_of G candidate)) (replicate 193 5)))
    × (lent_after ch (D.planned tie candidate) (D.judge (replicate 193 5) (replicate 256 6)) ≡ D.judge
    (D.onto (plan_bytes G (ch.rival_of G candidate)) (replicate 193 5))
    (D.onto (pairing_bytes G (on candidate) (on (ch.rival_of G candidate))) (replicate 256 6)))
unfolding numbers_from count low listed position edges_of instance_of deg node_vote vote choices within plans_of same_plan beaten_by drawn_with
    verdict_of R.cut R.ahead R.arrow R.loose R.reserved R.better_s R.better_t R.worse_reserved R.rule1 R.rule2 R.rule3 R.rule4 R.rule5 R.rule6 R.rule7
    Fst.first Option-elim or_else R.rules R.step_by R.first_step R.act R.begin R.steps_from R.state_after R.steps_of R.end_of plan_bytes_by diary_of left_of
    candidate_of finder_of state_refusal lent_after
rival_lent ch = (refl, refl)
