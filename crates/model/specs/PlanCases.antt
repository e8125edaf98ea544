-- Plan files with the refusal that each meets, 0 for none, against two rosters, the second with one surveyor and one stand in several shifts, run
-- by the checker: 1, 2, 9, 10, 11 and 12, each at least twice, and files with two faults, which show the order: at each pair 1, 10, 11, 12, then 9.
use Rattle.std.specs.Prelude.{ℕ, ◌≡◌, refl, Bool, true, List, [], ◌∷◌, eqb}
use Prim.Native.String.{String}
use Rattle.lists.specs.Keep.{all?}
use Rattle.lists.specs.Search.{low}
use Rattle.model.specs.Decimal.{bytes, numbers_from}
use Rattle.model.specs.Reading.{Reading, accepted, refused, read_each}
use Rattle.model.specs.Roster.{Roster, listed, listed_back, both_or_neither}
use Rattle.model.specs.RosterFile.{read_roster_by, read_roster}
use Rattle.model.specs.Edges.{position, edges_of, instance_of}
use Rattle.model.specs.PlanFile.{edge_of_pair, read_plan_by, read_plan}
use Rattle.model.specs.RosterCases.{refusal_in}

-- three surveyors of quotas 1, 1 and 2, three stands of quota 1; every pair but surveyor 3 with stand 3, in shift 1
abbrev roster : List ℕ
roster = bytes "3 1 1 2 3 1 1 1 8 0 3 1 1 2 1 3 1 3 2 1 3 1 1 1 2 2 1 1 1 8 0 3 0 1 1 2 1 3 1 3 0 2 1 1 1 3 1 2 0 1 1 2 1"

-- two surveyors and two stands of quotas 2 and 1; surveyor 1 with stand 1 in all shifts and with stand 2 in shift 2, surveyor 2 with stand 1 in
-- shift 1
abbrev shared : List ℕ
shared = bytes "2 2 1 2 2 1 5 0 4 1 3 1 1 2 2 1 2 1 1 1 5 0 1 3 1 1 1 2 1 3 2 1 1 0 1 2"

-- a plan file that is read against a roster; a roster that is refused is no case
abbrev pub meets_on : Reading Roster → List ℕ → ℕ → Bool
meets_on (accepted r) file n = eqb (refusal_in (read_plan (instance_of r) file)) n
meets_on (refused k) file n = eqb 0 1

abbrev refusals : List (String × ℕ)
refusals =
    -- 1: no byte; "a plan pair, with its shift is one field": a pair cut at each byte, whatever its numbers, and behind one that is in order
    ("", 1) ∷ ("1", 1) ∷ ("1 1", 1) ∷ ("1 1 1", 1) ∷ ("1 9", 1) ∷ ("1 3 3", 1) ∷ ("2 1 1 1", 1) ∷ ("2 1 1 1 2", 1) ∷ ("2 1 1 1 2 1", 1)
    -- 2: a count above 64, whatever follows
    ∷ ("65", 2) ∷ ("255 1 1 1", 2)
    -- "10 a plan pair not in the roster": numbers 0 and out of range too; before 1 at a later pair, before 11 and 12
    ∷ ("1 3 3 1", 10) ∷ ("1 0 1 1", 10) ∷ ("1 1 0 1", 10) ∷ ("1 4 1 1", 10) ∷ ("2 3 3 1", 10) ∷ ("2 3 1 1 3 3 1", 10) ∷ ("2 2 1 1 1 4 1", 10)
    -- a shift that the roster lacks is one of those, and so is one "outside 1 to 3 (.., in a plan it meets 10)"
    ∷ ("1 1 1 2", 10) ∷ ("1 1 1 3", 10) ∷ ("1 1 1 0", 10) ∷ ("1 1 1 4", 10) ∷ ("1 1 1 255", 10)
    -- "11 plan pairs not strictly ascending": by surveyor, then by stand; a doubled pair; before 12
    ∷ ("2 2 1 1 1 2 1", 11) ∷ ("2 3 2 1 3 1 1", 11) ∷ ("2 1 1 1 1 1 1", 11) ∷ ("2 1 2 1 1 1 1", 11)
    -- "12 a pair that takes a node past its quota": its surveyor, its stand; before 9
    ∷ ("2 1 1 1 1 2 1", 12) ∷ ("2 1 1 1 2 1 1", 12) ∷ ("2 1 1 1 1 2 1 5", 12)
    -- 9: bytes after the end
    ∷ ("0 7", 9) ∷ ("1 1 1 1 9", 9)
    -- accepted
    ∷ ("0", 0) ∷ ("1 3 1 1", 0) ∷ ("2 3 1 1 3 2 1", 0) ∷ ("3 1 3 1 2 1 1 3 2 1", 0) ∷ []

pub plan_refusals : all? (λ (c : String × ℕ). meets_on (read_roster roster) (bytes c.0) c.1) refusals ≡ true
unfolding numbers_from low listed listed_back both_or_neither read_each read_roster_by position edges_of instance_of edge_of_pair read_plan_by
plan_refusals = refl

-- W-204: "one surveyor and one stand in two shifts are two pairs"
abbrev parallel : List (String × ℕ)
parallel =
    -- accepted: each shift alone, two of them, one beside another stand, another surveyor
    ("1 1 1 1", 0) ∷ ("1 1 1 3", 0) ∷ ("2 1 1 1 1 1 2", 0) ∷ ("2 1 1 1 1 1 3", 0) ∷ ("2 1 1 2 1 1 3", 0) ∷ ("2 1 1 3 1 2 2", 0) ∷ ("2 1 1 3 2 1 1", 0)
    ∷ ("3 1 1 3 1 2 2 2 1 1", 0)
    -- 10 by the shift alone, before 11 and 12
    ∷ ("1 1 1 0", 10) ∷ ("1 1 1 4", 10) ∷ ("1 1 2 1", 10) ∷ ("1 2 1 3", 10) ∷ ("2 1 1 3 1 1 0", 10) ∷ ("3 1 1 1 1 1 3 1 1 4", 10)
    -- "ascending means by surveyor, stand, shift": 11 by the shift alone, and by the stand before it; a doubled pair; before 12
    ∷ ("2 1 1 3 1 1 1", 11) ∷ ("2 1 1 2 1 1 2", 11) ∷ ("2 1 2 2 1 1 3", 11) ∷ ("2 2 1 1 1 1 3", 11) ∷ ("3 1 1 1 1 1 3 1 1 2", 11)
    -- each counts: 12 at the surveyor, at the stand; before 9
    ∷ ("3 1 1 1 1 1 2 1 1 3", 12) ∷ ("3 1 1 1 1 1 3 1 2 2", 12) ∷ ("3 1 1 1 1 1 3 2 1 1", 12) ∷ ("3 1 1 1 1 1 2 1 1 3 9", 12)
    -- 9
    ∷ ("1 1 1 3 1", 9) ∷ ("2 1 1 1 1 1 3 0", 9) ∷ []

pub parallel_refusals : all? (λ (c : String × ℕ). meets_on (read_roster shared) (bytes c.0) c.1) parallel ≡ true
unfolding numbers_from low listed listed_back both_or_neither read_each read_roster_by position edges_of instance_of edge_of_pair read_plan_by
parallel_refusals = refl
