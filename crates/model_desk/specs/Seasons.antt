-- Old season files: request W-205 of document 02. Rosters and plans without shifts turned into files with them, and back: the bytes of the
-- other file, or the refusal.
use Rattle.std.specs.Prelude.{ℕ, Bool, cond, List, eqb}
use Rattle.lists.specs.Keep.{all?}
use Rattle.model.specs.Reading.{Reading, accepted, refused}
use Rattle.model.specs.Roster.{Entry, Roster}
use Rattle.model.specs.RosterFile.{plain, read_roster_by, read_roster, write_roster_by, write_roster}
use Rattle.model.specs.Instance.{Instance}
use Rattle.model.specs.Plans.{Plan, on}
use Rattle.model.specs.PlanFile.{plain_pair, edges_in, plan_bytes_by, plan_bytes, read_plan_by, read_plan}

-- ---- rosters
abbrev pub is_first : Entry → Bool
is_first x = eqb x.shift 1

-- "a new file with only shift 1": a pair stands in both lists or in neither, with its shift, so that the surveyors' lists settle it
abbrev pub only_first : Roster → Bool
only_first r = all? (λ xs. all? is_first xs) r.lists_s

-- the new file of a roster that was read, or the refusal
abbrev pub new_roster : Reading Roster → Reading (List ℕ)
new_roster (accepted r) = accepted (write_roster r)
new_roster (refused n) = refused n

-- "An old file becomes a new one with shift 1 throughout"; "an old roster keeps the list limit from before W-204"
unfoldable pub to_new : List ℕ → Reading (List ℕ)
to_new file = new_roster (read_roster_by plain file)

-- "It refuses, on the way back, a valid file with another shift (19, after all of document 01's checks)."
abbrev pub old_roster : Reading Roster → Reading (List ℕ)
old_roster (accepted r) = cond (only_first r) (accepted (write_roster_by plain r)) (refused 19)
old_roster (refused n) = refused n

-- "a new file with only shift 1 goes back to the identical old bytes"
unfoldable pub to_old : List ℕ → Reading (List ℕ)
to_old file = old_roster (read_roster file)

-- ---- "This holds for rosters and plans"; "a plan, an old one with shift 1, is judged against the held roster"
abbrev pub only_first_pairs : Instance → Plan → Bool
only_first_pairs G M = all? (λ e. eqb (G.sh e) 1) (edges_in G.m (on M))

-- the new file of a plan that was read, or the refusal
abbrev pub new_plan : Instance → Reading Plan → Reading (List ℕ)
new_plan G (accepted M) = accepted (plan_bytes G M)
new_plan G (refused n) = refused n

-- an old plan file, judged against an instance, as a new one
unfoldable pub plan_to_new : Instance → List ℕ → Reading (List ℕ)
plan_to_new G file = new_plan G (read_plan_by plain_pair G file)

-- the old file of a plan that was read, 19 if a pair of it has another shift than 1; or the refusal
abbrev pub old_plan : Instance → Reading Plan → Reading (List ℕ)
old_plan G (accepted M) = cond (only_first_pairs G M) (accepted (plan_bytes_by plain_pair G M)) (refused 19)
old_plan G (refused n) = refused n

-- a new plan file, judged against an instance, as an old one
unfoldable pub plan_to_old : Instance → List ℕ → Reading (List ℕ)
plan_to_old G file = old_plan G (read_plan G file)
