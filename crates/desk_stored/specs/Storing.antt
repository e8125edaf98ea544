-- A changed roster stored (W-202): what it makes of the desk's files, and what a refusal leaves.
use Rattle.std.specs.Prelude.{ℕ, ◌≡◌, List, [], take, Result}
use Rattle.std.specs.declared.result.Result.TheVariants.{Ok, Err}
use Rattle.lists.specs.Sum.{◌∈◌}
use Rattle.model.specs.Reading.{Reading, accepted, refused}
use Rattle.model.specs.Roster.{Roster}
use Rattle.model.specs.RosterFile.{read_roster}
use Rattle.model.specs.Edges.{instance_of}
use Rattle.model.specs.Instance.{Instance}
use Rattle.model.specs.Plans.{Plan, plans_of}
use Rattle.model.specs.PlanFile as plans
use Rattle.model.specs.PlanFile.{read_plan}
use Rattle.theory_files.specs.Carried.{besides}
use Rattle.answers.specs.declared.Refusal.{Refusal}
use Rattle.answers.specs.RefusalCases.{number_of, code_of}
use Rattle.roster_parts.specs.declared.RosterBytes.{RosterBytes}
use Rattle.desk_files.specs.declared.Files.{Files}
use Rattle.desk_stored.specs.declared.Change.{Change}
use Rattle.desk_files.specs.Held.{roster_bytes, plan_bytes, proposal_bytes}

-- a refusal leaves the files
abbrev pub Unchanged : ℕ → Files → Change → Type 0
Unchanged n d r = (code_of r.answer ≡ n) × (r.files ≡ d)

-- the bytes of the plan held, which is within the quotas, less the pairs of a number; none where no plan is held
abbrev pub LessOf : Instance → (number : ℕ) → Reading Plan → List ℕ → Type 0
LessOf G s (accepted M) bytes = (M ∈ plans_of G) × (bytes ≡ plans.plan_bytes G (besides G M s))
LessOf G s (refused n) bytes = bytes ≡ []

-- the same of the files, with the roster that is held
abbrev pub LessHeld : Files → (number : ℕ) → List ℕ → Type 0
LessHeld d s bytes = (R : Roster) → read_roster (roster_bytes d) ≡ accepted R → LessOf (instance_of R) s (read_plan (instance_of R) (plan_bytes d)) bytes

-- a roster and the plan with it, and the proposal's bytes as they were
abbrev pub StoredFor : Instance → (before : Files) → (number : ℕ) → (roster : List ℕ) → (after : Files) → Type 0
StoredFor G d s roster d' = (roster_bytes d' ≡ roster) × LessOf G s (read_plan G (plan_bytes d)) (plan_bytes d') × (proposal_bytes d' ≡ proposal_bytes d)

-- with the roster that is held
abbrev pub StoredAs : (before : Files) → (number : ℕ) → (roster : List ℕ) → (after : Files) → Type 0
StoredAs d s roster d' = (R : Roster) → read_roster (roster_bytes d) ≡ accepted R → StoredFor (instance_of R) d s roster d'

-- W-207: the proposal's bytes stay where the roster's are what they were, else they are gone
abbrev pub Open : (old new proposal : List ℕ) → (after : List ℕ) → Type 0
Open old new f f' = (old ≡ new → f' ≡ f) × ((old ≡ new → ⊥) → f' ≡ [])

abbrev pub ClosedFor : (before stored after : Files) → Type 0
ClosedFor d k d' = (roster_bytes d' ≡ roster_bytes k) × (plan_bytes d' ≡ plan_bytes k) × Open (roster_bytes d) (roster_bytes k) (proposal_bytes k) (proposal_bytes d')

-- a change that is taken: the roster's bytes, the plan less the leaver's pairs, the proposal open or closed
pub record Made (G : Instance) (d : Files) (s : ℕ) (roster : List ℕ) (d' : Files) : Type 0 where
  pub bytes : roster_bytes d' ≡ roster
  pub plan : LessOf G s (read_plan G (plan_bytes d)) (plan_bytes d')
  pub proposal : Open (roster_bytes d) roster (proposal_bytes d) (proposal_bytes d')

-- by the answer of the change's bytes
abbrev pub TakenFor : (G : Instance) (d : Files) (s : ℕ) (c : Result RosterBytes Refusal) (r : Change) → Type 0
TakenFor G d s (Err n) r = Unchanged (number_of n) d r
TakenFor G d s (Ok b) r = (code_of r.answer ≡ 0) × Made G d s (take b.len b.roster) r.files

abbrev pub Taken : (d : Files) (s : ℕ) (c : Result RosterBytes Refusal) (r : Change) → Type 0
Taken d s c r = (R : Roster) → read_roster (roster_bytes d) ≡ accepted R → TakenFor (instance_of R) d s c r
