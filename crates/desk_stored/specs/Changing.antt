-- Surveyors who join and leave (W-202): what a change makes of the desk's files. A change is a roster's reading made from the roster held; one set of
-- definitions serves joining and leaving.
use Rattle.std.specs.Prelude.{ℕ, ◌<◌, ◌≡◌, Bool, true, false, T}
use Rattle.model.specs.Reading.{Reading, accepted, refused}
use Rattle.model.specs.Roster.{Roster, fits}
use Rattle.model.specs.RosterFile.{read_roster, write_roster}
use Rattle.model.specs.Edges.{instance_of}
use Rattle.answers.specs.RefusalCases.{code_of}
use Rattle.desk_files.specs.declared.Files.{Files}
use Rattle.desk_stored.specs.declared.Change.{Change}
use Rattle.desk_files.specs.Held.{roster_bytes}
use Rattle.desk_stored.specs.Storing.{Unchanged, Made}

-- a change of the roster held
abbrev pub ToRoster : Type 0
ToRoster = Roster → Reading Roster

-- ---- what a change makes of the desk
-- by the model's reading of the change, of the roster held and the buffers' sizes
abbrev pub ChangedFor : Roster → Reading Roster → (number : ℕ) → Files → Change → Type 0
ChangedFor R (refused n) s d r = (0 < n) × Unchanged n d r
ChangedFor R (accepted H) s d r = (code_of r.answer ≡ 0) × Made (instance_of R) d s (write_roster H) r.files

-- 13 without a roster, 15 for short buffers, and then the change's own
abbrev pub ChangeFor : Reading Roster → (isShort : Bool) → ToRoster → (number : ℕ) → Files → Change → Type 0
ChangeFor (refused n) b change s d r = Unchanged 13 d r
ChangeFor (accepted R) true change s d r = Unchanged 15 d r
ChangeFor (accepted R) false change s d r = T (fits R) × (write_roster R ≡ roster_bytes d) × ChangedFor R (change R) s d r

-- of the roster that the desk's bytes are read to
abbrev pub ChangedTo : Files → (isShort : Bool) → ToRoster → (number : ℕ) → Change → Type 0
ChangedTo d b change s r = ChangeFor (read_roster (roster_bytes d)) b change s d r
