-- What is promised of the arrays read from a file: their ranges, and that they show the instance of the roster that the file is.
use Rattle.std.specs.Prelude.{ℕ, ◌≤◌, ◌<◌, ◌≡◌, List}
use Rattle.model.specs.Limits.{node_limit, entry_limit, shift_limit}
use Rattle.model.specs.Reading.{accepted}
use Rattle.model.specs.Roster.{Roster}
use Rattle.model.specs.RosterFile.{read_roster}
use Rattle.model.specs.Edges.{instance_of}
use Rattle.model.specs.Instance as model
use Rattle.arrays.specs.ArrayInstance.{at, shown}
use Rattle.instance.specs.declared.Instance.{Instance}

-- the instance that the arrays show
abbrev pub shown_by : Instance → model.Instance
shown_by g = shown g.m g.ns g.nt g.sv g.st g.rank_s g.rank_t g.sh g.tied g.quota_s g.quota_t

-- arrays within the limits that show the roster's instance, where the file is read to a roster
pub record Decoded (file : List ℕ) (g : Instance) : Type 0 where
  pub edges : g.m ≤ entry_limit
  pub surveyors : g.ns ≤ node_limit
  pub stands : g.nt ≤ node_limit
  pub low_sv : (e : ℕ) → at g.sv e < 32
  pub low_st : (e : ℕ) → at g.st e < 32
  pub low_sh : (e : ℕ) → at g.sh e ≤ shift_limit
  pub shows : (r : Roster) → read_roster file ≡ accepted r → shown_by g ≡ instance_of r
