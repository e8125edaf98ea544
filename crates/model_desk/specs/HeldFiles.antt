-- What a desk holds, by the bytes that are loaded: "nothing loaded, a roster, or a roster and a plan", and a proposal beside a plan (W-207). Bytes that are
-- no roster are nothing loaded, and bytes that are no plan of the roster are no plan held.
use Rattle.std.specs.Prelude.{ℕ, List}
use Rattle.model.specs.Reading.{Reading, accepted, refused}
use Rattle.model.specs.Roster.{Roster}
use Rattle.model.specs.Edges.{instance_of}
use Rattle.model.specs.Plans.{Plan}
use Rattle.model.specs.PlanFile.{read_plan}
use Rattle.model_desk.specs.Desk.{Held, nothing, roster, planned, proposed}

-- for each case of the plan's reading, and of the roster's
abbrev pub held_plan : Roster → Reading Plan → Held
held_plan r (accepted M) = planned r M
held_plan r (refused n) = roster r

-- what is held, by a roster's reading and a plan's bytes
abbrev pub held : Reading Roster → (plan : List ℕ) → Held
held (accepted r) plan = held_plan r (read_plan (instance_of r) plan)
held (refused n) plan = nothing

-- a proposal counts only with a roster and a plan held
abbrev pub held_proposal : Roster → Plan → Reading Plan → Held
held_proposal r M (accepted N) = proposed r M N
held_proposal r M (refused n) = planned r M

-- the proposal's bytes beside what a roster and a plan are read to
abbrev pub beside : (proposal : List ℕ) → Held → Held
beside f nothing = nothing
beside f (roster r) = roster r
beside f (planned r M) = held_proposal r M (read_plan (instance_of r) f)
beside f (proposed r M N) = proposed r M N
