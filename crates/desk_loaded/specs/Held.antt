-- The state's refusal of a call by what is held, "13, 14, 15 come first, in that order", for calls that need a roster and perhaps a plan.
use Rattle.std.specs.Prelude.{ℕ, ◌≡◌, refl, Bool, false, cond, ◌&&◌}
use Rattle.model.specs.Reading.{Reading, accepted, refused}
use Rattle.model.specs.Roster.{Roster}
use Rattle.model.specs.Plans.{Plan}
use Rattle.model_desk.specs.Desk.{Held, no_roster, no_plan}
use Rattle.model_desk.specs.HeldFiles.{held_plan}

-- the state's refusal of a call that needs a roster, and perhaps a plan; 0 for none
abbrev pub state_number : Held → (plan short : Bool) → ℕ
state_number h plan short = cond (no_roster h) 13 (cond (plan && no_plan h) 14 (cond short 15 0))

-- where no plan is needed, it is no matter what is read
pub unneeded : (r : Roster) (y : Reading Plan) (short : Bool) → cond short 15 0 ≡ state_number (held_plan r y) false short
unneeded r (accepted M) short = refl
unneeded r (refused n) short = refl
