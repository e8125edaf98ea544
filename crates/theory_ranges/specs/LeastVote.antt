-- W-211 for rosters: the choice that is named reaches the least vote, `least_holds`.
use Rattle.std.specs.Prelude.{ℕ, List}
use Rattle.model.specs.Roster.{Roster}
use Rattle.model.specs.Edges.{instance_of}
use Rattle.model.specs.Plans.{Plan, on}
use Rattle.model.specs.Ranges.{Range}
use Rattle.theory_ranges.specs.Worst.{worst_choice}

-- the choice that the calls name
abbrev pub choice_of : Roster → (M N : Plan) → List Range → List ℕ
choice_of r M N rs = worst_choice (instance_of r) (on M) (on N) rs
