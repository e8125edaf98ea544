-- What the code writes of each part of a roster that a surveyor leaves.
use Rattle.std.specs.Prelude.{ℕ, ◌-◌, List, [], ◌∷◌, ◌++◌, take, drop, set}
use Rattle.model.specs.Roster.{Ranking}
use Rattle.model.specs.RosterFile.{shifted, ranking_bytes}
use Rattle.model_changes.specs.Changes.{without}
use Rattle.roster_positions.specs.Tables.{entries_in}

-- a stand's list without a number
abbrev pub left_by : ℕ → Ranking → Ranking
left_by s R = record { strict = without s R.strict; tied = without s R.tied }

-- its bytes, from those of its two parts
abbrev pub ranking_left : ℕ → (strict tied : List ℕ) → List ℕ
ranking_left s xs ys = ranking_bytes shifted (left_by s (record { strict = entries_in xs; tied = entries_in ys }))

abbrev pub nodes_left : List ℕ → ℕ → ℕ → List ℕ
nodes_left f n s = set (take n f) s 0

abbrev pub lists_left : List ℕ → (start mine next end : ℕ) → List ℕ
lists_left f start mine next end = (take (mine - start) (drop start f) ++ 0 ∷ []) ++ take (end - next) (drop next f)
