-- The verdict that the code gives is the search's, hence the model's (theory_verdict, Rival): by what was found below 0, or else below 1.
use Rattle.std.specs.Prelude.{ℕ, ◌≡◌, refl, Bool, true, false, List, Option, Some, None}
use Rattle.model.specs.Instance.{Instance}
use Rattle.model.specs.Plans.{Verdict, strong, popular, beaten}
use Rattle.theory_verdict.specs.Search.{judge}
use Rattle.rival_levels.specs.declared.Found.TheVariants as found
use Rattle.rival_levels.specs.declared.Found.{Found}
use Rattle.rival_levels.specs.Walks.{hit_of}
use Rattle.rival_search.specs.declared.Hunt.TheVariants as hunt
use Rattle.rival_search.specs.declared.Hunt.{Hunt}
use Rattle.rival_search.specs.TwoThresholds.{searched}
use Rattle.rival_verdict.specs.declared.Standing.TheVariants as standing
use Rattle.rival_verdict.specs.declared.Standing.{Standing}

-- how a plan stands by what was found
abbrev pub standing_of : Hunt → Standing
standing_of (hunt.Win f) = standing.Beaten
standing_of (hunt.Draw f) = standing.Popular
standing_of hunt.Nothing = standing.Strong

-- the verdict that this is
abbrev pub verdict_for : Standing → Verdict
verdict_for standing.Beaten = beaten
verdict_for standing.Popular = popular
verdict_for standing.Strong = strong

-- some other plan beats it
abbrev pub is_beaten : Standing → Bool
is_beaten standing.Beaten = true
is_beaten standing.Popular = false
is_beaten standing.Strong = false

pub verdict_hits : (G : Instance) (M : ℕ → Bool) (es : List ℕ) (a b : Option Found)
    → verdict_for (standing_of (searched a b)) ≡ judge (hit_of G M es a) (hit_of G M es b)
verdict_hits G M es None None = refl
verdict_hits G M es None (Some (found.Direct f)) = refl
verdict_hits G M es None (Some (found.Alone i)) = refl
verdict_hits G M es None (Some (found.Closed l i)) = refl
verdict_hits G M es None (Some (found.Open l i j)) = refl
verdict_hits G M es (Some (found.Direct f)) b = refl
verdict_hits G M es (Some (found.Alone i)) b = refl
verdict_hits G M es (Some (found.Closed l i)) b = refl
verdict_hits G M es (Some (found.Open l i j)) b = refl
