-- Nothing of less than n arcs costs less than k: what the search finds out level by level (Levels), and what the votes then follow
-- from (Cutting). What a walk, an alternating path and its cost are is in AlternatingPath and LemmaW.
use Rattle.std.specs.Prelude.{ℕ, Bool}
use Rattle.model.specs.Instance.{Instance}
use Rattle.theory_verdict.specs.Ends.{Way}
use Rattle.theory_verdict.specs.LemmaW.{NoDirect, CostAtLeastTo, PathCostAtLeastTo}

abbrev pub PathsCostAtLeast : Instance → (ℕ → Bool) → ℕ → ℕ → Type 0
PathsCostAtLeast G M k n = (a b : Way) → PathCostAtLeastTo G M k a b n

pub record CostAtLeastBelow (G : Instance) (M : ℕ → Bool) (k n : ℕ) : Type 0 where
  pub direct : NoDirect G M
  pub loops : CostAtLeastTo G M k n
  pub paths : PathsCostAtLeast G M k n
