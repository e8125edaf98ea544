-- Walks with a bound on their cost: what the proofs about a plan use in place of lists of arcs. Only the definition of a walk and
-- of its votes (theory_instance, Walk) is to be believed.
use Rattle.std.specs.Prelude.{ℕ, ◌+◌, ◌≤◌, refl, Bool, [], ◌∷◌, ◌++◌, length}
use Rattle.std.proofs.Common.{zero-le, arith, length-append}
use Rattle.model.specs.Instance.{Instance}
use Rattle.theory_instance.specs.Append.{walk_append, plus_append, minus_append}
use Rattle.theory_instance.specs.Walk.{up, Steps, Arc, Walk, plus, minus}

module _ (G : Instance) (M : ℕ → Bool) where
  -- a walk of at least n arcs that costs at most a - b
  pub record Reach (n x y a b : ℕ) : Type 0 where
    pub steps : Steps
    pub walk : Walk G M x steps y
    pub long : n ≤ length steps
    pub cost : plus G x steps + b ≤ minus G x steps + a

module _ {G : Instance} {M : ℕ → Bool} where
  pub stay : (x : ℕ) → Reach G M 0 x x 0 0
  stay x = record { steps = []; walk = refl; long = zero-le; cost = zero-le }

  pub arc : (x f z a b : ℕ) → Arc G M x f z
      → up (G.rank_t x) (G.rank_t f) + up (G.rank_s z) (G.rank_s f) + b ≤ up (G.rank_t f) (G.rank_t x) + up (G.rank_s f) (G.rank_s z) + a → Reach G M 1 x z a b
  arc x f z a b c h = record { steps = (f, z) ∷ []; walk = (c, refl); long = omega arith; cost = omega arith }

  pub join : {n k x y z a b c d : ℕ} → Reach G M n x y a b → Reach G M k y z c d → Reach G M (n + k) x z (a + c) (b + d)
  join {n} {k} {x} {y} {z} r s = record {
    steps = r.steps ++ s.steps;
    walk = walk_append G M x y z r.steps s.steps r.walk s.walk;
    long = omega (arith, length-append r.steps s.steps);
    cost = omega (arith, plus_append G M x y r.steps s.steps r.walk, minus_append G M x y r.steps s.steps r.walk);
  }

  -- fewer arcs, a weaker bound
  pub loosen : {n x y a b : ℕ} (k c d : ℕ) → Reach G M n x y a b → k ≤ n → a + d ≤ c + b → Reach G M k x y c d
  loosen k c d r h i = record { steps = r.steps; walk = r.walk; long = omega arith; cost = omega arith }
