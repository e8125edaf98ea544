-- Walks one after the other, and a walk taken apart; their votes add up.
use Rattle.std.specs.Prelude.{ℕ, ◌+◌, ◌≡◌, refl, Bool, [], ◌∷◌, ◌++◌}
use Rattle.std.proofs.Common.{arith, sym, ap, subst}
use Rattle.model.specs.Instance.{Instance}
use Rattle.theory_instance.specs.Walk.{Steps, Walk, plus, minus}

module _ (G : Instance) (M : ℕ → Bool) where
  -- two walks along M, the second from the edge where the first ends, make one walk
  pub walk_append : (x y z : ℕ) (v w : Steps) → Walk G M x v y → Walk G M y w z → Walk G M x (v ++ w) z
  walk_append x y z [] w a b = subst (λ u. Walk G M u w z) (sym a) b
  walk_append x y z ((f, u) ∷ v) w a b = (a.0, walk_append u y z v w a.1 b)

  -- a walk of two parts taken apart: the first leads to some edge from which the second goes on
  pub walk_split : (x z : ℕ) (v w : Steps) → Walk G M x (v ++ w) z → (y : ℕ) × Walk G M x v y × Walk G M y w z
  walk_split x z [] w a = (x, refl, a)
  walk_split x z ((f, u) ∷ v) w a = let t = walk_split u z v w a.1 in (t.0, (a.0, t.1), t.2)

  -- the votes for M along a walk of two parts are those of the parts, added
  pub plus_append : (x y : ℕ) (v w : Steps) → Walk G M x v y → plus G x (v ++ w) ≡ plus G x v + plus G y w
  plus_append x y [] w a = omega (arith, ap (λ u. plus G u w) a)
  plus_append x y ((f, u) ∷ v) w a = omega (arith, plus_append u y v w a.1)

  -- the votes against M along a walk of two parts are those of the parts, added
  pub minus_append : (x y : ℕ) (v w : Steps) → Walk G M x v y → minus G x (v ++ w) ≡ minus G x v + minus G y w
  minus_append x y [] w a = omega (arith, ap (λ u. minus G u w) a)
  minus_append x y ((f, u) ∷ v) w a = omega (arith, minus_append u y v w a.1)
