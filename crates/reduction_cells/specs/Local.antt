-- What the cells of a node say of a set depends on the set's edges at that node alone.
use Prim.Native.Nat.{ℕ, zero, suc, ◌+◌, ◌-◌, ◌≤◌, ◌<◌}
use Rattle.std.proofs.Common.{arith, sym, ap, ◌∙◌, le-ltb}
use Rattle.std.proofs.Math.Decide.{dec_lt}
use Rattle.std.specs.Prelude.{◌≡◌, Bool, false, cond, ◌&&◌, List, ltb, leb}
use Rattle.std.proofs.Math.Path.{refl, ap₂}
use Rattle.std.proofs.Math.Logic.{by_cases}
use Rattle.lists.specs.Test.{bit}
use Rattle.lists.specs.Search.{low_cong}
use Rattle.model.specs.Limits.{node_limit, empty_rank}
use Rattle.arrays.specs.ArrayInstance.{at}
use Rattle.reduction_cells.specs.Cells.{Owned, in_cell, edge_in, passed, bar_of, best_of, worst_of}

-- two sets have the same edges at a node
abbrev pub Agree : (m : ℕ) (end : List ℕ) (v : ℕ) (p q : ℕ → Bool) → Type 0
Agree m end v p q = (e : ℕ) → e < m → at end e ≡ v → p e ≡ q e

module _ (m : ℕ) (end cell : List ℕ) (O : Owned m end cell) (v : ℕ) (w : v < node_limit) (p q : ℕ → Bool) (A : Agree m end v p q) where
  in_local : (r : ℕ) → r < empty_rank → edge_in m p (in_cell cell v r) ≡ edge_in m q (in_cell cell v r)
  in_local r h = let e = in_cell cell v r in by_cases (dec_lt e m)
      (λ l. ap (λ b. ltb e m && b) (A e l (O v r w h l)))
      (λ n. let f : ltb e m ≡ false = le-ltb e m (omega arith) in ap (λ b. b && p e) f ∙ sym (ap (λ b. b && q e) f))

  pub passed_local : (r : ℕ) → r ≤ empty_rank → passed m cell p v r ≡ passed m cell q v r
  unfolding passed
  passed_local zero h = refl
  passed_local (suc r) h = ap₂ (λ (a b : ℕ). a + b) (passed_local r (omega arith)) (ap bit (in_local r (omega arith)))

  -- the same bar
  pub bar_local : (k : ℕ) → bar_of m cell p v k ≡ bar_of m cell q v k
  bar_local k = low_cong (λ r. leb k (passed m cell p v r)) (λ r. leb k (passed m cell q v r)) empty_rank
      (λ r h. ap (leb k) (passed_local r (omega arith)))

  -- the same best edge
  pub best_local : best_of m cell p v ≡ best_of m cell q v
  best_local = ap (λ r. cond (ltb r empty_rank) (in_cell cell v r) m)
      (low_cong (λ r. edge_in m p (in_cell cell v r)) (λ r. edge_in m q (in_cell cell v r)) empty_rank in_local)

  -- the same worst edge
  pub worst_local : worst_of m cell p v ≡ worst_of m cell q v
  worst_local = ap (λ k. cond (ltb k empty_rank) (in_cell cell v (32 - k)) m)
      (low_cong (λ k. edge_in m p (in_cell cell v (32 - k))) (λ k. edge_in m q (in_cell cell v (32 - k))) empty_rank (λ k h. in_local (32 - k) (omega arith)))
