-- A table of costs, 64 added, that no arc makes lower: no walk of any layer costs less than it says. Nothing is asked of how the table was made.
use Rattle.std.specs.Prelude.{ℕ, zero, suc, ◌+◌, ◌*◌, ◌≤◌, ◌<◌, min, ◌≡◌, refl, true, List, ltb}
use Rattle.std.proofs.Common.{arith, ⊎_elim, nltb→le}
use Rattle.lists.specs.Search.{low_is}
use Rattle.arrays.specs.ArrayInstance.{at}
use Rattle.rival_tables.specs.Filled.{cell, Rows}
use Rattle.rival_tables.specs.Cheapest.{cheapest_at, cheapest_reach}
use Rattle.rival_levels.specs.Layers.{kept_price, onward, next_price, layer_at}
use Rattle.rival_levels.specs.Levels.{lowered_at, changed_at}

-- no cost is above 127 or above that of an arc, and none becomes lower by an arc before it
pub record Closed (arcs d : List ℕ) (n : ℕ) : Type 0 where
  pub first : (i j : ℕ) → i < n → j < 64 → cell d i j ≤ min (cell arcs i j) 65 + 62
  pub next : (i y j : ℕ) → i < n → y < n → j < n → cell d i j + 2 ≤ cell arcs i y + cell d y j

-- the next layer e of the table is nowhere below it
pub closed_is : (arcs d e : List ℕ) (n c : ℕ) → n ≤ 64 → ((c : ℕ) → c < n * 64 → at d c ≤ min (at arcs c) 65 + 62)
    → Rows e n (next_price arcs d n) → c ≡ changed_at (cell d) (cell e) n → n ≤ c → Closed arcs d n
unfolding next_price
closed_is arcs d e n c few f r q h = record {
  first = λ i j il jl. f (i * 64 + j) (omega arith);
  next = λ i y j il yl jl.
      let w : n ≤ lowered_at (cell d) (cell e) n i = nltb→le (lowered_at (cell d) (cell e) n i) n
      ((low_is (λ i. ltb (lowered_at (cell d) (cell e) n i) n) n).1 i (omega arith)) in
      let k : kept_price (cell d i j) ≤ cell e i j = nltb→le (cell e i j) (kept_price (cell d i j))
      ((low_is (λ j. ltb (cell e i j) (kept_price (cell d i j))) n).1 j (omega arith)) in
      omega (
        arith,
        f (i * 64 + j) (omega arith),
        r i j il (omega arith),
        cheapest_at (λ y. true) (onward arcs d i j) (kept_price (cell d i j)) 0 n y (omega arith) (omega arith) refl,
      );
}

-- its entries are as small as prices
pub closed_small : (arcs d : List ℕ) (n : ℕ) → Closed arcs d n → (i j : ℕ) → i < n → j < 64 → cell d i j ≤ 133
closed_small arcs d n C i j h g = omega (arith, C.first i j h g)

-- no layer is below the table
pub at_least : (arcs d : List ℕ) (n : ℕ) → n ≤ 64 → Closed arcs d n → (l i j : ℕ) → i < n → j < n → min 197 (cell d i j + 2 * suc l) ≤ layer_at arcs n l i j + 64
unfolding layer_at
at_least arcs d n few C zero i j h g = omega (arith, C.first i j h (omega arith))
at_least arcs d n few C (suc l) i j h g = ⊎_elim
    (λ e. omega (arith, e, at_least arcs d n few C l i j h g))
    (λ (y, a, b, t, e). omega (arith, e, C.next i y j h (omega arith) g, at_least arcs d n few C l y j (omega arith) g))
    (cheapest_reach (λ y. true) (λ y. cell arcs i y + layer_at arcs n l y j) (kept_price (layer_at arcs n l i j)) 0 n)
