-- The layers of least prices as tables of 64 columns, and the places that their tests find. Walks are those of the search (search,
-- Search.antt); here edges are places in the plan's list, and the prices of the arcs are a table.
use Rattle.std.specs.Prelude.{ℕ, zero, suc, ◌+◌, ◌-◌, ◌≤◌, ◌<◌, min, ◌≡◌, refl, true, List, length}
use native.Mathlib.Omega.{arith}
use Rattle.std.proofs.Common.{sym, ◌∙◌}
use Rattle.std.proofs.Math.Path.{ap}
use Rattle.arrays.specs.ArrayInstance.{at}
use Rattle.arrays.specs.Filled.{Made}
use Rattle.rival_tables.specs.Filled.{cell, Rows}
use Rattle.rival_tables.specs.Cheapest.{cheapest, cheapest_turn, cheapest_end, cheapest_cong, cheapest_≤}

-- a price that is counted with one arc more
abbrev pub kept_price : ℕ → ℕ
kept_price c = min 133 (c + 2)

-- no price is above 133; an arc costs at most 4, or there is none
abbrev pub Small : ℕ → List ℕ → Type 0
Small n d = (i j : ℕ) → i < n → j < 64 → cell d i j ≤ 133

-- an arc costs at most 4, or there is none
abbrev pub Cheap : ℕ → List ℕ → Type 0
Cheap n arcs = (i j : ℕ) → i < n → j < 64 → cell arcs i j < 133 → cell arcs i j ≤ 4

-- ---- a layer from the one before; while the places from y on are still to come
abbrev pub onward : (arcs d : List ℕ) → ℕ → ℕ → ℕ → ℕ
onward arcs d i j y = cell arcs i y + cell d y j

-- the price of the next layer
unfoldable pub next_price : (arcs d : List ℕ) → ℕ → ℕ → ℕ → ℕ
next_price arcs d n i j = cheapest (λ y. true) (onward arcs d i j) (kept_price (cell d i j)) 0 n

-- the same while the places from y on are still to come, v held
unfoldable pub next_rest : (arcs d : List ℕ) → ℕ → ℕ → ℕ → ℕ → ℕ → ℕ
next_rest arcs d n i j v y = cheapest (λ y. true) (onward arcs d i j) v y (n - y)

module _ (arcs d : List ℕ) (n i j : ℕ) where
  -- at the start all places are to come
  pub next_start : next_rest arcs d n i j (kept_price (cell d i j)) 0 ≡ next_price arcs d n i j
  unfolding next_rest next_price
  next_start = let e : n - 0 ≡ n = omega arith in ap (cheapest (λ y. true) (onward arcs d i j) (kept_price (cell d i j)) 0) e

  -- at the end what is held is the price
  pub next_end : (v y : ℕ) → n ≤ y → next_rest arcs d n i j v y ≡ v
  unfolding next_rest
  next_end v y h = cheapest_end (λ y. true) (onward arcs d i j) v y n h

  -- one place
  pub next_turn : (v y : ℕ) → y < n → next_rest arcs d n i j v y ≡ next_rest arcs d n i j (min (cell arcs i y + cell d y j) v) (y + 1)
  unfolding next_rest
  next_turn v y h = cheapest_turn (λ y. true) (onward arcs d i j) v y n h

  -- where there is no arc, nothing is gained
  pub next_past : (v y : ℕ) → y < n → 133 ≤ cell arcs i y → v ≤ 133 → next_rest arcs d n i j v y ≡ next_rest arcs d n i j v (y + 1)
  next_past v y h k l = let e : min (cell arcs i y + cell d y j) v ≡ v = omega arith in next_turn v y h ∙ ap (λ w. next_rest arcs d n i j w (y + 1)) e

  -- no price is above 133
  pub next_≤ : next_price arcs d n i j ≤ 133
  unfolding next_price
  next_≤ = omega (arith, cheapest_≤ (λ y. true) (onward arcs d i j) (kept_price (cell d i j)) 0 n)

-- ---- row i of a layer in the making: the places from y on are still to come
pub record Lowered (arcs d : List ℕ) (n i : ℕ) (o : List ℕ) (y : ℕ) : Type 0 where
  pub whole : length o ≡ 64
  pub small : (j : ℕ) → j < 64 → at o j ≤ 133
  pub rest : (j : ℕ) → j < 64 → next_rest arcs d n i j (at o j) y ≡ next_price arcs d n i j

module _ {arcs d : List ℕ} {n i : ℕ} where
  -- it starts with what the layer before has, counted with one arc more
  pub lowered_start : (o : List ℕ) → length o ≡ 64 → Made 0 o (λ j. kept_price (cell d i j)) 64 → Lowered arcs d n i o 0
  lowered_start o l e = record {
    whole = l;
    small = λ j h. omega (arith, e j h);
    rest = λ j h. ap (λ v. next_rest arcs d n i j v 0) (e j h) ∙ next_start arcs d n i j;
  }

  module _ {o : List ℕ} {y : ℕ} (L : Lowered arcs d n i o y) where
    -- the arc to place y is taken where it is less
    pub lowered_turn : (r : List ℕ) → y < n → (length r ≡ 64) × Made 0 r (λ j. min (cell arcs i y + cell d y j) (at o j)) 64 → Lowered arcs d n i r (y + 1)
    lowered_turn r h (l, e) = record {
      whole = l;
      small = λ j k. omega (arith, e j k, L.small j k);
      rest = λ j k. ap (λ v. next_rest arcs d n i j v (y + 1)) (e j k) ∙ sym (next_turn arcs d n i j (at o j) y h) ∙ L.rest j k;
    }

    -- there is no arc to place y
    pub lowered_past : y < n → 133 ≤ cell arcs i y → Lowered arcs d n i o (y + 1)
    lowered_past h k = record {
      whole = L.whole;
      small = L.small;
      rest = λ j l. sym (next_past arcs d n i j (at o j) y h k (L.small j l)) ∙ L.rest j l;
    }

    -- no place is to come
    pub lowered_end : n ≤ y → Made 0 o (next_price arcs d n i) 64
    lowered_end h j k = sym (next_end arcs d n i j (at o j) y h) ∙ L.rest j k

-- ---- the layers
unfoldable pub layer_at : List ℕ → ℕ → ℕ → ℕ → ℕ → ℕ
layer_at arcs n zero i j = cell arcs i j
layer_at arcs n (suc k) i j = cheapest (λ y. true) (λ y. cell arcs i y + layer_at arcs n k y j) (kept_price (layer_at arcs n k i j)) 0 n

-- the first layer is the table of the arcs
pub layer_first : (arcs : List ℕ) (n : ℕ) → Rows arcs n (layer_at arcs n 0)
unfolding layer_at
layer_first arcs n i j h k = refl

-- a table of next prices shows the next layer
pub layer_next : (arcs d e : List ℕ) (n k : ℕ) → Rows d n (layer_at arcs n k) → Rows e n (next_price arcs d n) → Rows e n (layer_at arcs n (suc k))
unfolding layer_at next_price
layer_next arcs d e n k h g i j l m =
    g i j l m
    ∙ ap (λ c. cheapest (λ y. true) (onward arcs d i j) (kept_price c) 0 n) (h i j l m)
    ∙ cheapest_cong (λ y. true) (λ y. true) (onward arcs d i j) (λ y. cell arcs i y + layer_at arcs n k y j) (kept_price (layer_at arcs n k i j)) 0 n
    (λ y p q. refl) (λ y p q. ap (λ c. cell arcs i y + c) (h y j (omega arith) m))
