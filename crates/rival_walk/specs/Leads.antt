-- One column of the layers: how the least walk from a place to the column's place leads off, and the column level by level in one table. A place of
-- the plan's list is led to, or n stands for "as in the layer before".
use Rattle.std.specs.Prelude.{ℕ, zero, suc, ◌+◌, ◌-◌, ◌≤◌, ◌<◌, min, ◌≡◌, Bool, true, false, List, ltb}
use native.Mathlib.Omega.{arith}
use Rattle.std.proofs.Math.Path.{sym, ap}
use Rattle.std.proofs.Common.{◌∙◌, lt-ltb, le-ltb}
use Rattle.std.proofs.Math.Bool.{cond}
use Rattle.lists.specs.Test.{by-eq}
use Rattle.lists.specs.Sum.{◌∈◌, range, ∈_range}
use Rattle.lists.specs.Keep.{keep, ∈_keep}
use Rattle.lists.specs.First.{best}
use Rattle.arrays.specs.ArrayInstance.{at}
use Rattle.arrays.specs.Filled.{Made}
use Rattle.rival_tables.specs.Filled.{cell, Put}
use Rattle.rival_tables.specs.Cheapest.{cheapest, cheapest_turn, cheapest_end, cheapest_≤, best_keep}
use Rattle.rival_tables.specs.Best.{best_turn, best_end, best_start, best_cong}
use Rattle.rival_levels.specs.Layers.{kept_price, Small, layer_at}

-- an arc to y and the column c from there; the least of these, if it is below what is kept
abbrev pub bid_at : List ℕ → (ℕ → ℕ) → ℕ → ℕ → ℕ × ℕ
bid_at arcs c i y = (cell arcs i y + c y, y)

unfoldable pub lead_at : List ℕ → ℕ → (ℕ → ℕ) → ℕ → ℕ × ℕ
lead_at arcs n c i = best (bid_at arcs c i) (kept_price (c i), n) (keep (λ y. true) (range 0 n))

-- while the places from y on are still to come
unfoldable pub lead_rest : List ℕ → ℕ → (ℕ → ℕ) → ℕ → ℕ × ℕ → ℕ → ℕ × ℕ
lead_rest arcs n c i held y = best (bid_at arcs c i) held (keep (λ y. true) (range y (n - y)))

module _ (arcs : List ℕ) (n : ℕ) (c : ℕ → ℕ) (i : ℕ) where
  pub lead_start : {v : ℕ} → v ≡ kept_price (c i) → lead_rest arcs n c i (v, n) 0 ≡ lead_at arcs n c i
  unfolding lead_rest lead_at
  lead_start e = ap (λ v. lead_rest arcs n c i (v, n) 0) e ∙ best_start (bid_at arcs c i) (λ y. true) (kept_price (c i), n) n

  pub lead_end : (held : ℕ × ℕ) (y : ℕ) → n ≤ y → lead_rest arcs n c i held y ≡ held
  unfolding lead_rest
  lead_end held y h = best_end (bid_at arcs c i) (λ y. true) held y n h

  turn : (b : Bool) (v p y : ℕ) → y < n → ltb (cell arcs i y + c y) v ≡ b
      → lead_rest arcs n c i (v, p) y ≡ lead_rest arcs n c i (cond b (bid_at arcs c i y) (v, p)) (y + 1)
  unfolding lead_rest
  turn b v p y h e =
      best_turn (bid_at arcs c i) (λ y. true) (v, p) y n h
      ∙ ap (λ (b : Bool). best (bid_at arcs c i) (cond b (bid_at arcs c i y) (v, p)) (keep (λ y. true) (range (y + 1) (n - (y + 1))))) e

  pub lead_lower : (v p y : ℕ) → y < n → cell arcs i y + c y < v → lead_rest arcs n c i (v, p) y ≡ lead_rest arcs n c i (bid_at arcs c i y) (y + 1)
  lead_lower v p y h l = turn true v p y h (lt-ltb (cell arcs i y + c y) v l)

  pub lead_same : (v p y : ℕ) → y < n → v ≤ cell arcs i y + c y → lead_rest arcs n c i (v, p) y ≡ lead_rest arcs n c i (v, p) (y + 1)
  lead_same v p y h l = turn false v p y h (le-ltb (cell arcs i y + c y) v l)

-- the price alone, while the places from y on are still to come
unfoldable pub price_rest : List ℕ → ℕ → (ℕ → ℕ) → ℕ → ℕ → ℕ → ℕ
price_rest arcs n c i v y = cheapest (λ y. true) (λ y. cell arcs i y + c y) v y (n - y)

module _ (arcs : List ℕ) (n : ℕ) (c : ℕ → ℕ) (i : ℕ) where
  pub price_start : {v : ℕ} → v ≡ kept_price (c i) → price_rest arcs n c i v 0 ≡ (lead_at arcs n c i).0
  unfolding price_rest lead_at
  price_start e =
      let z : n - 0 ≡ n = omega arith in
      ap (λ v. price_rest arcs n c i v 0) e ∙ ap (cheapest (λ y. true) (λ y. cell arcs i y + c y) (kept_price (c i)) 0) z ∙ sym
      (best_keep (bid_at arcs c i) (λ y. true) (kept_price (c i), n) 0 n)

  pub price_end : (v y : ℕ) → n ≤ y → price_rest arcs n c i v y ≡ v
  unfolding price_rest
  price_end v y h = cheapest_end (λ y. true) (λ y. cell arcs i y + c y) v y n h

  pub price_turn : (v w y : ℕ) → y < n → w ≡ min (cell arcs i y + c y) v → price_rest arcs n c i w (y + 1) ≡ price_rest arcs n c i v y
  unfolding price_rest
  price_turn v w y h e =
      ap (λ v. cheapest (λ y. true) (λ y. cell arcs i y + c y) v (y + 1) (n - (y + 1))) e
      ∙ sym (cheapest_turn (λ y. true) (λ y. cell arcs i y + c y) v y n h)

pub lead_cong : (arcs : List ℕ) (n : ℕ) (c d : ℕ → ℕ) (i : ℕ) → i < n → ((y : ℕ) → y < n → c y ≡ d y) → lead_at arcs n c i ≡ lead_at arcs n d i
unfolding lead_at
lead_cong arcs n c d i h e =
    best_cong (bid_at arcs c i) (bid_at arcs d i) (kept_price (c i), n) (keep (λ y. true) (range 0 n)) (λ y m. ap (λ p. (cell arcs i y + p, y)) (e y (low y m)))
    ∙ ap (λ p. best (bid_at arcs d i) (kept_price p, n) (keep (λ y. true) (range 0 n))) (e i h)
  where
    low : (y : ℕ) → y ∈ keep (λ y. true) (range 0 n) → y < n
    low y m = let (r, t) = ∈_keep (λ y. true) (range 0 n) m in let (u, w) = ∈_range n 0 r in omega arith

-- its price is the next layer's
lead_price : (arcs : List ℕ) (n k i j : ℕ) → (lead_at arcs n (λ y. layer_at arcs n k y j) i).0 ≡ layer_at arcs n (suc k) i j
unfolding lead_at layer_at
lead_price arcs n k i j = best_keep (bid_at arcs (λ y. layer_at arcs n k y j) i) (λ y. true) (kept_price (layer_at arcs n k i j), n) 0 n

pub layer_small : (arcs : List ℕ) (n k i j : ℕ) → Small n arcs → i < n → j < 64 → layer_at arcs n k i j ≤ 133
unfolding layer_at
layer_small arcs n zero i j s il jl = s i j il jl
layer_small arcs n (suc k) i j s il jl =
    omega (arith, cheapest_≤ (λ y. true) (λ y. cell arcs i y + layer_at arcs n k y j) (kept_price (layer_at arcs n k i j)) 0 n)

-- ---- the table: row k is column j of layer k, for the layers up to l
abbrev pub Column : (arcs : List ℕ) → ℕ → ℕ → ℕ → List ℕ → Type 0
Column arcs n j l t = (k i : ℕ) → k ≤ l → i < n → cell t k i ≡ layer_at arcs n k i j

module _ (arcs : List ℕ) (n j : ℕ) (fits : n ≤ 64) (t row r : List ℕ) where
  pub column_first : Made 0 row (λ i. cell arcs i j) n → Put t row 0 r → Column arcs n j 0 r
  unfolding layer_at
  column_first m p k i h il = by-eq k 0
      (λ e q. p k i (omega arith) ∙ ap (λ b. cond b (at row i) (cell t k i)) q ∙ m i il ∙ ap (λ z. layer_at arcs n z i j) (sym e))
      (λ q b. absurd (q (omega arith)))

  pub column_next : (l : ℕ) → Column arcs n j l t → Made 0 row (λ i. (lead_at arcs n (cell t l) i).0) n → Put t row (l + 1) r → Column arcs n j (l + 1) r
  column_next l c m p k i h il = by-eq k (l + 1)
      (λ e q. p k i (omega arith) ∙ ap (λ b. cond b (at row i) (cell t k i)) q ∙ m i il
      ∙ ap (λ a. a.0) (lead_cong arcs n (cell t l) (λ y. layer_at arcs n l y j) i il (λ y yl. c l y (omega arith) yl)) ∙ lead_price arcs n l i j
      ∙ ap (λ z. layer_at arcs n z i j) (next e))
      (λ q b. p k i (omega arith) ∙ ap (λ b. cond b (at row i) (cell t k i)) b ∙ c k i (omega arith) il)
    where
      next : k ≡ l + 1 → suc l ≡ k
      next e = omega arith
