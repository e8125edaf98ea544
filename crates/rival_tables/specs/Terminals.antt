-- The least price of a start and an end together, from the least rates of what may be gained at each: nothing is gained at one or both of
-- them, which costs 3 there, or something is at both. Where nothing can be gained the rate stands for nothing gained.
use Rattle.std.specs.Prelude.{ℕ, ◌+◌, ◌≤◌, ◌<◌, min, ◌≡◌, cond, List}
use Rattle.std.proofs.Common.{arith, sym, ap, ◌∙◌}
use Rattle.lists.specs.Test.{by-eq}
use Rattle.arrays.specs.ArrayInstance.{at}
use Rattle.arrays.specs.Filled.{Made}
use Rattle.rival_tables.specs.Filled.{cell, Put}

-- starts: gained at the start apart from the end's node; stops: gained at the end apart from the start's node, by end and start; gs, gt: gained at the
-- start, at the end
abbrev pub terminal_at : (starts stops gs gt : List ℕ) → ℕ → ℕ → ℕ
terminal_at starts stops gs gt i j = min (min (cell starts i j) (cell stops j i) + 3) (at gs i + at gt j)

-- rates are small
pub record Rates (n : ℕ) (starts stops gs gt : List ℕ) : Type 0 where
  pub start : (i j : ℕ) → i < n → j < n → cell starts i j ≤ 3
  pub stop : (i j : ℕ) → i < n → j < n → cell stops i j ≤ 3
  pub both : (i j : ℕ) → i < n → j < n → at gs i + at gt j ≤ 12

-- the first k rows of n columns are f's
abbrev pub Part : List ℕ → ℕ → ℕ → (ℕ → ℕ → ℕ) → Type 0
Part t k n f = (i j : ℕ) → i < k → j < n → cell t i j ≡ f i j

pub part_next : (t row r : List ℕ) (f : ℕ → ℕ → ℕ) (n i : ℕ) → n ≤ 64 → Part t i n f → Made 0 row (f i) n → Put t row i r → Part r (i + 1) n f
part_next t row r f n i fits h m p a b al bl = by-eq a i
    (λ e s. p a b (omega arith) ∙ ap (λ x. cond x (at row b) (cell t a b)) s ∙ m b bl ∙ ap (λ z. f z b) (sym e))
    (λ d s. p a b (omega arith) ∙ ap (λ x. cond x (at row b) (cell t a b)) s ∙ h a b (omega arith) bl)
