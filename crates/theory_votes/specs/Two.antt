-- The two greatest of the numbers d 0, .., d (n - 1), by what holds of them.
use Rattle.std.specs.Prelude.{ℕ, zero, suc, ◌+◌, ◌-◌, ◌≤◌, ◌<◌, min, max, ◌≡◌}
use Rattle.std.proofs.Common.{zero-le, arith, not-suc-le-zero, le_of_suc-le-suc, eq-or-lt_of_le, ap, ⊎_elim}

module _ (d : ℕ → ℕ) where
  pub record Two (n : ℕ) : Type 0 where
    pub first : ℕ
    pub second : ℕ
    pub order : second ≤ first
    -- no number is above the first, no two are above the second
    pub each : (x : ℕ) → x < n → d x ≤ first
    pub pair : (x y : ℕ) → x < y → y < n → min (d x) (d y) ≤ second
    -- what is not below any number is not below the first; what is not below the sum of any two is not below the sum of both
    pub most : (c : ℕ) → ((x : ℕ) → x < n → d x ≤ c) → first ≤ c
    pub both : (c : ℕ) → ((x : ℕ) → x < n → d x ≤ c) → ((x y : ℕ) → x < y → y < n → d x + d y ≤ c) → first + second ≤ c

  step : (n : ℕ) → Two n → Two (suc n)
  step n t = record {
    first = max t.first (d n);
    second = max t.second (min t.first (d n));
    order = omega (arith, t.order);
    each = λ x h. ⊎_elim (λ e. omega (arith, ap d e)) (λ k. omega (arith, t.each x k)) (eq-or-lt_of_le (le_of_suc-le-suc h));
    pair = λ x y l h. ⊎_elim (λ e. omega (arith, ap d e, t.each x (omega arith))) (λ k. omega (arith, t.pair x y l k)) (eq-or-lt_of_le (le_of_suc-le-suc h));
    most = λ c h. omega (arith, h n (omega arith), t.most c (λ x k. h x (omega arith)));
    both = λ c h p. omega (
      arith,
      h n (omega arith),
      t.most (c - d n) (λ x k. omega (arith, p x n k (omega arith))),
      t.both c (λ x k. h x (omega arith)) (λ x y l k. p x y l (omega arith)),
    );
  }

  pub two : (n : ℕ) → Two n
  two zero = record {
    first = 0;
    second = 0;
    order = zero-le;
    each = λ x h. absurd (not-suc-le-zero h);
    pair = λ x y l h. absurd (not-suc-le-zero h);
    most = λ c h. zero-le;
    both = λ c h p. omega arith;
  }
  two (suc n) = step n (two n)

-- the same numbers, the same sum
pub both_≤ : (d e : ℕ → ℕ) (n : ℕ) (t : Two d n) (u : Two e n) → ((x : ℕ) → x < n → d x ≡ e x) → t.first + t.second ≤ u.first + u.second
both_≤ d e n t u h = t.both (u.first + u.second)
    (λ x k. omega (arith, h x k, u.each x k))
    (λ x y l k. omega (arith, h x (omega arith), h y k, u.each x (omega arith), u.each y k, u.pair x y l k))
