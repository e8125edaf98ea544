-- The least of the numbers of a side: where they are the lowest edges that pass a test at each node, it is the lowest edge of all that passes.
use Rattle.std.specs.Prelude.{ℕ, ◌+◌, ◌≤◌, ◌<◌, min, ◌≡◌, refl, Bool, ◌&&◌, ◌||◌, List, T, eqb}
use Rattle.std.proofs.Common.{arith, eq-or-lt_of_le, sym, ◌∙◌, subst, ⊎_elim, T_not}
use Rattle.std.proofs.Math.Decide.{dec_lt, dec_le}
use Rattle.std.proofs.Math.Logic.{by_cases}
use Rattle.lists.specs.Test.{given, and_r, and_i, eq→eqb, or_l, or_r, or_case}
use Rattle.lists.specs.Search.{low, low_is}
use Rattle.model.specs.Limits.{node_limit}
use Rattle.theory_reduction.specs.ByNode.{lowest_at}
use Rattle.arrays.specs.ArrayInstance.{at}

-- the least of the first n numbers
pub record Least (xs : List ℕ) (n r : ℕ) : Type 0 where
  pub below : (v : ℕ) → v < n → r ≤ at xs v
  pub node : ℕ
  pub inside : node < n
  pub is : at xs node ≡ r

pub least_one : (xs : List ℕ) → Least xs 1 (at xs 0)
least_one xs = record {
  below = λ v h. let i : v ≡ 0 = omega arith in subst (λ u. at xs 0 ≤ at xs u) (sym i) (omega arith);
  node = 0;
  inside = omega arith;
  is = refl;
}

pub least_next : (xs : List ℕ) (n l r : ℕ) → Least xs n l → r ≡ min l (at xs n) → Least xs (n + 1) r
least_next xs n l r L i = by_cases (dec_le l (at xs n))
    (λ h. record { below = below; node = L.node; inside = omega (arith, L.inside); is = omega (arith, L.is) })
    (λ h. record { below = below; node = n; inside = omega arith; is = omega arith })
  where
    below : (v : ℕ) → v < n + 1 → r ≤ at xs v
    below v k = ⊎_elim (λ e. subst (λ u. r ≤ at xs u) (sym e) (omega arith)) (λ b. omega (arith, L.below v b))
        (let g : v ≤ n = omega arith in eq-or-lt_of_le g)

-- the lowest of all is not above one that passes
low_le : (p : ℕ → Bool) (m e : ℕ) → T (p e) → low p m ≤ e
low_le p m e t = by_cases (dec_lt e (low p m)) (λ h. absurd (T_not (p e) ((low_is p m).1 e h) t)) (λ h. omega arith)

pub least_lowest : (m : ℕ) (end : ℕ → ℕ) (test : ℕ → Bool) → ((e : ℕ) → e < m → end e < node_limit) → (xs : List ℕ) (r : ℕ)
    → ((v : ℕ) → v < node_limit → at xs v ≡ lowest_at m end test v) → Least xs node_limit r → r ≡ low test m
least_lowest m end test fit xs r N L =
    let x = low test m in
    let v = L.node in
    let q : r ≡ lowest_at m end test v = sym L.is ∙ N v L.inside in
    given (low_is (λ e. eqb (end e) v && test e) m) (λ (a, b, t).
    let y = lowest_at m end test v in
    let below : x ≤ y = by_cases (dec_lt y m)
    (λ l. low_le test m y (and_r (eqb (end y) v) (test y) (t l))) (λ n. omega (arith, (low_is test m).0)) in
    let above : r ≤ x = by_cases (dec_lt x m)
    (λ l. let w = fit x l in
    omega (
      arith,
      L.below (end x) w,
      N (end x) w,
      low_le (λ e. eqb (end e) (end x) && test e) m x (and_i (eqb (end x) (end x)) (test x) (eq→eqb (end x) (end x) refl) ((low_is test m).2 l)),
    ))
    (λ n. omega arith) in
    omega arith)

-- the lowest that passes either of two tests
pub low_either : (p q : ℕ → Bool) (m : ℕ) → low (λ e. p e || q e) m ≡ min (low p m) (low q m)
low_either p q m = given (low_is (λ e. p e || q e) m) (λ (a, b, t).
    let x = low (λ e. p e || q e) m in
    let up : (r : ℕ → Bool) → ((e : ℕ) → T (r e) → T (p e || q e)) → x ≤ low r m
    = (λ r h. by_cases (dec_lt (low r m) m)
    (λ l. low_le (λ e. p e || q e) m (low r m) (h (low r m) ((low_is r m).2 l))) (λ n. omega (arith, (low_is r m).0))) in
    let k : min (low p m) (low q m) ≤ x = by_cases (dec_lt x m)
    (λ l. ⊎_elim (λ s. omega (arith, low_le p m x s)) (λ s. omega (arith, low_le q m x s)) (or_case (p x) (q x) (t l)))
    (λ n. omega (arith, (low_is p m).0)) in
    omega (arith, up p (λ e s. or_l (p e) (q e) s), up q (λ e s. or_r (p e) (q e) s)))
