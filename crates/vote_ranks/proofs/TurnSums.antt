-- What a turn of each loop does. Assumes nothing.
use Prim.Native.Nat.{ℕ, ◌+◌, ◌-◌, ◌*◌, ◌≤◌, ◌<◌}
use native.Mathlib.Omega.{arith}
use native.Mathlib.Decide.{dec_lt}
use mathlib.Core.Path.{◌≡◌, refl, ap, ◌∙◌}
use mathlib.Core.Logic.{◌⊎◌, inl, inr, by_cases}
use mathlib.Core.List.{List}
use native.Mathlib.Numerals.{add-one}
use lib.ListN.{length, get_or, take, drop, length-take, length-drop, drop_of_length-le, get_or-append}
use lib.Seq.{drop-cons, get_or-drop, get_or-take, get_or-append-add}
use lib.Dec.{ltb, ltb→lt, nltb→le}
use Rattle.lists.specs.Test.{if-ind}
use Rattle.theory_votes.specs.Score.{rate}
use Rattle.theory_votes.specs.Sorted.{Sorted}
use Rattle.theory_votes.specs.Rotation.{against, turned, turned_length, cost}
use Rattle.theory_votes.specs.Least.{least_sum, turn_above, least_most}
use Rattle.theory_votes.proofs.Least.{turn_reached}
use Rattle.vote_ranks.specs.Turn.{wrap, turn_sum}

-- ---- what is left of a turn's sum from couple i on
unfoldable pub rest_sum : ℕ → ℕ → List ℕ → List ℕ → ℕ
rest_sum i j xs ys = cost (λ a. a) (against (drop i (turned j xs)) (drop i ys))

pub rest_start : (j : ℕ) (xs ys : List ℕ) → rest_sum 0 j xs ys ≡ turn_sum j xs ys
unfolding rest_sum turn_sum
rest_start j xs ys = refl

pub wrap_< : (k p : ℕ) → p < k + k → wrap k p < k
wrap_< k p h = if-ind (λ z. z < k) (ltb p k) (λ t. ltb→lt p k t) (λ t. omega (arith, nltb→le p k t))

module _ (a b : List ℕ) (k i j : ℕ) (la : k ≤ length a) (lb : k ≤ length b) (h : j ≤ k) where
  pub rest_end : k ≤ i → rest_sum i j (take k a) (take k b) ≡ 0
  unfolding rest_sum
  rest_end l =
      let e : length (turned j (take k a)) ≤ i = omega (arith, turned_length j (take k a), length-take k a) in rw (drop_of_length-le (turned j (take k a)) e)

  turned_at : i < k → get_or (turned j (take k a)) i 0 ≡ get_or a (wrap k (i + j)) 0
  turned_at l = if-ind (λ z. get_or (turned j (take k a)) i 0 ≡ get_or a z 0) (ltb (i + j) k) (λ t. front (ltb→lt (i + j) k t)) (λ t. back (nltb→le (i + j) k t))
    where
      size : length (drop j (take k a)) ≡ k - j
      size = omega (arith, length-drop j (take k a), length-take k a)

      front : i + j < k → get_or (turned j (take k a)) i 0 ≡ get_or a (i + j) 0
      front m =
          let e : j + i ≡ i + j = omega arith in
          get_or-append (drop j (take k a)) (take j (take k a)) 0 i (omega (arith, size)) ∙ get_or-drop j (take k a) i 0
          ∙ get_or-take k a (j + i) 0 (omega arith) ∙ ap (λ z. get_or a z 0) e

      back : k ≤ i + j → get_or (turned j (take k a)) i 0 ≡ get_or a (i + j - k) 0
      back m =
          let e : i ≡ length (drop j (take k a)) + (i + j - k) = omega (arith, size) in
          ap (λ z. get_or (turned j (take k a)) z 0) e ∙ get_or-append-add (drop j (take k a)) (take j (take k a)) (i + j - k) 0
          ∙ get_or-take j (take k a) (i + j - k) 0 (omega arith) ∙ get_or-take k a (i + j - k) 0 (omega arith)

  pub rest_step : i < k → rest_sum i j (take k a) (take k b) ≡ rate (get_or a (wrap k (i + j)) 0) (get_or b i 0) + rest_sum (i + 1) j (take k a) (take k b)
  unfolding rest_sum
  rest_step l =
      let u : i < length (turned j (take k a)) = omega (arith, turned_length j (take k a), length-take k a) in
      let v : i < length (take k b) = omega (arith, length-take k b) in
      rw (add-one, drop-cons (turned j (take k a)) i 0 u, drop-cons (take k b) i 0 v, turned_at l, get_or-take k b i 0 l)

-- ---- the least of all turns
module _ (a b : List ℕ) (k : ℕ) (la : k ≤ length a) (lb : k ≤ length b) where
  same : length (take k a) ≡ length (take k b)
  same = omega (arith, length-take k a, length-take k b)

  pub sum_above : (j : ℕ) → least_sum (take k a) (take k b) ≤ turn_sum j (take k a) (take k b)
  unfolding turn_sum
  sum_above j = turn_above (take k a) (take k b) same j

  pub sum_most : least_sum (take k a) (take k b) ≤ 2 * k
  sum_most = omega (arith, least_most (take k a) (take k b) same, length-take k a)

  -- what is no more than any turn's sum is no more than the least, if both lists are in order
  pub sum_reached : Sorted (λ x. x) (take k a) → Sorted (λ x. x) (take k b) → (l : ℕ) → l ≤ 2 * k
      → ((i : ℕ) → i < k → l ≤ turn_sum i (take k a) (take k b)) → l ≤ least_sum (take k a) (take k b)
  unfolding turn_sum
  sum_reached sa sb l h each = go (turn_reached (take k a) (take k b) same sa sb)
    where
      go : (i : ℕ) × ((i ≡ 0) ⊎ (i < length (take k a))) × (cost (λ a. a) (against (turned i (take k a)) (take k b)) ≤ least_sum (take k a) (take k b))
          → l ≤ least_sum (take k a) (take k b)
      go (i, inl e, q) = by_cases (dec_lt 0 k) (λ m. omega (arith, each i (omega arith))) (λ n. omega arith)
      go (i, inr e, q) = omega (arith, each i (omega (arith, length-take k a)))
