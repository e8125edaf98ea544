-- The edges of a plan listed: the pass over its flags.
use Rattle.std.specs.Prelude.{ℕ, ◌+◌, ◌≤◌, ◌<◌, ◌≡◌, Bool, true, cond, List, [], ◌∷◌, ◌++◌, map, length, take}
use Rattle.std.proofs.Common.{zero-le, arith, add-one, sym, ap, ◌∙◌, subst, length-append}
use mathlib.Core.List.Memᴰ
use Rattle.lists.specs.Sum.{◌∈◌, range, range_∈, ∈_range}
use Rattle.lists.specs.Keep.{keep, ∈_keep}
use Rattle.lists.specs.Ranges.{keep_last}
use Rattle.model.specs.Limits.{plan_limit}
use Rattle.model.specs.PlanFile.{edges_in}
use Rattle.arrays.specs.ArrayInstance.{at, flag}
use Rattle.arrays.specs.Kept.{Kept, keep_few, front_is}

-- the first n numbers of a list are the plan's edges, ascending
pub record Listed (m : ℕ) (p : List Bool) (n : ℕ) (es : List ℕ) : Type 0 where
  pub few : n ≤ plan_limit
  pub there : n ≤ length es
  pub are : take n es ≡ edges_in m (flag p)

-- the same number by number
pub lists_are : (m : ℕ) (p : List Bool) (n : ℕ) (es : List ℕ) → Listed m p n es → edges_in m (flag p) ≡ map (at es) (range 0 n)
lists_are m p n es l = sym l.are ∙ front_is es n l.there

-- each of them is an edge
pub listed_below : (m : ℕ) (p : List Bool) (n : ℕ) (es : List ℕ) → Listed m p n es → (i : ℕ) → i < n → at es i < m
listed_below m p n es l i h =
    let k : at es i ∈ edges_in m (flag p) = subst (λ xs. at es i ∈ xs) (sym (lists_are m p n es l)) (Memᴰ.map (at es) (range_∈ n 0 i zero-le (omega arith))) in
    let (r, t) = ∈_keep (flag p) (range 0 m) k in
    let (u, w) = ∈_range m 0 r in
    omega arith

module _ (p : List Bool) (front : List ℕ) (n e m : ℕ) (K : Kept (flag p) front n e) where
  -- one more is chosen below m, so there is room for it
  pub room_left : flag p e ≡ true → e < m → length (edges_in m (flag p)) ≤ plan_limit → n + 1 ≤ plan_limit
  room_left t h few = omega (
    arith,
    keep_few (flag p) (e + 1) m (omega arith),
    ap (λ k. length (keep (flag p) (range 0 k))) (add-one e) ∙ ap length (keep_last (flag p) e ∙ ap (λ b. keep (flag p) (range 0 e) ++ cond b (e ∷ []) []) t),
    length-append (keep (flag p) (range 0 e)) (e ∷ []),
    K.0,
  )

  pub all_listed : e ≡ m → length front ≡ plan_limit → length (edges_in m (flag p)) ≤ plan_limit → Listed m p n front
  all_listed q l few =
      let c : n ≡ length (edges_in m (flag p)) = K.0 ∙ ap (λ k. length (keep (flag p) (range 0 k))) q in
      record { few = omega arith; there = omega arith; are = K.1 ∙ ap (λ k. keep (flag p) (range 0 k)) q }
