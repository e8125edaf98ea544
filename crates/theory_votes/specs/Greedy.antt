-- The smallest list of rank pairs that reaches the least sum (W-208): from the best own rank on, each takes the smallest other rank with
-- which the rest can still reach it. Why: in any list in order the first pair has the best own rank, and its other rank is one that
-- the rest can do without; so the choice made first is not greater, and if it is the same, what is left is the same problem.
use Rattle.std.specs.Prelude.{ℕ, ◌+◌, ◌≤◌, ◌<◌, refl, Bool, cond, List, [], ◌∷◌, map, length, T, eqb, leb}
use Rattle.std.proofs.Common.{arith, sym, ap, subst, le→leb}
use mathlib.Core.List.Memᴰ
use Rattle.lists.specs.Test.{bit, eqb_yes}
use Rattle.lists.specs.Sum.{◌∈◌, sum_mem, ∈_occ}
use Rattle.lists.specs.Keep.{picks, picks_sum}
use Rattle.lists.specs.Least.{least_of_≤, least_of_∈}
use Rattle.theory_votes.specs.Score.{rate}
use Rattle.theory_votes.specs.Sorted.{Sorted}
use Rattle.theory_votes.specs.Least.{least_sum}

abbrev own : ℕ → ℕ
own a = a

-- the first that passes; (0, []) if none does
abbrev pub pick_first : (ℕ × List ℕ → Bool) → List (ℕ × List ℕ) → ℕ × List ℕ
pick_first t [] = (0, [])
pick_first t (p ∷ ps) = cond (t p) p (pick_first t ps)

abbrev front : ℕ × List ℕ → ℕ
front p = p.0

-- picks of a list in order are in order, and so is what each leaves
pub pick_∈ : (ys : List ℕ) (p : ℕ × List ℕ) → p ∈ picks ys → p.0 ∈ ys
pick_∈ [] p m = absurd (Memᴰ.not-nil m)
pick_∈ (y ∷ ys) p (Memᴰ.head e) = Memᴰ.head (ap front e)
pick_∈ (y ∷ ys) p (Memᴰ.tail m) = let (q, k, e) = Memᴰ.of_map (λ q. (q.0, y ∷ q.1)) (picks ys) m in Memᴰ.tail
    (subst (λ z. z ∈ ys) (ap front e) (pick_∈ ys q k))

pub rest_∈ : (ys : List ℕ) (p : ℕ × List ℕ) → p ∈ picks ys → (z : ℕ) → z ∈ p.1 → z ∈ ys
rest_∈ ys p m z k = ∈_occ z ys (omega (arith, picks_sum (λ a. bit (eqb a z)) ys p m, sum_mem (λ a. bit (eqb a z)) k, ap bit (eqb_yes z z refl)))

-- what a pick leaves of a list in order is in order
pub rest_sorted : (ys : List ℕ) → Sorted own ys → (p : ℕ × List ℕ) → p ∈ picks ys → Sorted own p.1
rest_sorted [] s p m = absurd (Memᴰ.not-nil m)
rest_sorted (y ∷ ys) s p (Memᴰ.head e) = subst (λ q. Sorted own q.1) (sym e) s.1
rest_sorted (y ∷ ys) s p (Memᴰ.tail m) =
    let (q, k, e) = Memᴰ.of_map (λ q. (q.0, y ∷ q.1)) (picks ys) m in
    subst (λ q. Sorted own q.1) e ((λ z h. s.0 z (rest_∈ ys q k z h)), rest_sorted ys s.1 q k)

-- the rest can still reach the least sum
abbrev pub can : ℕ → List ℕ → List ℕ → ℕ × List ℕ → Bool
can x xs ys p = leb (rate x p.0 + least_sum xs p.1) (least_sum (x ∷ xs) ys)

-- the pairs, and what is left of the right
unfoldable pub greedy : List ℕ → List ℕ → List (ℕ × ℕ)
greedy [] ys = []
greedy (x ∷ xs) ys = (x, (pick_first (can x xs ys) (picks ys)).0) ∷ greedy xs (pick_first (can x xs ys) (picks ys)).1

abbrev val : ℕ → List ℕ → ℕ × List ℕ → ℕ
val x xs p = rate x p.0 + least_sum xs p.1

-- some pick can
pub some_can : (x : ℕ) (xs ys : List ℕ) → 0 < length ys → (q : ℕ × List ℕ) × (q ∈ picks ys) × T (can x xs ys q)
unfolding least_sum
some_can x xs [] l = absurd (omega arith)
some_can x xs (y ∷ ys) l =
    let (q, m, e) = Memᴰ.of_map (val x xs) (picks (y ∷ ys)) (least_of_∈ (map (val x xs) (picks (y ∷ ys))) (Memᴰ.map (val x xs) first)) in
    (q, m, le→leb (val x xs q) (least_sum (x ∷ xs) (y ∷ ys)) (omega arith))
  where
    first : ◌∈◌ {A = ℕ × List ℕ} (y, ys) (picks (y ∷ ys))
    first = Memᴰ.head refl

pub least_pick : (x : ℕ) (xs ys : List ℕ) (p : ℕ × List ℕ) → p ∈ picks ys → least_sum (x ∷ xs) ys ≤ rate x p.0 + least_sum xs p.1
unfolding least_sum
least_pick x xs ys p m = least_of_≤ (map (val x xs) (picks ys)) (val x xs p) (Memᴰ.map (val x xs) m)
