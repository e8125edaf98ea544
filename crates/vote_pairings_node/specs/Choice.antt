-- A list without one of its places, and the rank that is chosen to face the first of some others.
use Rattle.std.specs.Prelude.{ℕ, zero, suc, ◌+◌, ◌-◌, ◌≤◌, ◌<◌, ◌≡◌, refl, Bool, true, cond, List, [], ◌∷◌, ◌++◌, map, length, get_or, take, drop}
use Rattle.std.proofs.Common.{arith, sym, ap, ap₂, ◌∙◌, length-drop, take-take, take-add, drop-cons, drop_at, length-take-le}
use Rattle.std.proofs.lemmas.List.{length-map, take-append-le}
use Rattle.std.proofs.Math.Seq.{take-append-add}
use Rattle.lists.specs.Test.{T_true}
use Rattle.lists.specs.Keep.{picks}
use Rattle.lists.specs.Ranges.{map_at}
use Rattle.model.specs.Limits.{empty_rank}
use Rattle.theory_votes.specs.Score.{rate}
use Rattle.theory_votes.specs.Sorted.{Sorted}
use Rattle.theory_votes.specs.Least.{least_sum}
use Rattle.theory_votes.specs.Greedy.{pick_first, can, greedy}
use Rattle.theory_votes.proofs.Greedy.{chosen_least, best_can}

-- a list without its place j
abbrev pub left : ℕ → List ℕ → List ℕ
left j ys = take j ys ++ drop (suc j) ys

-- the same of an array, with an empty place last
unfoldable pub moved : ℕ → List ℕ → List ℕ
moved j a = take j a ++ (drop (suc j) a ++ empty_rank ∷ [])

-- what the first of xs faces, and what is left: the choice that `greedy` makes
unfoldable pub choice : List ℕ → List ℕ → ℕ × List ℕ
choice [] ys = (0, [])
choice (x ∷ xs) ys = pick_first (can x xs ys) (picks ys)

pub greedy_choice : (x : ℕ) (xs ys : List ℕ) (p : ℕ × List ℕ) → choice (x ∷ xs) ys ≡ p → greedy (x ∷ xs) ys ≡ (x, p.0) ∷ greedy xs p.1
unfolding greedy choice
greedy_choice x xs ys p e = ap (λ q. (x, q.0) ∷ greedy xs q.1) e

-- what it faces, and the rest, make up the least sum
pub choice_least : (x : ℕ) (xs ys : List ℕ) (p : ℕ × List ℕ) → 0 < length ys → choice (x ∷ xs) ys ≡ p
    → least_sum (x ∷ xs) ys ≡ rate x p.0 + least_sum xs p.1
unfolding choice
choice_least x xs ys p l e = chosen_least x xs ys l ∙ ap (λ q. rate x q.0 + least_sum xs q.1) e

-- an other rank better than all own ones is faced untried
pub choice_best : (x : ℕ) (xs ys : List ℕ) → Sorted (λ z. z) (x ∷ xs) → length ys ≡ suc (length xs) → get_or ys 0 0 < x
    → choice (x ∷ xs) ys ≡ (get_or ys 0 0, left 0 ys)
unfolding choice
choice_best x xs [] s l h = absurd (omega arith)
choice_best x xs (y ∷ ys) s l h = ap (λ (b : Bool). cond b (y, ys) (pick_first (can x xs (y ∷ ys)) (map (λ p. (p.0, y ∷ p.1)) (picks ys)))) passes
  where
    passes : can x xs (y ∷ ys) (y, ys) ≡ true
    passes = T_true (best_can x xs s y ys (omega arith) h)

-- ---- the front of an array without a place
pub moved_front : (a : List ℕ) (j k : ℕ) → j ≤ k → k < length a → take k (moved j a) ≡ left j (take (suc k) a)
unfolding moved
moved_front a j k h l =
    ap (λ n. take n (take j a ++ (drop (suc j) a ++ empty_rank ∷ []))) split
    ∙ take-append-add (take j a) (drop (suc j) a ++ empty_rank ∷ []) (k - j)
    ∙ ap (λ z. take j a ++ z) (take-append-le (k - j) (drop (suc j) a) (empty_rank ∷ []) (omega (arith, length-drop (suc j) a)))
    ∙ ap₂ ◌++◌ (sym (take-take j (suc k) a (omega arith))) (sym behind)
  where
    split : k ≡ length (take j a) + (k - j)
    split = omega (arith, length-take-le j a (omega arith))

    parts : suc k ≡ suc j + (k - j)
    parts = omega arith

    behind : drop (suc j) (take (suc k) a) ≡ take (k - j) (drop (suc j) a)
    behind = ap (λ n. drop (suc j) (take n a)) parts ∙ ap (drop (suc j)) (take-add (suc j) (k - j) a)
        ∙ drop_at (take (suc j) a) (take (k - j) (drop (suc j) a)) (suc j) (length-take-le (suc j) a (omega arith))

-- ---- the picks of a list, by their places
-- a pick of the list behind y
abbrev back : ℕ → ℕ × List ℕ → ℕ × List ℕ
back y q = (q.0, y ∷ q.1)

pub picks_length : (ys : List ℕ) → length (picks ys) ≡ length ys
picks_length [] = refl
picks_length (y ∷ ys) = ap suc (length-map (picks ys) (back y) ∙ picks_length ys)

pub pick_at : (ys : List ℕ) (j : ℕ) (d : ℕ × List ℕ) → j < length ys → get_or (picks ys) j d ≡ (get_or ys j 0, left j ys)
pick_at [] j d h = absurd (omega arith)
pick_at (y ∷ ys) zero d h = refl
pick_at (y ∷ ys) (suc j) d h = map_at (back y) (picks ys) j (0, []) d (omega (arith, picks_length ys)) ∙ ap (back y) (pick_at ys j (0, []) (omega arith))

pub picks_from : (ys : List ℕ) (j : ℕ) → j < length ys → drop j (picks ys) ≡ (get_or ys j 0, left j ys) ∷ drop (suc j) (picks ys)
picks_from ys j h = drop-cons (picks ys) j (0, []) (omega (arith, picks_length ys)) ∙ ap (λ p. p ∷ drop (suc j) (picks ys)) (pick_at ys j (0, []) h)
