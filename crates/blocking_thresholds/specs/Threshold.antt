-- What the passes over one side's arrays compute: worst ranks and thresholds, beside the degrees (arrays, Tally). When a node yields to an
-- edge is the model's (Blocking).
use Rattle.std.specs.Prelude.{ℕ, ◌≤◌, ◌<◌, ◌≡◌, Bool, true, false, cond, ◌&&◌, ◌||◌, List, get_or, eqb, ltb}
use Rattle.std.proofs.Common.{ap, ◌∙◌, lt-ltb}
use Rattle.lists.specs.Sum.{up_to}
use Rattle.lists.specs.Keep.{any?}
use Rattle.model.specs.Limits.{empty_rank, node_limit, entry_limit}
use Rattle.model.specs.Instance.{Side, deg}
use Rattle.model.specs.Blocking.{yields}
use Rattle.arrays.specs.ArrayInstance.{at, flag}
use Rattle.arrays.specs.Tally.{Tally}

-- the edges and their nodes on one side
pub record Edges (m : ℕ) (end : List ℕ) : Type 0 where
  pub edges : m ≤ entry_limit
  pub ends : (e : ℕ) → e < m → at end e < node_limit

-- a rank is better than the worst at the node exactly if some edge of the plan there is worse than it
abbrev pub worse : List ℕ → List ℕ → List Bool → ℕ → ℕ → ℕ → Bool
worse end rank p v x d = flag p d && (eqb (at end d) v && ltb x (at rank d))

abbrev pub Worst : ℕ → List ℕ → List ℕ → List Bool → List ℕ → Type 0
Worst m end rank p w = (v x : ℕ) → ltb x (get_or w v 0) ≡ any? (worse end rank p v x) (up_to m)

-- the side that the arrays show, with any number of nodes and any ties
abbrev pub side_of : (m n : ℕ) (end rank quota : List ℕ) (tie : ℕ → Bool) → Side
side_of m n end rank quota tie = record { m = m; n = n; end = at end; rank = at rank; tie = tie; quota = at quota }

-- an edge is better than the threshold of its node exactly if the node yields to it
abbrev pub Thresholds : ℕ → List ℕ → List ℕ → List ℕ → List Bool → List ℕ → Type 0
Thresholds m end rank quota p l = (n : ℕ) (tie : ℕ → Bool) (e : ℕ) → e < m → at rank e < empty_rank
    → ltb (at rank e) (get_or l (at end e) 0) ≡ yields (side_of m n end rank quota tie) (flag p) e

-- ---- a node's worst place
pub thresholds_yield : (m : ℕ) (end rank quota : List ℕ) (p : List Bool) (d w l : List ℕ) → Edges m end → Tally d m end p → Worst m end rank p w
    → ((v : ℕ) → v < 32 → get_or l v 0 ≡ cond (ltb (at d v) (at quota v)) 33 (at w v)) → Thresholds m end rank quota p l
unfolding deg
thresholds_yield m end rank quota p d w l h hd hw hl n tie e k r =
    ap (ltb (at rank e)) (hl (at end e) (h.ends e k))
    ∙ go (ltb (at d (at end e)) (at quota (at end e))) (ap (λ z. ltb z (at quota (at end e))) (hd (at end e)))
  where
    go : (b : Bool) → b ≡ ltb (deg (side_of m n end rank quota tie) (flag p) (at end e)) (at quota (at end e))
        → ltb (at rank e) (cond b 33 (at w (at end e))) ≡ yields (side_of m n end rank quota tie) (flag p) e
    go true q = lt-ltb (at rank e) 33 r ∙ ap (λ z. z || any? (worse end rank p (at end e) (at rank e)) (up_to m)) q
    go false q = hw (at end e) (at rank e) ∙ ap (λ z. z || any? (worse end rank p (at end e) (at rank e)) (up_to m)) q
