-- A plan as the list of its edges: how many lie at each node and the worst rank there, counted along the list, are those of the plan.
use Rattle.std.specs.Prelude.{ℕ, ◌+◌, ◌≤◌, ◌<◌, max, ◌≡◌, refl, Bool, true, false, not, cond, ◌&&◌, ◌||◌, length, get_or, set, T, eqb, ltb}
use Rattle.std.proofs.Math.Decide.{dec_lt}
use Rattle.std.proofs.Math.Logic.{by_cases}
use Rattle.std.proofs.Common.{lt-ltb, le-ltb, zero-le, arith, ◌∙◌, subst, ⊎_elim, get_or-set_same, get_or-set_other, ltb→lt, lt→ltb, nltb→le, T_not}
use Rattle.std.proofs.Math.Path.{sym, ap}
use mathlib.Core.List.Memᴰ
use mathlib.Core.List.{List, [], ◌∷◌, ◌++◌, map, map-append}
use Rattle.std.proofs.lemmas.List.{length-map}
use Rattle.lists.specs.Test.{bit, bit_one, by-eq, bool_eq}
use Rattle.lists.specs.Sum.{◌∈◌, sum, sum_append, sum_mono, sum_length, up_to, up_to_∈, up_to_<, range, range_∈, ∈_range, range_length}
use Rattle.lists.specs.Keep.{keep, ∈_keep, any?, any_append, any_or, any_∈}
use Rattle.lists.specs.Ranges.{range_add}
use Rattle.model.specs.Limits.{plan_limit, node_limit, entry_limit}
use Rattle.model.specs.Instance.{deg}
use Rattle.model.specs.PlanFile.{edges_in}
use Rattle.theory_files.specs.Chosen.{deg_at_node}
use Rattle.arrays.specs.ArrayInstance.{at, flag}
use Rattle.arrays.specs.Tally.{Tally}
use Rattle.blocking_thresholds.specs.Threshold.{Edges, worse, Worst, Thresholds, side_of}

-- the first k entries of the list; the plan p is its first n
abbrev pub front : List ℕ → ℕ → List ℕ
front es k = map (at es) (range 0 k)

-- the first n entries of the list are the plan's edges, ascending
abbrev pub Listed : ℕ → List Bool → ℕ → List ℕ → Type 0
Listed m p n es = edges_in m (flag p) ≡ front es n

-- the edges of the list and their nodes
pub record Places (n : ℕ) (es end : List ℕ) : Type 0 where
  pub few : n ≤ plan_limit
  pub edges : (k : ℕ) → k < n → at es k < entry_limit
  pub nodes : (k : ℕ) → k < n → at end (at es k) < node_limit

abbrev pub AtNodes : (end es : List ℕ) (k : ℕ) (d : List ℕ) → Type 0
AtNodes end es k d = (v : ℕ) → at d v ≡ sum (λ e. bit (eqb (at end e) v)) (front es k)

-- at v, and worse than x
abbrev pub worse_at : (end rank : List ℕ) (v x : ℕ) → ℕ → Bool
worse_at end rank v x d = eqb (at end d) v && ltb x (at rank d)

abbrev pub WorstOf : (end rank es : List ℕ) (k : ℕ) (w : List ℕ) → Type 0
WorstOf end rank es k w = (v x : ℕ) → ltb x (get_or w v 0) ≡ any? (worse_at end rank v x) (front es k)

-- the list of a plan with at most 64 edges, over ends that are nodes
pub places : (m : ℕ) (p : List Bool) (n : ℕ) (es end : List ℕ) → m ≤ entry_limit → ((e : ℕ) → at end e < node_limit) → Listed m p n es
    → length (edges_in m (flag p)) ≤ plan_limit → Places n es end
places m p n es end few low l h = record {
  few = subst (λ k. k ≤ plan_limit) (ap length l ∙ length-map (range 0 n) (at es) ∙ range_length 0 n) h;
  edges = λ k b.
      let i : at es k ∈ edges_in m (flag p) = subst (λ xs. at es k ∈ xs) (sym l) (Memᴰ.map (at es) (range_∈ n 0 k zero-le (omega arith))) in
      let (r, t) = ∈_keep (flag p) (range 0 m) i in
      let (u, w) = ∈_range m 0 r in
      omega arith;
  nodes = λ k b. low (at es k);
}

-- the thresholds of every plan that the list is of
abbrev pub ThresholdsOf : (n : ℕ) (es end rank quota l : List ℕ) → Type 0
ThresholdsOf n es end rank quota l = (m : ℕ) (p : List Bool) → Edges m end → Listed m p n es → Thresholds m end rank quota p l

-- ---- one edge more
front_next : (es : List ℕ) (k : ℕ) → front es (k + 1) ≡ front es k ++ at es k ∷ []
front_next es k =
    let e : 0 + k ≡ k = omega arith in
    ap (map (at es)) (range_add 0 k 1 ∙ ap (λ z. range 0 k ++ z ∷ []) e) ∙ map-append (at es) (range 0 k) (k ∷ [])

pub nodes_next : (end es d : List ℕ) (k : ℕ) → at end (at es k) < length d → AtNodes end es k d
    → AtNodes end es (k + 1) (set d (at end (at es k)) (at d (at end (at es k)) + 1))
nodes_next end es d k l h v =
    let w = at end (at es k) in
    let new = at d w + 1 in
    let step = ap (sum (λ e. bit (eqb (at end e) v))) (front_next es k) ∙ sum_append (λ e. bit (eqb (at end e) v)) (front es k) (at es k ∷ []) in
    by-eq w v
    (λ i s. subst (λ u. at (set d w new) u ≡ sum (λ e. bit (eqb (at end e) v)) (front es (k + 1))) i
    (omega (arith, get_or-set_same d w new 0 l, step, h v, ap bit s, ap (at d) i)))
    (λ n s. omega (arith, get_or-set_other d w v new 0 (λ i. n (sym i)), step, h v, ap bit s))

-- no more than the entries
pub nodes_few : (end es d : List ℕ) (k : ℕ) → AtNodes end es k d → (v : ℕ) → at d v ≤ k
nodes_few end es d k h v = omega (
  arith,
  h v,
  sum_mono (λ e. bit (eqb (at end e) v)) (λ e. 1) (front es k) (λ e m. bit_one (eqb (at end e) v)),
  sum_length (front es k),
  length-map (range 0 k) (at es),
  range_length 0 k,
)

-- the greater of two ranks is worse than x if one of them is
raise : (x w r : ℕ) → ltb x (cond (ltb w r) r w) ≡ ltb x w || (ltb x r || false)
raise x w r = go (ltb w r) (ltb→lt w r) (nltb→le w r)
  where
    up : (a b : Bool) → (T a → T b) → b ≡ a || (b || false)
    up true true h = refl
    up true false h = absurd (h tt)
    up false true h = refl
    up false false h = refl

    down : (a b : Bool) → (T b → T a) → a ≡ a || (b || false)
    down true b h = refl
    down false true h = absurd (h tt)
    down false false h = refl

    go : (t : Bool) → (T t → w < r) → (T (not t) → r ≤ w) → ltb x (cond t r w) ≡ ltb x w || (ltb x r || false)
    go true h k = up (ltb x w) (ltb x r) (λ q. lt→ltb x r (omega (arith, h tt, ltb→lt x w q)))
    go false h k = down (ltb x w) (ltb x r) (λ q. lt→ltb x w (omega (arith, k tt, ltb→lt x r q)))

-- the greater of two ranks
pub max_is : (w r : ℕ) → max w r ≡ cond (ltb w r) r w
max_is w r = by_cases (dec_lt w r)
    (λ h. let q = ap (λ b. cond b r w) (lt-ltb w r h) in omega (arith, q))
    (λ h. let q = ap (λ b. cond b r w) (le-ltb w r (omega arith)) in omega (arith, q))

pub worst_next : (end rank es w : List ℕ) (k : ℕ) → at end (at es k) < length w → WorstOf end rank es k w
    → {r : ℕ} → r ≡ cond (ltb (at w (at end (at es k))) (at rank (at es k))) (at rank (at es k)) (at w (at end (at es k)))
    → WorstOf end rank es (k + 1) (set w (at end (at es k)) r)
worst_next end rank es w k l h {r} q v x =
    let e = at es k in
    let u = at end e in
    let step = ap (any? (worse_at end rank v x)) (front_next es k) ∙ any_append (worse_at end rank v x) (front es k) (e ∷ []) in
    by-eq u v
    (λ i s. ap (ltb x) (ap (λ z. get_or (set w u r) z 0) (sym i) ∙ get_or-set_same w u r 0 l ∙ q) ∙ raise x (at w u) (at rank e)
    ∙ ap (λ b. b || (ltb x (at rank e) || false)) (ap (λ z. ltb x (at w z)) i ∙ h v x)
    ∙ ap (λ b. any? (worse_at end rank v x) (front es k) || ((b && ltb x (at rank e)) || false)) (sym s) ∙ sym step)
    (λ n s. ap (ltb x) (get_or-set_other w u v r 0 (λ i. n (sym i))) ∙ h v x
    ∙ none (any? (worse_at end rank v x) (front es k))
    ∙ ap (λ b. any? (worse_at end rank v x) (front es k) || ((b && ltb x (at rank e)) || false)) (sym s) ∙ sym step)
  where
    none : (a : Bool) → a ≡ a || (false || false)
    none true = refl
    none false = refl

-- ---- the whole list is the plan
any_keep : (p q : ℕ → Bool) (xs : List ℕ) → any? q (keep p xs) ≡ any? (λ d. p d && q d) xs
any_keep p q [] = refl
any_keep p q (x ∷ xs) = go (p x) (any_keep p q xs)
  where
    go : (b : Bool) → any? q (keep p xs) ≡ any? (λ d. p d && q d) xs
        → any? q (cond b (x ∷ keep p xs) (keep p xs)) ≡ (b && q x) || any? (λ d. p d && q d) xs
    go true e = ap (λ b. q x || b) e
    go false e = e

any_range : (q : ℕ → Bool) (m : ℕ) → any? q (range 0 m) ≡ any? q (up_to m)
any_range q m = bool_eq (any? q (range 0 m)) (any? q (up_to m))
    (λ t. let (x, k, b) = any_∈ q (range 0 m) t in let (u, w) = ∈_range m 0 k in there (up_to m) (up_to_∈ m x (omega arith)) b)
    (λ t. let (x, k, b) = any_∈ q (up_to m) t in let w = up_to_< m k in there (range 0 m) (range_∈ m 0 x (omega arith) (omega arith)) b)
  where
    there : (xs : List ℕ) {x : ℕ} → x ∈ xs → T (q x) → T (any? q xs)
    there xs {x} k b = ⊎_elim (λ y. y.0) (λ n. absurd (T_not (q x) (n.1 x k) b)) (any_or q xs)

module _ (m n : ℕ) (p : List Bool) (es end : List ℕ) (listed : Listed m p n es) where
  pub tally_listed : (d : List ℕ) → AtNodes end es n d → Tally d m end p
  unfolding deg
  tally_listed d h v = h v ∙ ap (sum (λ e. bit (eqb (at end e) v))) (sym listed)
      ∙ sym (deg_at_node (side_of m 0 end [] [] (λ e. false)) (flag p) v)

  pub worst_listed : (rank w : List ℕ) → WorstOf end rank es n w → Worst m end rank p w
  worst_listed rank w h v x = h v x ∙ ap (any? (worse_at end rank v x)) (sym listed) ∙ any_keep (flag p) (worse_at end rank v x) (range 0 m)
      ∙ any_range (worse end rank p v x) m
