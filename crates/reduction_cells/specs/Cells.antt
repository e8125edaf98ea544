-- The strict edges of a side by node and rank: one array, a cell for each node and rank, with the edge there, m if there is none.
use Rattle.std.specs.Prelude.{ℕ, zero, suc, ◌+◌, ◌*◌, ◌-◌, ◌≤◌, ◌<◌, ◌≡◌, Bool, true, not, cond, ◌&&◌, List, length, T, eqb, ltb, leb}
use Rattle.std.proofs.Common.{arith, add-one, sym, ap, ◌∙◌, subst, eqb→eq, ltb→lt, lt-ltb}
use Rattle.lists.specs.Test.{and_l, and_r, bit, bit_one, if-ind}
use Rattle.lists.specs.Search.{low, low_is, low_hit}
use Rattle.model.specs.Limits.{entry_limit, node_limit, empty_rank}
use Rattle.arrays.specs.ArrayInstance.{at, flag}
use Rattle.arrays.specs.Passes.{Low}
use Rattle.arrays.specs.Firsts.{from, Firsts}

-- how many cells there are
abbrev pub cell_count : ℕ
cell_count = 1056

-- where a node's edge of a rank stands
abbrev pub place : (end rank : List ℕ) → ℕ → ℕ
place end rank e = at end e * empty_rank + at rank e

-- nothing is there yet
abbrev pub Empty : (m : ℕ) (cell : List ℕ) → Type 0
Empty m cell = (k : ℕ) → k < length cell → at cell k ≡ m

-- each cell has the first strict edge of its node and rank
pub record Celled (m : ℕ) (end rank : List ℕ) (tied : List Bool) (cell : List ℕ) : Type 0 where
  pub edges : m ≤ entry_limit
  pub firsts : Firsts m (place end rank) (λ e. not (flag tied e)) cell_count 0 cell

-- a place tells its node and its rank
pub same_place : (a b r s : ℕ) → r < empty_rank → s < empty_rank → a * empty_rank + r ≡ b * empty_rank + s → (a ≡ b) × (r ≡ s)
same_place a b r s h k e = (omega arith, omega arith)

-- the edge of rank r at v
abbrev pub in_cell : (cell : List ℕ) (v r : ℕ) → ℕ
in_cell cell v r = at cell (v * empty_rank + r)

-- what is read along the cells needs no ends and ranks: a cell holds an edge or m, and no edge stands in two of them
pub record Spread (m : ℕ) (cell : List ℕ) : Type 0 where
  pub edges : m ≤ entry_limit
  pub inside : (v r : ℕ) → v < node_limit → r < empty_rank → in_cell cell v r ≤ m
  pub apart : (v i u j : ℕ) → v < node_limit → i < empty_rank → u < node_limit → j < empty_rank → in_cell cell v i < m → in_cell cell v i ≡ in_cell cell u j
      → (v ≡ u) × (i ≡ j)

-- what the cells of a node hold are its edges
abbrev pub Owned : (m : ℕ) (end cell : List ℕ) → Type 0
Owned m end cell = (v r : ℕ) → v < node_limit → r < empty_rank → in_cell cell v r < m → at end (in_cell cell v r) ≡ v

-- an edge, and in p
abbrev pub edge_in : (m : ℕ) (p : ℕ → Bool) → ℕ → Bool
edge_in m p e = ltb e m && p e

-- how many of the cells of v below rank r hold an edge of p
unfoldable pub passed : (m : ℕ) (cell : List ℕ) (p : ℕ → Bool) (v : ℕ) → ℕ → ℕ
passed m cell p v zero = 0
passed m cell p v (suc r) = passed m cell p v r + bit (edge_in m p (in_cell cell v r))

pub passed_next : (m : ℕ) (cell : List ℕ) (p : ℕ → Bool) (v r : ℕ) → passed m cell p v (r + 1) ≡ passed m cell p v r + bit (edge_in m p (in_cell cell v r))
unfolding passed
passed_next m cell p v r = rw add-one

pub passed_few : (m : ℕ) (cell : List ℕ) (p : ℕ → Bool) (v r : ℕ) → passed m cell p v r ≤ r
unfolding passed
passed_few m cell p v zero = omega arith
passed_few m cell p v (suc r) = omega (arith, passed_few m cell p v r, bit_one (edge_in m p (in_cell cell v r)))

-- the first rank that q edges of p are better than, 33 if there is none
abbrev pub bar_of : (m : ℕ) (cell : List ℕ) (p : ℕ → Bool) (v q : ℕ) → ℕ
bar_of m cell p v q = low (λ r. leb q (passed m cell p v r)) empty_rank

-- the best edge of p at v, and the worst; m if there is none
abbrev pub best_of : (m : ℕ) (cell : List ℕ) (p : ℕ → Bool) (v : ℕ) → ℕ
best_of m cell p v = let r = low (λ r. edge_in m p (in_cell cell v r)) empty_rank in cond (ltb r empty_rank) (in_cell cell v r) m

-- the worst edge of p at v, m if there is none
abbrev pub worst_of : (m : ℕ) (cell : List ℕ) (p : ℕ → Bool) (v : ℕ) → ℕ
worst_of m cell p v = let k = low (λ k. edge_in m p (in_cell cell v (32 - k))) empty_rank in cond (ltb k empty_rank) (in_cell cell v (32 - k)) m

-- a search along a node's cells: step k looks at the cell f k, and none before it passed the test q; so it passes, or all are behind
module _ (m : ℕ) (q : ℕ → Bool) (f : ℕ → ℕ) (k : ℕ) (none : low q k ≡ k) where
  search_hit : k < empty_rank → q k ≡ true → f k ≡ cond (ltb (low q empty_rank) empty_rank) (f (low q empty_rank)) m
  search_hit l t = sym (ap (λ r. cond (ltb r empty_rank) (f r) m) (low_hit q k empty_rank none t l) ∙ ap (λ b. cond b (f k) m) (lt-ltb k empty_rank l))

  search_none : k ≡ empty_rank → m ≡ cond (ltb (low q empty_rank) empty_rank) (f (low q empty_rank)) m
  search_none e = sym (ap (λ r. cond (ltb r empty_rank) (f r) m) (ap (low q) (sym e) ∙ none ∙ e))

module _ (m : ℕ) (cell : List ℕ) (p : ℕ → Bool) (v : ℕ) where
  -- whether a cell has an edge of p, from the best rank on, and from the worst on
  abbrev pub in_best : ℕ → Bool
  in_best r = edge_in m p (in_cell cell v r)

  abbrev pub in_worst : ℕ → Bool
  in_worst k = edge_in m p (in_cell cell v (32 - k))

  pub best_hit : (r : ℕ) → low in_best r ≡ r → r < empty_rank → in_best r ≡ true → in_cell cell v r ≡ best_of m cell p v
  best_hit = search_hit m in_best (in_cell cell v)

  pub best_none : (r : ℕ) → low in_best r ≡ r → r ≡ empty_rank → m ≡ best_of m cell p v
  best_none = search_none m in_best (in_cell cell v)

  pub worst_hit : (k : ℕ) → low in_worst k ≡ k → k < empty_rank → in_worst k ≡ true → in_cell cell v (32 - k) ≡ worst_of m cell p v
  worst_hit = search_hit m in_worst (λ k. in_cell cell v (32 - k))

  pub worst_none : (k : ℕ) → low in_worst k ≡ k → k ≡ empty_rank → m ≡ worst_of m cell p v
  worst_none = search_none m in_worst (λ k. in_cell cell v (32 - k))

module _ (m : ℕ) (end rank : List ℕ) (tied : List Bool) (cell : List ℕ) (C : Celled m end rank tied cell) where
  cell_inside : (v r : ℕ) → v < node_limit → r < empty_rank → in_cell cell v r ≤ m
  cell_inside v r w h = omega (
    arith,
    C.firsts (v * empty_rank + r) (omega arith),
    (low_is (from m (place end rank) (λ e. not (flag tied e)) 0 (v * empty_rank + r)) m).0,
  )

  -- what a cell holds stands in its place, and is strict
  pub cell_holds : (v r : ℕ) → v < node_limit → r < empty_rank → in_cell cell v r < m
      → (place end rank (in_cell cell v r) ≡ v * empty_rank + r) × T (not (flag tied (in_cell cell v r)))
  cell_holds v r w h l =
      let k = v * empty_rank + r in
      let q = C.firsts k (omega arith) in
      let F = from m (place end rank) (λ e. not (flag tied e)) 0 k in
      let t : T (F (in_cell cell v r)) = subst (λ z. T (F z)) (sym q) ((low_is F m).2 (omega arith)) in
      let e = in_cell cell v r in
      let s = and_r (leb 0 e) (not (flag tied e) && eqb (place end rank e) k) t in
      (eqb→eq (place end rank e) k (and_r (not (flag tied e)) (eqb (place end rank e) k) s), and_l (not (flag tied e)) (eqb (place end rank e) k) s)

  -- the same cells elsewhere
  pub celled_kept : (cell' : List ℕ) → ((k : ℕ) → k < cell_count → at cell' k ≡ at cell k) → Celled m end rank tied cell'
  celled_kept cell' h = record { edges = C.edges; firsts = λ k l. h k l ∙ C.firsts k l }

  -- so cells are spread, and each node owns the edges in its cells
  pub celled_spread : Spread m cell
  celled_spread = record {
    edges = C.edges;
    inside = cell_inside;
    apart = λ v i u j vl il ul jl l z. same_place v u i j il jl
        (sym (cell_holds v i vl il l).0 ∙ ap (place end rank) z ∙ (cell_holds u j ul jl (omega arith)).0);
  }

  -- each node owns the edges in its cells, where ranks are below 33
  pub celled_owned : Low m rank empty_rank → Owned m end cell
  celled_owned placed v r w h l = let e = in_cell cell v r in
      (same_place (at end e) v (at rank e) r (placed e l) h (cell_holds v r w h l).0).0

-- what is in a cell is at most as large as there can be edges
pub spread_low : {m : ℕ} {cell : List ℕ} → Spread m cell → {v : ℕ} → v < node_limit → {r : ℕ} → r < empty_rank → in_cell cell v r ≤ entry_limit
spread_low S {v} w {r} h = omega (arith, S.edges, S.inside v r w h)

module _ (m : ℕ) (cell : List ℕ) (S : Spread m cell) where
  -- the best and the worst are edges, or m
  pub best_inside : (p : ℕ → Bool) (v : ℕ) → v < node_limit → best_of m cell p v ≤ m
  best_inside p v w = let r = low (λ r. edge_in m p (in_cell cell v r)) empty_rank in
      if-ind (λ z. z ≤ m) (ltb r empty_rank) (λ t. S.inside v r w (ltb→lt r empty_rank t)) (λ t. omega arith)

  -- so is the worst
  pub worst_inside : (p : ℕ → Bool) (v : ℕ) → v < node_limit → worst_of m cell p v ≤ m
  worst_inside p v w = let k = low (λ k. edge_in m p (in_cell cell v (32 - k))) empty_rank in
      if-ind (λ z. z ≤ m) (ltb k empty_rank) (λ t. S.inside v (32 - k) w (omega arith)) (λ t. omega arith)
