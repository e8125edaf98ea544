-- Closed walks below k go by tight arcs alone: those whose price, with the least cost of a way back, is below k. So where no walk with a start and an
-- end is below k, the levels find what the diagonals of the layers of the tight arcs show.
use Prim.Native.Nat.{ℕ, zero, suc, ◌+◌, ◌-◌, ◌*◌, ◌≤◌, ◌<◌}
use native.Mathlib.Omega.{arith}
use Rattle.std.proofs.Common.{add-one, ◌∙◌, inl, inr, nltb→le, lt-ltb, le-ltb, ltb-true, ltb-false}
use Rattle.std.specs.Prelude.{◌≡◌, ◌⊎◌, Bool, true, List, Option, Some, None}
use Rattle.std.proofs.Math.Path.{refl, sym, ap, ap₂, subst}
use Rattle.std.proofs.Math.Logic.{⊎_elim}
use Rattle.std.proofs.Math.Bool.{false, cond}
use Rattle.std.proofs.Math.Dec.{ltb}
use Rattle.lists.specs.Test.{by_bool}
use Rattle.lists.specs.Search.{low_is, low_cong, low_none}
use Rattle.rival_tables.specs.Filled.{cell, Rows}
use Rattle.rival_tables.specs.Cheapest.{cheapest_at, cheapest_≤, cheapest_reach}
use Rattle.rival_levels.specs.Layers.{kept_price, layer_at, Small, Cheap}
use Rattle.rival_levels.specs.declared.Found.TheVariants as found
use Rattle.rival_levels.specs.declared.Found.{Found}
use Rattle.rival_levels.specs.Levels.{diag_at, ends_at, pair_at, lowered_at, level_loop, level_row, level_column, level_change, levels_at}
use Rattle.rival_certificate.specs.Certified.{Closed, at_least}

-- ---- the levels by closed walks alone: b of them from level l on
unfoldable pub loops_at : List ℕ → ℕ → ℕ → ℕ → ℕ → Option Found
loops_at arcs n k zero l = None
loops_at arcs n k (suc b) l = cond (ltb (level_loop arcs n k l) n) (Some (found.Closed l (level_loop arcs n k l))) (loops_at arcs n k b (suc l))

loops_turn : (arcs : List ℕ) (n k l i : ℕ) (b : Bool) → l < n → i ≡ level_loop arcs n k l → ltb i n ≡ b
    → cond b (Some (found.Closed l i)) (loops_at arcs n k (n - (l + 1)) (l + 1)) ≡ loops_at arcs n k (n - l) l
unfolding loops_at
loops_turn arcs n k l i b h e t =
    let s : n - l ≡ suc (n - (l + 1)) = omega arith in
    ap₂ (λ b i. cond b (Some (found.Closed l i)) (loops_at arcs n k (n - (l + 1)) (l + 1))) (sym t ∙ ap (λ z. ltb z n) e) e ∙ sym (rw (s, add-one))

pub loops_hit : (arcs : List ℕ) (n k l i : ℕ) → l < n → i ≡ level_loop arcs n k l → i < n → Some (found.Closed l i) ≡ loops_at arcs n k (n - l) l
loops_hit arcs n k l i h e t = loops_turn arcs n k l i true h e (lt-ltb i n t)

pub loops_miss : (arcs : List ℕ) (n k l i : ℕ) → l < n → i ≡ level_loop arcs n k l → n ≤ i
    → loops_at arcs n k (n - (l + 1)) (l + 1) ≡ loops_at arcs n k (n - l) l
loops_miss arcs n k l i h e t = loops_turn arcs n k l i false h e (le-ltb i n t)

pub loops_end : (arcs : List ℕ) (n k l : ℕ) → n ≤ l → loops_at arcs n k (n - l) l ≡ None
unfolding loops_at
loops_end arcs n k l h = let e : n - l ≡ 0 = omega arith in rw e

pub loops_start : (arcs : List ℕ) (n k : ℕ) → loops_at arcs n k (n - 0) 0 ≡ loops_at arcs n k n 0
loops_start arcs n k = let e : n - 0 ≡ n = omega arith in ap (λ b. loops_at arcs n k b 0) e

-- ---- the layers: a price kept, an arc before a walk, an arc behind one
module _ (arcs : List ℕ) (n : ℕ) where
  abbrev W : ℕ → ℕ → ℕ → ℕ
  W = layer_at arcs n

  layer_kept : (l i j : ℕ) → W (suc l) i j ≤ kept_price (W l i j)
  unfolding layer_at
  layer_kept l i j = cheapest_≤ (λ y. true) (λ y. cell arcs i y + W l y j) (kept_price (W l i j)) 0 n

  layer_before : (l i y j : ℕ) → y < n → W (suc l) i j ≤ cell arcs i y + W l y j
  unfolding layer_at
  layer_before l i y j h = cheapest_at (λ y. true) (λ y. cell arcs i y + W l y j) (kept_price (W l i j)) 0 n y (omega arith) (omega arith) refl

  layer_behind : (l i y j : ℕ) → y < n → W (suc l) i j ≤ W l i y + cell arcs y j
  unfolding layer_at
  layer_behind zero i y j h = layer_before zero i y j h
  layer_behind (suc l) i y j h = ⊎_elim
      (λ e. omega (arith, e, layer_kept (suc l) i j, layer_behind l i y j h))
      (λ (z, a, b, t, e). omega (arith, e, layer_before (suc l) i z j (omega arith), layer_behind l z y j h))
      (cheapest_reach (λ z. true) (λ z. cell arcs i z + W l z y) (kept_price (W l i y)) 0 n)

-- ---- a layer that is nowhere lower than the one before: no later one is, and none finds a closed walk
module _ (arcs : List ℕ) (n k : ℕ) (few : n ≤ 64) (goal : k ≤ 1) where
  abbrev Quiet : ℕ → Type 0
  Quiet l = (i j : ℕ) → i < n → j < n → kept_price (layer_at arcs n l i j) ≤ layer_at arcs n (suc l) i j

  abbrev High : ℕ → Type 0
  High l = (i : ℕ) → i < n → 2 * suc l + k ≤ layer_at arcs n l i i

  quiet_is : (l : ℕ) → n ≤ level_change arcs n l → Quiet l
  quiet_is l h i j il jl =
      let w : n ≤ lowered_at (layer_at arcs n l) (layer_at arcs n (suc l)) n i = nltb→le (lowered_at (layer_at arcs n l) (layer_at arcs n (suc l)) n i) n
      ((low_is (λ i. ltb (lowered_at (layer_at arcs n l) (layer_at arcs n (suc l)) n i) n) n).1 i (omega arith)) in
      nltb→le (layer_at arcs n (suc l) i j) (kept_price (layer_at arcs n l i j))
      ((low_is (λ j. ltb (layer_at arcs n (suc l) i j) (kept_price (layer_at arcs n l i j))) n).1 j (omega arith))

  high_is : (l : ℕ) → n ≤ level_loop arcs n k l → High l
  high_is l h i il = nltb→le (layer_at arcs n l i i) (2 * suc l + k) ((low_is (λ i. ltb (layer_at arcs n l i i) (2 * suc l + k)) n).1 i (omega arith))

  quiet_next : (l : ℕ) → Quiet l → Quiet (suc l)
  unfolding layer_at
  quiet_next l q i j il jl = ⊎_elim
      (λ e. omega (arith, e))
      (λ (y, a, b, t, e). omega (arith, e, q y j (omega arith) jl, layer_before arcs n l i y j (omega arith)))
      (cheapest_reach (λ y. true) (λ y. cell arcs i y + layer_at arcs n (suc l) y j) (kept_price (layer_at arcs n (suc l) i j)) 0 n)

  high_next : (l : ℕ) → l < 64 → Quiet l → High l → High (suc l)
  high_next l s q h i il = omega (arith, q i i il il, h i il)

  no_loop : (l : ℕ) → High l → level_loop arcs n k l ≡ n
  no_loop l h = low_none (λ i. ltb (layer_at arcs n l i i) (2 * suc l + k)) n (λ i il. le-ltb (layer_at arcs n l i i) (2 * suc l + k) (h i il))

  -- such a level, and all after it, find no closed walk
  pub quiet_none : (b l : ℕ) → b + l ≤ n → Quiet l → High l → loops_at arcs n k b l ≡ None
  unfolding loops_at
  quiet_none zero l s q h = refl
  quiet_none (suc b) l s q h =
      ap (λ x. cond x (Some (found.Closed l (level_loop arcs n k l))) (loops_at arcs n k b (suc l)))
      (le-ltb (level_loop arcs n k l) n (omega (arith, no_loop l h)))
      ∙ quiet_none b (suc l) (omega arith) (quiet_next l q) (high_next l (omega arith) q h)

-- ---- walks that lead back: one of m arcs, at price a, has come from j to i
record Come (arcs d : List ℕ) (n j m i a : ℕ) : Type 0 where
  walked : (e z : ℕ) → z < n → layer_at arcs n (e + m) z i ≤ layer_at arcs n e z j + a
  onward : (y : ℕ) → y < n → layer_at arcs n m j y ≤ a + cell arcs i y
  worth : cell d j i + 2 * m ≤ a + 64

-- p has the price of every tight arc, and no price below that of an arc
pub record Pruned (arcs d p : List ℕ) (n k : ℕ) : Type 0 where
  pub above : (i j : ℕ) → i < n → j < n → cell arcs i j ≤ cell p i j
  pub tight : (i j : ℕ) → i < n → j < n → cell arcs i j + cell d j i < 66 + k → cell p i j ≤ cell arcs i j

module _ (arcs d p : List ℕ) (n k : ℕ) (few : n ≤ 64) (goal : k ≤ 1) (C : Closed arcs d n) (P : Pruned arcs d p n k) where
  not_below : (l i j : ℕ) → i < n → j < n → layer_at arcs n l i j ≤ layer_at p n l i j
  unfolding layer_at
  not_below zero i j h g = P.above i j h g
  not_below (suc l) i j h g = ⊎_elim
      (λ e. omega (arith, e, layer_kept arcs n l i j, not_below l i j h g))
      (λ (y, a, b, t, e). omega (
        arith,
        e,
        layer_before arcs n l i y j (omega arith),
        P.above i y h (omega arith),
        not_below l y j (omega arith) g,
      ))
      (cheapest_reach (λ y. true) (λ y. cell p i y + layer_at p n l y j) (kept_price (layer_at p n l i j)) 0 n)

  come_on : (j m i a y : ℕ) → j < n → i < n → y < n → a + cell arcs i y < 133 → Come arcs d n j m i a → Come arcs d n j (suc m) y (a + cell arcs i y)
  come_on j m i a y jl il yl u c = record {
    walked = λ e z zl.
        let s : suc (e + m) ≡ e + suc m = omega arith in
        subst (λ l. layer_at arcs n l z y ≤ layer_at arcs n e z j + (a + cell arcs i y)) s (omega (
          arith,
          layer_behind arcs n
              (e + m) z i y il,
          c.walked e z zl,
        ));
    onward = λ x xl. omega (arith, layer_behind arcs n m j y x yl, c.onward y yl);
    worth = omega (arith, at_least arcs d n few C m j y jl yl, c.onward y yl);
  }

  -- what is left of a closed walk below k goes by tight arcs
  reached : (j l m i a : ℕ) → j < n → i < n → m + suc l ≤ 64 → a + layer_at arcs n l i j < 2 * (m + suc l) + k → Come arcs d n j m i a
      → layer_at p n l i j ≤ layer_at arcs n l i j
  unfolding layer_at
  reached j zero m i a jl il s u c = P.tight i j il jl (omega (arith, c.worth))
  reached j (suc l) m i a jl il s u c = ⊎_elim
      (λ e. omega (arith, e, layer_kept p n l i j, reached j l m i a jl il (omega arith) (omega (arith, e)) c))
      (λ (y, f, g, t, e).
      let yl : y < n = omega arith in
      let back : cell arcs i y + cell d y i < 66 + k = omega (arith, e, c.walked l y yl, at_least arcs d n few C (l + m) y i yl il) in
      let rest = reached j l (suc m) y (a + cell arcs i y) jl yl (omega arith) (omega (arith, e)) (come_on j m i a y jl il yl (omega (arith, e)) c) in
      omega (arith, e, layer_before p n l i y j yl, P.tight i y il yl back, rest))
      (cheapest_reach (λ y. true) (λ y. cell arcs i y + layer_at arcs n l y j) (kept_price (layer_at arcs n l i j)) 0 n)

  set_out : (l j : ℕ) → l < n → j < n → layer_at arcs n l j j < 2 * suc l + k → Come arcs d n j 0 j 0
  unfolding layer_at
  set_out l j ll jl u = record {
    walked = λ e z zl. let s : e ≡ e + 0 = omega arith in subst (λ l. layer_at arcs n l z j ≤ layer_at arcs n e z j + 0) s (omega arith);
    onward = λ y yl. omega arith;
    worth = omega (arith, at_least arcs d n few C l j j jl jl);
  }

  same_loop : (l : ℕ) → l < n → level_loop arcs n k l ≡ level_loop p n k l
  same_loop l ll = low_cong (λ i. ltb (layer_at arcs n l i i) (2 * suc l + k)) (λ i. ltb (layer_at p n l i i) (2 * suc l + k)) n
      (λ i il. by_bool (ltb (layer_at arcs n l i i) (2 * suc l + k))
      (λ e. let u = ltb-true (layer_at arcs n l i i) (2 * suc l + k) e in
      e ∙ sym (lt-ltb (layer_at p n l i i) (2 * suc l + k) (omega (arith, reached i l 0 i 0 il il (omega arith) (omega arith) (set_out l i ll il u)))))
      (λ e. e ∙ sym
      (le-ltb (layer_at p n l i i) (2 * suc l + k) (omega (arith, ltb-false (layer_at arcs n l i i) (2 * suc l + k) e, not_below l i i il il)))))

  -- the tight arcs close the same walks as all arcs
  pub loops_tight : (b l : ℕ) → b + l ≤ n → loops_at arcs n k b l ≡ loops_at p n k b l
  unfolding loops_at
  loops_tight zero l h = refl
  loops_tight (suc b) l h =
      ap₂ (λ i r. cond (ltb i n) (Some (found.Closed l i)) r) (same_loop l (omega arith)) (loops_tight b (suc l) (omega arith))

-- ---- the price of a tight arc, 133 for any other; from a place that no closed walk below k goes through no arc is tight
unfoldable pub tight_price : (arcs d : List ℕ) → ℕ → ℕ → ℕ → ℕ
tight_price arcs d k i j = cond (ltb (cell d i i) (64 + k)) (cond (ltb (cell arcs i j + cell d j i) (66 + k)) (cell arcs i j) 133) 133

pub tight_not : (arcs d : List ℕ) (k i j : ℕ) → 64 + k ≤ cell d i i → tight_price arcs d k i j ≡ 133
unfolding tight_price
tight_not arcs d k i j h = ap (λ x. cond x (cond (ltb (cell arcs i j + cell d j i) (66 + k)) (cell arcs i j) 133) 133) (le-ltb (cell d i i) (64 + k) h)

pub tight_arc : (arcs d : List ℕ) (k i j : ℕ) → cell d i i < 64 + k → cell arcs i j + cell d j i < 66 + k → tight_price arcs d k i j ≡ cell arcs i j
unfolding tight_price
tight_arc arcs d k i j h g =
    ap₂ (λ x y. cond x (cond y (cell arcs i j) 133) 133) (lt-ltb (cell d i i) (64 + k) h) (lt-ltb (cell arcs i j + cell d j i) (66 + k) g)

pub tight_loose : (arcs d : List ℕ) (k i j : ℕ) → cell d i i < 64 + k → 66 + k ≤ cell arcs i j + cell d j i → tight_price arcs d k i j ≡ 133
unfolding tight_price
tight_loose arcs d k i j h g =
    ap₂ (λ x y. cond x (cond y (cell arcs i j) 133) 133) (lt-ltb (cell d i i) (64 + k) h) (le-ltb (cell arcs i j + cell d j i) (66 + k) g)

either : (arcs d : List ℕ) (k i j : ℕ) → (tight_price arcs d k i j ≡ 133) ⊎ (tight_price arcs d k i j ≡ cell arcs i j)
unfolding tight_price
either arcs d k i j = go (ltb (cell d i i) (64 + k)) (ltb (cell arcs i j + cell d j i) (66 + k))
  where
    go : (x y : Bool) → (cond x (cond y (cell arcs i j) 133) 133 ≡ 133) ⊎ (cond x (cond y (cell arcs i j) 133) 133 ≡ cell arcs i j)
    go true true = inr refl
    go true false = inl refl
    go false y = inl refl

module _ (arcs d p : List ℕ) (n k : ℕ) (few : n ≤ 64) (small : Small n arcs) (shows : Rows p n (tight_price arcs d k)) where
  pub tight_small : Small n p
  tight_small i j h g = ⊎_elim (λ e. omega (arith, shows i j h g)) (λ e. omega (arith, shows i j h g, small i j h g)) (either arcs d k i j)

  pub tight_cheap : Cheap n arcs → Cheap n p
  tight_cheap cheap i j h g l = ⊎_elim
      (λ e. absurd (omega (arith, shows i j h g)))
      (λ e. omega (arith, shows i j h g, cheap i j h g (omega (arith, shows i j h g))))
      (either arcs d k i j)

  pub tight_pruned : Closed arcs d n → Pruned arcs d p n k
  tight_pruned C = record {
    above = λ i j h g. ⊎_elim
        (λ e. omega (arith, shows i j h (omega arith), small i j h (omega arith)))
        (λ e. omega (arith, shows i j h (omega arith)))
        (either arcs d k i j);
    tight = λ i j h g l. omega (
      arith,
      shows i j h (omega arith),
      tight_arc arcs d k i j (omega (arith, C.next i j i h g h)) l,
    );
  }

-- no closed walk is below k if the table has none
pub loops_none : (arcs d : List ℕ) (n k : ℕ) → n ≤ 64 → k ≤ 1 → Closed arcs d n → n ≤ diag_at (cell d) n (64 + k)
    → (b l : ℕ) → b + l ≤ n → loops_at arcs n k b l ≡ None
unfolding loops_at
loops_none arcs d n k few goal C h zero l s = refl
loops_none arcs d n k few goal C h (suc b) l s =
    ap (λ x. cond x (Some (found.Closed l (level_loop arcs n k l))) (loops_at arcs n k b (suc l)))
    (le-ltb (level_loop arcs n k l) n (omega (arith, no_loop arcs n k few goal l high)))
    ∙ loops_none arcs d n k few goal C h b (suc l) (omega arith)
  where
    from : (i : ℕ) → i < n → 64 + k ≤ cell d i i
    from i g = nltb→le (cell d i i) (64 + k) ((low_is (λ i. ltb (cell d i i) (64 + k)) n).1 i (omega arith))

    high : High arcs n k few goal l
    high i g = omega (arith, at_least arcs d n few C l i i g g, from i g)

-- ---- where no walk with a start and an end is below k the levels find closed walks alone
module _ (arcs terminals d : List ℕ) (n k : ℕ) (few : n ≤ 64) (goal : k ≤ 1) (C : Closed arcs d n) (wholes : n ≤ pair_at (cell d) terminals n (68 + k)) where
  whole_from : (i j : ℕ) → i < n → j < n → 68 + k ≤ cell d i j + cell terminals i j
  whole_from i j h g =
      let w : n ≤ ends_at (cell d) terminals n (68 + k) i =
      nltb→le (ends_at (cell d) terminals n (68 + k) i) n ((low_is (λ i. ltb (ends_at (cell d) terminals n (68 + k) i) n) n).1 i (omega arith)) in
      nltb→le (cell d i j + cell terminals i j) (68 + k) ((low_is (λ j. ltb (cell d i j + cell terminals i j) (68 + k)) n).1 j (omega arith))

  no_ends : (l i : ℕ) → l < n → i < n → ends_at (layer_at arcs n l) terminals n (2 * suc l + 4 + k) i ≡ n
  no_ends l i h g = low_none (λ j. ltb (layer_at arcs n l i j + cell terminals i j) (2 * suc l + 4 + k)) n
      (λ j f. le-ltb (layer_at arcs n l i j + cell terminals i j) (2 * suc l + 4 + k)
      (omega (arith, at_least arcs d n few C l i j g f, whole_from i j g f)))

  no_row : (l : ℕ) → l < n → level_row arcs terminals n k l ≡ n
  no_row l h = low_none (λ i. ltb (ends_at (layer_at arcs n l) terminals n (2 * suc l + 4 + k) i) n) n
      (λ i g. le-ltb (ends_at (layer_at arcs n l) terminals n (2 * suc l + 4 + k) i) n (omega (arith, no_ends l i h g)))

  -- the levels find what closed walks alone do
  pub levels_loops : (b l : ℕ) → b + l ≤ n → levels_at arcs terminals n k b l ≡ loops_at arcs n k b l
  unfolding levels_at loops_at
  levels_loops zero l h = refl
  levels_loops (suc b) l h =
      ap (λ y. cond (ltb (level_loop arcs n k l) n) (Some (found.Closed l (level_loop arcs n k l)))
      (cond y (Some (found.Open l (level_row arcs terminals n k l) (level_column arcs terminals n k l)))
      (cond (ltb (level_change arcs n l) n) (levels_at arcs terminals n k b (suc l)) None)))
      (le-ltb (level_row arcs terminals n k l) n (omega (arith, no_row l (omega arith))))
      ∙ ap (λ r. cond (ltb (level_loop arcs n k l) n) (Some (found.Closed l (level_loop arcs n k l)))
      (cond (ltb (level_change arcs n l) n) r None)) (levels_loops b (suc l) (omega arith))
      ∙ by_bool (ltb (level_loop arcs n k l) n)
      (λ e. ap (λ x. cond x (Some (found.Closed l (level_loop arcs n k l))) (cond (ltb (level_change arcs n l) n) (loops_at arcs n k b (suc l)) None)) e
      ∙ sym (ap (λ x. cond x (Some (found.Closed l (level_loop arcs n k l))) (loops_at arcs n k b (suc l))) e))
      (λ e. ap (λ x. cond x (Some (found.Closed l (level_loop arcs n k l))) (cond (ltb (level_change arcs n l) n) (loops_at arcs n k b (suc l)) None)) e
      ∙ by_bool (ltb (level_change arcs n l) n)
      (λ z. ap (λ x. cond x (loops_at arcs n k b (suc l)) None) z)
      (λ z. ap (λ x. cond x (loops_at arcs n k b (suc l)) None) z
      ∙ sym (quiet_none arcs n k few goal b (suc l) (omega arith)
      (quiet_next arcs n k few goal l (still l z))
      (high_next arcs n k few goal l (omega arith) (still l z) (high_is arcs n k few goal l (ltb-false (level_loop arcs n k l) n e)))))
      ∙ sym (ap (λ x. cond x (Some (found.Closed l (level_loop arcs n k l))) (loops_at arcs n k b (suc l))) e))
    where
      still : (l : ℕ) → ltb (level_change arcs n l) n ≡ false → Quiet arcs n k few goal l
      still l z = quiet_is arcs n k few goal l (ltb-false (level_change arcs n l) n z)
