-- The layers and the levels by places are those of the search, for a plan whose edges are es's first n, when two tables show the prices of the
-- arcs and of the ends: what is found by places stands for what the search finds.
use Prim.Native.Nat.{ℕ, zero, suc, ◌+◌, ◌*◌, ◌≤◌, ◌<◌}
use Rattle.std.proofs.Common.{arith, ◌∙◌}
use Rattle.std.specs.Prelude.{◌≡◌, Bool, true, false, ◌&&◌, List, [], map, leb, Option as Opt, Some, None}
use Rattle.std.proofs.Math.Path.{refl, sym, ap, ap₂}
use Rattle.std.proofs.Math.Bool.{not, cond}
use Rattle.std.proofs.Math.Option.{Option, none, some, or_else}
use Rattle.std.proofs.Math.Dec.{ltb}
use borrow.Author.Tests.{ltb-true, ltb-false, le-leb, lt-leb}
use Rattle.lists.specs.Test.{by_bool}
use Rattle.lists.specs.Sum.{range}
use Rattle.lists.specs.Keep.{product, all?}
use Rattle.lists.specs.Search.{low, low_cong}
use Rattle.lists.specs.First.{first, best}
use Rattle.model.specs.Instance.{Instance, surveyors, stands}
use Rattle.theory_verdict.specs.Search.{Hit, direct, loop, stay, via, kept, olds, terminal, arc, layer, walk_price, trace, as_path, room?, directs}
use Rattle.theory_verdict.specs.Search.{alone_at, loop_at, path_at, still, levels', search'}
use Rattle.arrays.specs.ArrayInstance.{at}
use Rattle.rival_tables.specs.Filled.{cell, Grid}
use Rattle.rival_tables.specs.Cheapest.{cheapest, cheapest_cong, best_map}
use Rattle.rival_levels.specs.Layers.{kept_price, layer_at}
use Rattle.rival_levels.specs.declared.Found.TheVariants as found
use Rattle.rival_levels.specs.declared.Found.{Found}
use Rattle.rival_levels.specs.Levels.{diag_at, ends_at, level_loop, level_row, level_column, level_change, levels_at}
use Rattle.rival_levels.specs.Firsts.{first_map, first_hit, first_miss, couple_hit, couple_miss, all_hit, all_miss}

-- what is found, by edges
abbrev pub hit_of : Instance → (ℕ → Bool) → List ℕ → Opt Found → Option Hit
hit_of G M es None = none
hit_of G M es (Some (found.Direct f)) = some (direct f)
hit_of G M es (Some (found.Alone i)) = some (as_path G M (at es i) (at es i) [])
hit_of G M es (Some (found.Closed l i)) = some (loop (at es i) (trace G M 133 l (at es i) (at es i)))
hit_of G M es (Some (found.Open l i j)) = some (as_path G M (at es i) (at es j) (trace G M 133 l (at es i) (at es j)))

-- the search by places: an edge with room at both ends, a walk without an arc, the levels
unfoldable pub search_at : (m : ℕ) (free : ℕ → Bool) (arcs terminals : List ℕ) → ℕ → ℕ → Opt Found
search_at m free arcs terminals n k =
    cond (ltb (low free m) m) (Some (found.Direct (low free m)))
    (cond (ltb (diag_at (cell terminals) n (4 + k)) n) (Some (found.Alone (diag_at (cell terminals) n (4 + k)))) (levels_at arcs terminals n k n 0))

module _ (G : Instance) (M : ℕ → Bool) (es : List ℕ) (n : ℕ) (lists : olds G M ≡ map (at es) (range 0 n))
    (arcs terminals : List ℕ) (arcsShow : Grid arcs n (λ i j. (arc G M 133 (at es i) (at es j)).0))
    (terminalsShow : Grid terminals n (λ i j. (terminal G M (at es i) (at es j)).0)) where
  -- the layers of the search are those of the table
  pub layer_is : (k i j : ℕ) → i < n → j < n → walk_price G M 133 k (at es i) (at es j) ≡ layer_at arcs n k i j
  unfolding layer layer_at
  layer_is zero i j il jl = sym (arcsShow i j il jl)
  layer_is (suc k) i j il jl =
      ap
      (λ xs. (best (λ y. ((arc G M 133 (at es i) y).0 + (layer G M 133 k y (at es j)).0, via y))
      (kept 133 (layer G M 133 k (at es i) (at es j)).0, stay) xs).0)
      lists
      ∙ best_map (λ y. ((arc G M 133 (at es i) y).0 + (layer G M 133 k y (at es j)).0, via y)) (at es)
      (kept 133 (layer G M 133 k (at es i) (at es j)).0, stay) 0 n
      ∙ ap (λ c. cheapest (λ y. true) (λ y. (arc G M 133 (at es i) (at es y)).0 + (layer G M 133 k (at es y) (at es j)).0) (kept_price c) 0 n)
      (layer_is k i j il jl)
      ∙ cheapest_cong (λ y. true) (λ y. true) (λ y. (arc G M 133 (at es i) (at es y)).0 + (layer G M 133 k (at es y) (at es j)).0)
      (λ y. cell arcs i y + layer_at arcs n k y j) (kept_price (layer_at arcs n k i j)) 0 n
      (λ y p q. refl) (λ y p q. ap₂ (λ a b. a + b) (sym (arcsShow i y il (omega arith))) (layer_is k y j (omega arith) jl))

  module _ (k : ℕ) where
    -- ---- closed walks
    abbrev loop_test : ℕ → ℕ → Bool
    loop_test l x = ltb (walk_price G M 133 l x x) (2 * suc l + k)

    loop_low : (l : ℕ) → low (λ i. loop_test l (at es i)) n ≡ level_loop arcs n k l
    loop_low l =
        low_cong (λ i. loop_test l (at es i)) (λ i. ltb (layer_at arcs n l i i) (2 * suc l + k)) n (λ i h. ap (λ c. ltb c (2 * suc l + k)) (layer_is l i i h h))

    abbrev make_loop : ℕ → ℕ → Hit
    make_loop l x = loop x (trace G M 133 l x x)

    loop_places : (l : ℕ) → loop_at G M 133 k l ≡ first (λ i. loop_test l (at es i)) (λ i. make_loop l (at es i)) (range 0 n)
    unfolding loop_at
    loop_places l = ap (first (loop_test l) (make_loop l)) lists ∙ first_map (loop_test l) (make_loop l) (at es) (range 0 n)

    loop_hit : (l : ℕ) → level_loop arcs n k l < n → loop_at G M 133 k l ≡ some (make_loop l (at es (level_loop arcs n k l)))
    loop_hit l h =
        loop_places l ∙ first_hit (λ i. loop_test l (at es i)) (λ i. make_loop l (at es i)) n (omega (arith, loop_low l))
        ∙ ap (λ i. some (make_loop l (at es i))) (loop_low l)

    loop_miss : (l : ℕ) → n ≤ level_loop arcs n k l → loop_at G M 133 k l ≡ none
    loop_miss l h = loop_places l ∙ first_miss (λ i. loop_test l (at es i)) (λ i. make_loop l (at es i)) n (omega (arith, loop_low l))

    -- ---- walks with a start and an end
    abbrev path_test : ℕ → ℕ × ℕ → Bool
    path_test l p = ltb (walk_price G M 133 l p.0 p.1 + (terminal G M p.0 p.1).0) (2 * suc l + 4 + k)

    abbrev make_path : ℕ → ℕ × ℕ → Hit
    make_path l p = as_path G M p.0 p.1 (trace G M 133 l p.0 p.1)

    path_column : (l i : ℕ) → i < n → low (λ j. path_test l (at es i, at es j)) n ≡ ends_at (layer_at arcs n l) terminals n (2 * suc l + 4 + k) i
    path_column l i h = low_cong (λ j. path_test l (at es i, at es j)) (λ j. ltb (layer_at arcs n l i j + cell terminals i j) (2 * suc l + 4 + k)) n
        (λ j g. ap₂ (λ c t. ltb (c + t) (2 * suc l + 4 + k)) (layer_is l i j h g) (sym (terminalsShow i j h g)))

    path_row : (l : ℕ) → low (λ i. ltb (low (λ j. path_test l (at es i, at es j)) n) n) n ≡ level_row arcs terminals n k l
    path_row l =
        low_cong (λ i. ltb (low (λ j. path_test l (at es i, at es j)) n) n) (λ i. ltb (ends_at (layer_at arcs n l) terminals n (2 * suc l + 4 + k) i) n)
        n (λ i h. ap (λ c. ltb c n) (path_column l i h))

    path_hit : (l : ℕ) → level_row arcs terminals n k l < n
        → path_at G M 133 k l ≡ some (make_path l (at es (level_row arcs terminals n k l), at es (level_column arcs terminals n k l)))
    unfolding path_at
    path_hit l h =
        let r : low (λ i. ltb (low (λ j. path_test l (at es i, at es j)) n) n) n ≡ level_row arcs terminals n k l = path_row l in
        ap (λ xs. first (path_test l) (make_path l) (product xs xs)) lists
        ∙ couple_hit (path_test l) (make_path l) (at es) n (omega arith)
        ∙ ap (λ i. some (make_path l (at es i, at es (low (λ j. path_test l (at es i, at es j)) n)))) r
        ∙ ap (λ j. some (make_path l (at es (level_row arcs terminals n k l), at es j))) (path_column l (level_row arcs terminals n k l) h)

    path_miss : (l : ℕ) → n ≤ level_row arcs terminals n k l → path_at G M 133 k l ≡ none
    unfolding path_at
    path_miss l h =
        let r : low (λ i. ltb (low (λ j. path_test l (at es i, at es j)) n) n) n ≡ level_row arcs terminals n k l = path_row l in
        ap (λ xs. first (path_test l) (make_path l) (product xs xs)) lists ∙ couple_miss (path_test l) (make_path l) (at es) n (omega arith)

    -- ---- the early stop
    abbrev still_test : ℕ → ℕ × ℕ → Bool
    still_test l p = leb (kept 133 (walk_price G M 133 l p.0 p.1)) (walk_price G M 133 (suc l) p.0 p.1)

    not_leb : (a b : ℕ) → not (leb a b) ≡ ltb b a
    not_leb a b = by_bool (ltb b a)
        (λ e. ap not (lt-leb a b (ltb-true b a e)) ∙ sym e)
        (λ e. ap not (le-leb a b (ltb-false b a e)) ∙ sym e)

    still_row : (l : ℕ) → low (λ i. ltb (low (λ j. not (still_test l (at es i, at es j))) n) n) n ≡ level_change arcs n l
    still_row l =
        low_cong (λ i. ltb (low (λ j. not (still_test l (at es i, at es j))) n) n)
        (λ i. ltb (low (λ j. ltb (layer_at arcs n (suc l) i j) (kept_price (layer_at arcs n l i j))) n) n) n
        (λ i h. ap (λ c. ltb c n)
        (low_cong (λ j. not (still_test l (at es i, at es j))) (λ j. ltb (layer_at arcs n (suc l) i j) (kept_price (layer_at arcs n l i j))) n
        (λ j g. not_leb (kept 133 (walk_price G M 133 l (at es i) (at es j))) (walk_price G M 133 (suc l) (at es i) (at es j))
        ∙ ap₂ (λ a b. ltb a (kept_price b)) (layer_is (suc l) i j h g) (layer_is l i j h g))))

    still_hit : (l : ℕ) → n ≤ level_change arcs n l → still G M 133 k l ≡ true
    unfolding still
    still_hit l h =
        let r : low (λ i. ltb (low (λ j. not (still_test l (at es i, at es j))) n) n) n ≡ level_change arcs n l = still_row l in
        ap (λ xs. all? (still_test l) (product xs xs)) lists ∙ all_hit (still_test l) (at es) n (omega arith)

    still_miss : (l : ℕ) → level_change arcs n l < n → still G M 133 k l ≡ false
    unfolding still
    still_miss l h =
        let r : low (λ i. ltb (low (λ j. not (still_test l (at es i, at es j))) n) n) n ≡ level_change arcs n l = still_row l in
        ap (λ xs. all? (still_test l) (product xs xs)) lists ∙ all_miss (still_test l) (at es) n (omega arith)

    -- ---- the levels
    abbrev say : Opt Found → Option Hit
    say = hit_of G M es

    pub levels_are : (b l : ℕ) → say (levels_at arcs terminals n k b l) ≡ levels' G M 133 k b l
    unfolding levels_at levels' or_else
    levels_are zero l = refl
    levels_are (suc b) l = by_bool (ltb (level_loop arcs n k l) n)
        (λ e. ap (λ x. say (cond x (Some (found.Closed l (level_loop arcs n k l))) beyond)) e
        ∙ sym
        (ap (λ o. or_else o (or_else (path_at G M 133 k l) (cond (still G M 133 k l) none (levels' G M 133 k b (suc l)))))
        (loop_hit l (ltb-true (level_loop arcs n k l) n e))))
        (λ e. ap (λ x. say (cond x (Some (found.Closed l (level_loop arcs n k l))) beyond)) e ∙ rest (levels_are b (suc l))
        ∙ sym
        (ap (λ o. or_else o (or_else (path_at G M 133 k l) (cond (still G M 133 k l) none (levels' G M 133 k b (suc l)))))
        (loop_miss l (ltb-false (level_loop arcs n k l) n e))))
      where
        later : Opt Found
        later = cond (ltb (level_change arcs n l) n) (levels_at arcs terminals n k b (suc l)) None

        beyond : Opt Found
        beyond = cond (ltb (level_row arcs terminals n k l) n) (Some (found.Open l (level_row arcs terminals n k l) (level_column arcs terminals n k l))) later

        last : say (levels_at arcs terminals n k b (suc l)) ≡ levels' G M 133 k b (suc l)
            → say later ≡ cond (still G M 133 k l) none (levels' G M 133 k b (suc l))
        last ih = by_bool (ltb (level_change arcs n l) n)
            (λ e. ap (λ x. say (cond x (levels_at arcs terminals n k b (suc l)) None)) e ∙ ih
            ∙ sym (ap (λ x. cond x none (levels' G M 133 k b (suc l))) (still_miss l (ltb-true (level_change arcs n l) n e))))
            (λ e. ap (λ x. say (cond x (levels_at arcs terminals n k b (suc l)) None)) e
            ∙ sym (ap (λ x. cond x none (levels' G M 133 k b (suc l))) (still_hit l (ltb-false (level_change arcs n l) n e))))

        rest : say (levels_at arcs terminals n k b (suc l)) ≡ levels' G M 133 k b (suc l)
            → say beyond ≡ or_else (path_at G M 133 k l) (cond (still G M 133 k l) none (levels' G M 133 k b (suc l)))
        rest ih = by_bool (ltb (level_row arcs terminals n k l) n)
            (λ e. ap (λ x. say (cond x (Some (found.Open l (level_row arcs terminals n k l) (level_column arcs terminals n k l))) later)) e
            ∙ sym
            (ap (λ o. or_else o (cond (still G M 133 k l) none (levels' G M 133 k b (suc l)))) (path_hit l (ltb-true (level_row arcs terminals n k l) n e))))
            (λ e. ap (λ x. say (cond x (Some (found.Open l (level_row arcs terminals n k l) (level_column arcs terminals n k l))) later)) e ∙ last ih
            ∙ sym
            (ap (λ o. or_else o (cond (still G M 133 k l) none (levels' G M 133 k b (suc l))))
            (path_miss l (ltb-false (level_row arcs terminals n k l) n e))))

    -- ---- the alternating path search
    abbrev alone_test : ℕ → Bool
    alone_test x = ltb (terminal G M x x).0 (4 + k)

    abbrev make_alone : ℕ → Hit
    make_alone x = as_path G M x x []

    alone_low : low (λ i. alone_test (at es i)) n ≡ diag_at (cell terminals) n (4 + k)
    alone_low = low_cong (λ i. alone_test (at es i)) (λ i. ltb (cell terminals i i) (4 + k)) n (λ i h. ap (λ c. ltb c (4 + k)) (sym (terminalsShow i i h h)))

    alone_places : alone_at G M 133 k ≡ first (λ i. alone_test (at es i)) (λ i. make_alone (at es i)) (range 0 n)
    unfolding alone_at
    alone_places = ap (first alone_test make_alone) lists ∙ first_map alone_test make_alone (at es) (range 0 n)

    module _ (free : ℕ → Bool) (frees : (f : ℕ) → f < G.m → free f ≡ not (M f) && (room? M (surveyors G) f && room? M (stands G) f)) where
      abbrev free_test : ℕ → Bool
      free_test f = not (M f) && (room? M (surveyors G) f && room? M (stands G) f)

      free_low : low free_test G.m ≡ low free G.m
      free_low = low_cong free_test free G.m (λ f h. sym (frees f h))

      -- what the search by places finds is what the search finds
      pub search_is : say (search_at G.m free arcs terminals n k) ≡ search' G M 133 k n
      unfolding search_at search' directs or_else
      search_is = by_bool (ltb (low free G.m) G.m)
          (λ e. ap (λ x. say (cond x (Some (found.Direct (low free G.m))) onward)) e
          ∙ sym
          (ap (λ o. or_else o (or_else (alone_at G M 133 k) (levels' G M 133 k n 0)))
          (first_hit free_test direct G.m (omega (arith, free_low, ltb-true (low free G.m) G.m e)) ∙ ap (λ f. some (direct f)) free_low)))
          (λ e. ap (λ x. say (cond x (Some (found.Direct (low free G.m))) onward)) e ∙ rest
          ∙ sym
          (ap (λ o. or_else o (or_else (alone_at G M 133 k) (levels' G M 133 k n 0)))
          (first_miss free_test direct G.m (omega (arith, free_low, ltb-false (low free G.m) G.m e)))))
        where
          diag : ℕ
          diag = diag_at (cell terminals) n (4 + k)

          onward : Opt Found
          onward = cond (ltb diag n) (Some (found.Alone diag)) (levels_at arcs terminals n k n 0)

          rest : say onward ≡ or_else (alone_at G M 133 k) (levels' G M 133 k n 0)
          rest = by_bool (ltb diag n)
              (λ e. ap (λ x. say (cond x (Some (found.Alone diag)) (levels_at arcs terminals n k n 0))) e
              ∙ sym
              (ap (λ o. or_else o (levels' G M 133 k n 0))
              (alone_places ∙ first_hit (λ i. alone_test (at es i)) (λ i. make_alone (at es i)) n (omega (arith, alone_low, ltb-true diag n e))
              ∙ ap (λ i. some (make_alone (at es i))) alone_low)))
              (λ e. ap (λ x. say (cond x (Some (found.Alone diag)) (levels_at arcs terminals n k n 0))) e ∙ levels_are n 0
              ∙ sym
              (ap (λ o. or_else o (levels' G M 133 k n 0))
              (alone_places ∙ first_miss (λ i. alone_test (at es i)) (λ i. make_alone (at es i)) n (omega (arith, alone_low, ltb-false diag n e)))))
