-- What the tests of a layer find, as places in the plan's list, and the search level by level: closed walks first, then walks with a start
-- and an end, until a layer is nowhere lower than the one before.
use Rattle.std.specs.Prelude.{ℕ, zero, suc, ◌+◌, ◌-◌, ◌*◌, ◌≤◌, ◌<◌, ◌≡◌, refl, ◌⊎◌, Bool, true, false, cond, List, ltb, Option, Some, None, is_some}
use Rattle.std.proofs.Common.{arith, add-one, sym, ap, ap₂, ◌∙◌, inl, inr, lt-ltb, le-ltb, ltb-true, ltb-false}
use Rattle.lists.specs.Test.{by_bool}
use Rattle.lists.specs.Search.{low, low_cong}
use Rattle.rival_tables.specs.Filled.{cell, Rows}
use Rattle.rival_levels.specs.Layers.{kept_price, layer_at}
use Rattle.rival_levels.specs.declared.Place.{Place}
use Rattle.rival_levels.specs.declared.Found.TheVariants as found
use Rattle.rival_levels.specs.declared.Found.{Found}

-- no two ends are dearer than 6
abbrev pub SmallEnds : ℕ → List ℕ → Type 0
SmallEnds n terminals = (i j : ℕ) → i < n → j < n → cell terminals i j ≤ 6

-- ---- the tests of a table: the first place on the diagonal that is below a bound; the first row in which some price with its ends is, and the
-- column; the first row in which the next table is lower than the table kept, and the column
abbrev pub diag_at : (f : ℕ → ℕ → ℕ) → ℕ → ℕ → ℕ
diag_at f n bound = low (λ i. ltb (f i i) bound) n

-- the first column in which row i, with its ends, is below the bound
abbrev pub ends_at : (f : ℕ → ℕ → ℕ) (terminals : List ℕ) → ℕ → ℕ → ℕ → ℕ
ends_at f terminals n bound i = low (λ j. ltb (f i j + cell terminals i j) bound) n

-- the first row that has such a column
abbrev pub pair_at : (f : ℕ → ℕ → ℕ) (terminals : List ℕ) → ℕ → ℕ → ℕ
pair_at f terminals n bound = low (λ i. ltb (ends_at f terminals n bound i) n) n

-- the place, if there is one
abbrev pub place_at : (f : ℕ → ℕ → ℕ) (terminals : List ℕ) → ℕ → ℕ → Option Place
place_at f terminals n bound =
    let r = pair_at f terminals n bound in
    cond (ltb r n) (Some (record { row = r; column = ends_at f terminals n bound r })) None

-- to answer it, and to read it
pub some_place : (f : ℕ → ℕ → ℕ) (terminals : List ℕ) (n bound r c : ℕ) → r ≡ pair_at f terminals n bound → r < n → c ≡ ends_at f terminals n bound r
    → ◌≡◌ {A = Option Place} (Some (record { row = r; column = c })) (place_at f terminals n bound)
some_place f terminals n bound r c e h q =
    ap₂ (λ (r c : ℕ). Some (record { row = r; column = c })) e (q ∙ ap (ends_at f terminals n bound) e)
    ∙ sym (ap (λ (b : Bool). cond b (Some (record { row = pair_at f terminals n bound; column = ends_at f terminals n bound (pair_at f terminals n bound) })) None)
    (ap (λ z. ltb z n) (sym e) ∙ lt-ltb r n h))

pub no_place : (f : ℕ → ℕ → ℕ) (terminals : List ℕ) (n bound : ℕ) → n ≤ pair_at f terminals n bound
    → ◌≡◌ {A = Option Place} None (place_at f terminals n bound)
no_place f terminals n bound h =
    sym (ap (λ (b : Bool). cond b (Some (record { row = pair_at f terminals n bound; column = ends_at f terminals n bound (pair_at f terminals n bound) })) None)
    (le-ltb (pair_at f terminals n bound) n h))

pub found_place : {o : Option Place} (f : ℕ → ℕ → ℕ) (terminals : List ℕ) (n bound : ℕ) (p : Place) → o ≡ Some p → o ≡ place_at f terminals n bound
    → (p.row ≡ pair_at f terminals n bound) × (p.row < n) × (p.column ≡ ends_at f terminals n bound p.row)
found_place f terminals n bound p h e =
    let r = pair_at f terminals n bound in
    let w : Place = record { row = r; column = ends_at f terminals n bound r } in
    by_bool (ltb r n)
    (λ t. let q : ◌≡◌ {A = Option Place} (Some p) (Some w) = sym h ∙ e ∙ ap (λ (b : Bool). cond b (Some w) None) t in
    let s : p ≡ w = cc in (
      ap (λ (x : Place). x.row) s,
      omega (arith, ltb-true r n t, ap (λ (x : Place). x.row) s),
      ap (λ (x : Place). x.column) s ∙ ap (ends_at f terminals n bound) (sym (ap (λ (x : Place). x.row) s)),
    ))
    (λ t. let q : ◌≡◌ {A = Option Place} (Some p) None = sym h ∙ e ∙ ap (λ (b : Bool). cond b (Some w) None) t in cc)

pub none_place : {o : Option Place} (f : ℕ → ℕ → ℕ) (terminals : List ℕ) (n bound : ℕ) → o ≡ None → o ≡ place_at f terminals n bound
    → n ≤ pair_at f terminals n bound
none_place f terminals n bound h e =
    let r = pair_at f terminals n bound in
    let w : Place = record { row = r; column = ends_at f terminals n bound r } in
    by_bool (ltb r n)
    (λ t. let q : ◌≡◌ {A = Option Place} None (Some w) = sym h ∙ e ∙ ap (λ (b : Bool). cond b (Some w) None) t in cc)
    (λ t. ltb-false r n t)

-- where it is asked only whether there is such a place: none, so no row is below n
pub none_is_place : {o : Option Place} (f : ℕ → ℕ → ℕ) (terminals : List ℕ) (n bound : ℕ) → is_some o ≡ false → o ≡ place_at f terminals n bound
    → n ≤ pair_at f terminals n bound
none_is_place f terminals n bound h e =
    let r = pair_at f terminals n bound in
    let w : Place = record { row = r; column = ends_at f terminals n bound r } in
    by_bool (ltb r n)
    (λ t. let q : true ≡ false = sym (ap is_some (e ∙ ap (λ (b : Bool). cond b (Some w) None) t)) ∙ h in cc)
    (λ t. ltb-false r n t)

-- the first column in which g is lower than f kept
abbrev pub lowered_at : (f g : ℕ → ℕ → ℕ) → ℕ → ℕ → ℕ
lowered_at f g n i = low (λ j. ltb (g i j) (kept_price (f i j))) n

-- the first row that has such a column
abbrev pub changed_at : (f g : ℕ → ℕ → ℕ) → ℕ → ℕ
changed_at f g n = low (λ i. ltb (lowered_at f g n i) n) n

-- ---- the levels: b of them from level l on
abbrev pub level_loop : List ℕ → ℕ → ℕ → ℕ → ℕ
level_loop arcs n k l = diag_at (layer_at arcs n l) n (2 * suc l + k)

-- the row of the first walk of level l with a start and an end
abbrev pub level_row : (arcs terminals : List ℕ) → ℕ → ℕ → ℕ → ℕ
level_row arcs terminals n k l = pair_at (layer_at arcs n l) terminals n (2 * suc l + 4 + k)

-- its column
abbrev pub level_column : (arcs terminals : List ℕ) → ℕ → ℕ → ℕ → ℕ
level_column arcs terminals n k l = ends_at (layer_at arcs n l) terminals n (2 * suc l + 4 + k) (level_row arcs terminals n k l)

-- the first row in which layer l + 1 is lower than layer l kept
abbrev pub level_change : List ℕ → ℕ → ℕ → ℕ
level_change arcs n l = changed_at (layer_at arcs n l) (layer_at arcs n (suc l)) n

abbrev pub level_at : (arcs terminals : List ℕ) → ℕ → ℕ → ℕ → Option Found → Option Found
level_at arcs terminals n k l rest = cond (ltb (level_loop arcs n k l) n) (Some (found.Closed l (level_loop arcs n k l)))
    (cond (ltb (level_row arcs terminals n k l) n) (Some (found.Open l (level_row arcs terminals n k l) (level_column arcs terminals n k l)))
    (cond (ltb (level_change arcs n l) n) rest None))

-- what b levels from level l on find
unfoldable pub levels_at : (arcs terminals : List ℕ) → ℕ → ℕ → ℕ → ℕ → Option Found
levels_at arcs terminals n k zero l = None
levels_at arcs terminals n k (suc b) l = level_at arcs terminals n k l (levels_at arcs terminals n k b (suc l))

pub levels_turn : (arcs terminals : List ℕ) (n k b l : ℕ) → l < b
    → levels_at arcs terminals n k (b - l) l ≡ level_at arcs terminals n k l (levels_at arcs terminals n k (b - (l + 1)) (l + 1))
unfolding levels_at
levels_turn arcs terminals n k b l h = let e : b - l ≡ suc (b - (l + 1)) = omega arith in rw (e, add-one)

pub levels_end : (arcs terminals : List ℕ) (n k b l : ℕ) → b ≤ l → levels_at arcs terminals n k (b - l) l ≡ None
unfolding levels_at
levels_end arcs terminals n k b l h = let e : b - l ≡ 0 = omega arith in rw e

pub levels_start : (arcs terminals : List ℕ) (n k b : ℕ) → levels_at arcs terminals n k (b - 0) 0 ≡ levels_at arcs terminals n k b 0
levels_start arcs terminals n k b = let e : b - 0 ≡ b = omega arith in ap (λ c. levels_at arcs terminals n k c 0) e

-- levels that find something find what more levels do
more : (a b : Option Found) (x y z : Bool) (r s : Option Found) → (r ≡ None) ⊎ (s ≡ r)
    → (cond x a (cond y b (cond z r None)) ≡ None)
    ⊎ (cond x a (cond y b (cond z s None)) ≡ cond x a (cond y b (cond z r None)))
more a b true y z r s h = inr refl
more a b false true z r s h = inr refl
more a b false false true r s h = h
more a b false false false r s h = inl refl

-- more levels find what fewer found
pub levels_more : (arcs terminals : List ℕ) (n k b c l : ℕ) → b ≤ c
    → (levels_at arcs terminals n k b l ≡ None) ⊎ (levels_at arcs terminals n k c l ≡ levels_at arcs terminals n k b l)
unfolding levels_at
levels_more arcs terminals n k zero c l h = inl refl
levels_more arcs terminals n k (suc b) zero l h = absurd (omega arith)
levels_more arcs terminals n k (suc b) (suc c) l h =
    more (Some (found.Closed l (level_loop arcs n k l))) (Some (found.Open l (level_row arcs terminals n k l) (level_column arcs terminals n k l)))
    (ltb (level_loop arcs n k l) n) (ltb (level_row arcs terminals n k l) n) (ltb (level_change arcs n l) n)
    (levels_at arcs terminals n k b (suc l)) (levels_at arcs terminals n k c (suc l)) (levels_more arcs terminals n k b c (suc l) (omega arith))

-- ---- a table that shows a layer finds what the layer does
module _ (arcs terminals d : List ℕ) (n k l : ℕ) (fits : n ≤ 64) (shows : Rows d n (layer_at arcs n l)) where
  -- the diagonal of a table that shows layer l
  pub loop_is : (bound i : ℕ) → bound ≡ 2 * suc l + k → i ≡ diag_at (cell d) n bound → i ≡ level_loop arcs n k l
  loop_is bound i e q =
      q ∙ low_cong (λ i. ltb (cell d i i) bound) (λ i. ltb (layer_at arcs n l i i) (2 * suc l + k)) n (λ i h. ap₂ ltb (shows i i h (omega arith)) e)

  ends_is : (bound i : ℕ) → bound ≡ 2 * suc l + 4 + k → i < n
      → ends_at (cell d) terminals n bound i ≡ ends_at (layer_at arcs n l) terminals n (2 * suc l + 4 + k) i
  ends_is bound i e h = low_cong (λ j. ltb (cell d i j + cell terminals i j) bound) (λ j. ltb (layer_at arcs n l i j + cell terminals i j) (2 * suc l + 4 + k)) n
      (λ j g. ap₂ (λ x y. ltb (x + cell terminals i j) y) (shows i j h (omega arith)) e)

  pub row_is : (bound r : ℕ) → bound ≡ 2 * suc l + 4 + k → r ≡ pair_at (cell d) terminals n bound → r ≡ level_row arcs terminals n k l
  row_is bound r e q =
      q
      ∙ low_cong (λ i. ltb (ends_at (cell d) terminals n bound i) n) (λ i. ltb (ends_at (layer_at arcs n l) terminals n (2 * suc l + 4 + k) i) n) n
      (λ i h. ap (λ x. ltb x n) (ends_is bound i e h))

  pub column_is : (bound r c : ℕ) → bound ≡ 2 * suc l + 4 + k → r ≡ pair_at (cell d) terminals n bound → r < n
      → c ≡ ends_at (cell d) terminals n bound r → c ≡ level_column arcs terminals n k l
  column_is bound r c e q h p = p ∙ ends_is bound r e h ∙ ap (ends_at (layer_at arcs n l) terminals n (2 * suc l + 4 + k)) (row_is bound r e q)

  pub change_is : (e : List ℕ) (c : ℕ) → Rows e n (layer_at arcs n (suc l)) → c ≡ changed_at (cell d) (cell e) n → c ≡ level_change arcs n l
  change_is e c g q = q ∙ low_cong (λ i. ltb (lowered_at (cell d) (cell e) n i) n) (λ i. ltb (lowered_at (layer_at arcs n l) (layer_at arcs n (suc l)) n i) n) n
      (λ i h. ap (λ x. ltb x n)
      (low_cong (λ j. ltb (cell e i j) (kept_price (cell d i j))) (λ j. ltb (layer_at arcs n (suc l) i j) (kept_price (layer_at arcs n l i j))) n
      (λ j p. ap₂ (λ x y. ltb x (kept_price y)) (g i j h (omega arith)) (shows i j h (omega arith)))))

-- ---- the ways out of a level
module _ (arcs terminals : List ℕ) (n k l : ℕ) (rest : Option Found) where
  abbrev ask : Bool → Bool → Bool → Option Found
  ask x y z =
      cond x (Some (found.Closed l (level_loop arcs n k l)))
      (cond y (Some (found.Open l (level_row arcs terminals n k l) (level_column arcs terminals n k l))) (cond z rest None))

  pub out_closed : (i : ℕ) → i ≡ level_loop arcs n k l → i < n → Some (found.Closed l i) ≡ level_at arcs terminals n k l rest
  out_closed i e h =
      ap (λ i. Some (found.Closed l i)) e
      ∙ sym (ap (λ x. ask x (ltb (level_row arcs terminals n k l) n) (ltb (level_change arcs n l) n)) (ap (λ j. ltb j n) (sym e) ∙ lt-ltb i n h))

  pub out_open : (i r c : ℕ) → i ≡ level_loop arcs n k l → n ≤ i → r ≡ level_row arcs terminals n k l → r < n → c ≡ level_column arcs terminals n k l
      → Some (found.Open l r c) ≡ level_at arcs terminals n k l rest
  out_open i r c e h p g q = ap₂ (λ r c. Some (found.Open l r c)) p q
      ∙ sym (ap₂ (λ x y. ask x y (ltb (level_change arcs n l) n)) (ap (λ j. ltb j n) (sym e) ∙ le-ltb i n h) (ap (λ j. ltb j n) (sym p) ∙ lt-ltb r n g))

  missed : (i r : ℕ) → i ≡ level_loop arcs n k l → n ≤ i → r ≡ level_row arcs terminals n k l → n ≤ r
      → level_at arcs terminals n k l rest ≡ cond (ltb (level_change arcs n l) n) rest None
  missed i r e h p g = ap₂ (λ x y. ask x y (ltb (level_change arcs n l) n)) (ap (λ j. ltb j n) (sym e) ∙ le-ltb i n h) (ap (λ j. ltb j n) (sym p) ∙ le-ltb r n g)

  pub out_nothing : (i r c : ℕ) → i ≡ level_loop arcs n k l → n ≤ i → r ≡ level_row arcs terminals n k l → n ≤ r → c ≡ level_change arcs n l → n ≤ c
      → None ≡ level_at arcs terminals n k l rest
  out_nothing i r c e h p g q f = sym (missed i r e h p g ∙ ap (λ x. cond x rest None) (ap (λ j. ltb j n) (sym q) ∙ le-ltb c n f))

  pub out_on : (i r c : ℕ) → i ≡ level_loop arcs n k l → n ≤ i → r ≡ level_row arcs terminals n k l → n ≤ r → c ≡ level_change arcs n l → c < n
      → rest ≡ level_at arcs terminals n k l rest
  out_on i r c e h p g q f = sym (missed i r e h p g ∙ ap (λ x. cond x rest None) (ap (λ j. ltb j n) (sym q) ∙ lt-ltb c n f))

  -- the last of the levels asked for
  pub out_last : (i r : ℕ) → i ≡ level_loop arcs n k l → n ≤ i → r ≡ level_row arcs terminals n k l → n ≤ r → rest ≡ None
      → None ≡ level_at arcs terminals n k l rest
  out_last i r e h p g q = sym (missed i r e h p g ∙ either (ltb (level_change arcs n l) n))
    where
      either : (z : Bool) → cond z rest None ≡ None
      either true = q
      either false = refl
