-- The search below 0, and the search below 1 if that one finds nothing: what is found, by places that are there.
use Prim.Native.Nat.{ℕ, zero, suc, ◌+◌, ◌*◌, ◌≤◌, ◌<◌}
use native.Mathlib.Omega.{arith}
use Rattle.std.specs.Prelude.{◌≡◌, refl, Bool, List, Option, Some, None}
use Rattle.std.proofs.Common.{sym, ap₂, ◌∙◌, subst}
use Rattle.std.proofs.Math.Path.{ap}
use Rattle.std.proofs.Math.Bool.{cond}
use Rattle.std.proofs.Math.Option.{or_else}
use Rattle.std.proofs.Math.Dec.{ltb, ltb→lt}
use borrow.Author.Tests.{lt-ltb, le-ltb}
use Rattle.lists.specs.Test.{if-ind}
use Rattle.lists.specs.Search.{low, low_is}
use Rattle.model.specs.Instance.{Instance}
use Rattle.arrays.specs.ArrayInstance.{at}
use Rattle.rival_tables.specs.Filled.{cell, Grid, Rows}
use Rattle.rival_levels.specs.Layers.{layer_at, Small, Cheap}
use Rattle.rival_levels.specs.declared.Found.TheVariants as found
use Rattle.rival_levels.specs.declared.Found.{Found}
use Rattle.rival_levels.specs.Levels.{diag_at, ends_at, level_loop, level_row, level_column, level_change, levels_at, SmallEnds}
use Rattle.rival_levels.specs.Walks.{hit_of, search_at}
use Rattle.rival_search.specs.declared.Hunt.{Hunt}
use Rattle.rival_search.specs.declared.Hunt.TheVariants as hunt
use Rattle.rival_search.specs.SearchView.{free_at, arc_cell, terminal_cell, arc_small, arc_cheap, but_small}

-- what was found below 0, or else below 1
abbrev pub searched : Option Found → Option Found → Hunt
searched (Some f) o = hunt.Win f
searched None (Some f) = hunt.Draw f
searched None None = hunt.Nothing

-- what was found, whether below 0 or below 1
abbrev pub found_in : Hunt → Option Found
found_in (hunt.Win f) = Some f
found_in (hunt.Draw f) = Some f
found_in hunt.Nothing = None

-- the search below k where no edge has room at both ends: a walk without an arc, or the levels
abbrev pub places_at : (arcs terminals : List ℕ) → ℕ → ℕ → Option Found
places_at arcs terminals n k =
    cond (ltb (diag_at (cell terminals) n (4 + k)) n) (Some (found.Alone (diag_at (cell terminals) n (4 + k)))) (levels_at arcs terminals n k n 0)

-- what both searches find on the two tables, where no edge has room at both ends
abbrev pub OnTables : (arcs terminals : List ℕ) → ℕ → Hunt → Type 0
OnTables arcs terminals n hunt = hunt ≡ (searched (places_at arcs terminals n 0) (places_at arcs terminals n 1))

-- the ways out of it
module _ (arcs terminals : List ℕ) (n k i : ℕ) (e : i ≡ diag_at (cell terminals) n (4 + k)) where
  abbrev onward : Bool → Option Found
  onward x = cond x (Some (found.Alone (diag_at (cell terminals) n (4 + k)))) (levels_at arcs terminals n k n 0)

  -- a walk without an arc
  pub out_alone : i < n → Some (found.Alone i) ≡ places_at arcs terminals n k
  out_alone h = ap (λ i. Some (found.Alone i)) e ∙ sym (ap onward (ap (λ z. ltb z n) (sym e) ∙ lt-ltb i n h))

  pub out_levels : n ≤ i → levels_at arcs terminals n k n 0 ≡ places_at arcs terminals n k
  out_levels h = sym (ap onward (ap (λ z. ltb z n) (sym e) ∙ le-ltb i n h))

-- an edge with room at both ends comes before
module _ (m : ℕ) (free : ℕ → Bool) (arcs terminals : List ℕ) (n f : ℕ) (e : f ≡ low free m) where
  -- such an edge is found
  pub search_direct : (k : ℕ) → f < m → search_at m free arcs terminals n k ≡ Some (found.Direct f)
  unfolding search_at
  search_direct k h =
      ap (λ x. cond x (Some (found.Direct (low free m))) (places_at arcs terminals n k)) (ap (λ z. ltb z m) (sym e) ∙ lt-ltb f m h) ∙ ap (λ i. Some (found.Direct i)) (sym e)

  -- there is none: the search goes on by places
  pub search_places : (k : ℕ) → m ≤ f → search_at m free arcs terminals n k ≡ places_at arcs terminals n k
  unfolding search_at
  search_places k h = ap (λ x. cond x (Some (found.Direct (low free m))) (places_at arcs terminals n k)) (ap (λ z. ltb z m) (sym e) ∙ le-ltb f m h)

-- on the table of the arcs and that of the ends
abbrev pub Searched : (m : ℕ) (sv st rs rt : List ℕ) (plan : List Bool) (n : ℕ) (ps pt rps rpt : List ℕ) (room_s room_t : List Bool) (arcs : List ℕ)
    → Hunt → Type 0
Searched m sv st rs rt plan n ps pt rps rpt room_s room_t arcs hunt =
    (terminals : List ℕ) × Grid terminals n (terminal_cell m sv st rs rt plan room_s room_t ps pt rps rpt)
    × (hunt ≡ (searched (search_at m (free_at sv st plan room_s room_t) arcs terminals n 0) (search_at m (free_at sv st plan room_s room_t) arcs terminals n 1)))

-- what both searches find, by edges
pub searched_hit : (G : Instance) (M : ℕ → Bool) (es : List ℕ) (a b : Option Found)
    → hit_of G M es (found_in (searched a b)) ≡ or_else (hit_of G M es a) (hit_of G M es b)
unfolding or_else
searched_hit G M es None None = refl
searched_hit G M es None (Some f) = refl
searched_hit G M es (Some (found.Direct f)) b = refl
searched_hit G M es (Some (found.Alone i)) b = refl
searched_hit G M es (Some (found.Closed l i)) b = refl
searched_hit G M es (Some (found.Open l i j)) b = refl

-- ---- the places are there
abbrev pub Bounded : ℕ → ℕ → Option Found → Type 0
Bounded m n None = Unit {0}
Bounded m n (Some (found.Direct f)) = f < m
Bounded m n (Some (found.Alone i)) = i < n
Bounded m n (Some (found.Closed l i)) = (l < n) × (i < n)
Bounded m n (Some (found.Open l i j)) = (l < n) × (i < n) × (j < n)

searched_bounded : (m n : ℕ) (a b : Option Found) → Bounded m n a → Bounded m n b → Bounded m n (found_in (searched a b))
searched_bounded m n (Some f) b p q = p
searched_bounded m n None (Some f) p q = q
searched_bounded m n None None p q = tt

module _ (m : ℕ) (arcs terminals : List ℕ) (n k : ℕ) where
  levels_bounded : (b l : ℕ) → b + l ≤ n → Bounded m n (levels_at arcs terminals n k b l)
  unfolding levels_at
  levels_bounded zero l h = tt
  levels_bounded (suc b) l h = if-ind (Bounded m n) (ltb (level_loop arcs n k l) n)
      (λ t. (omega arith, ltb→lt (level_loop arcs n k l) n t))
      (λ t. if-ind (Bounded m n) (ltb (level_row arcs terminals n k l) n)
      (λ t. let r = ltb→lt (level_row arcs terminals n k l) n t in (omega arith, r, column r))
      (λ t. if-ind (Bounded m n) (ltb (level_change arcs n l) n) (λ t. levels_bounded b (suc l) (omega arith)) (λ t. tt)))
    where
      column : level_row arcs terminals n k l < n → level_column arcs terminals n k l < n
      column h =
          let (a, b, c) = low_is (λ i. ltb (ends_at (layer_at arcs n l) terminals n (2 * suc l + 4 + k) i) n) n in
          ltb→lt (level_column arcs terminals n k l) n (c h)

  places_bounded : Bounded m n (places_at arcs terminals n k)
  places_bounded = if-ind (Bounded m n) (ltb (diag_at (cell terminals) n (4 + k)) n)
      (λ t. ltb→lt (diag_at (cell terminals) n (4 + k)) n t)
      (λ t. levels_bounded n 0 (omega arith))

  search_bounded : (free : ℕ → Bool) → Bounded m n (search_at m free arcs terminals n k)
  unfolding search_at
  search_bounded free = if-ind (Bounded m n) (ltb (low free m) m) (λ t. ltb→lt (low free m) m t) (λ t. places_bounded)

-- what both searches find on the two tables is there
pub tables_bounded : (m : ℕ) (arcs terminals : List ℕ) (n : ℕ) (hunt : Hunt) → OnTables arcs terminals n hunt → Bounded m n (found_in hunt)
tables_bounded m arcs terminals n hunt e = subst (λ (h : Hunt). Bounded m n (found_in h)) (sym e)
    (searched_bounded m n (places_at arcs terminals n 0) (places_at arcs terminals n 1) (places_bounded m arcs terminals n 0)
    (places_bounded m arcs terminals n 1))

-- the places that both searches find are there
pub searching_bounded : (m : ℕ) (sv st rs rt : List ℕ) (plan : List Bool) (n : ℕ) (ps pt rps rpt : List ℕ) (room_s room_t : List Bool) (arcs : List ℕ)
    (hunt : Hunt)
    → Searched m sv st rs rt plan n ps pt rps rpt room_s room_t arcs hunt → Bounded m n (found_in hunt)
searching_bounded m sv st rs rt plan n ps pt rps rpt room_s room_t arcs hunt (terminals, t, e) = subst (λ (h : Hunt). Bounded m n (found_in h)) (sym e)
    (searched_bounded m n (search_at m free arcs terminals n 0) (search_at m free arcs terminals n 1) (search_bounded m arcs terminals n 0 free)
    (search_bounded m arcs terminals n 1 free))
  where
    free : ℕ → Bool
    free = free_at sv st plan room_s room_t

-- ---- the two tables of a plan are what the searches ask for, and where no edge has room at both ends what they find is what is searched for
module _ (m : ℕ) (sv st rs rt : List ℕ) (plan : List Bool) (n : ℕ) (ps pt rps rpt : List ℕ) (room_s room_t : List Bool) (arcs ends : List ℕ)
    (arcsShow : Rows arcs n (arc_cell m sv st rs rt plan ps pt rps rpt))
    (endsShow : Grid ends n (terminal_cell m sv st rs rt plan room_s room_t ps pt rps rpt)) where
  -- their prices are small
  pub tables_fine : Small n arcs × Cheap n arcs × SmallEnds n ends
  tables_fine = (
    (λ i j h k. omega (arith, arcsShow i j h k, arc_small m sv st rs rt plan (at pt i) (at rpt i) (at ps j) (at rps j))),
    (λ i j h k l. omega (
      arith,
      arcsShow i j h k,
      arc_cheap m sv st rs rt plan (at pt i) (at rpt i) (at ps j) (at rps j) (omega (arith, arcsShow i j h k)),
    )),
    (λ i j h k. omega (arith, endsShow i j h k, but_small m sv st rs plan room_t (at ps i) (at rps i) (at pt j))),
  )

  -- what both searches find on them
  pub tables_searched : m ≤ low (free_at sv st plan room_s room_t) m → (hunt : Hunt) → OnTables arcs ends n hunt
      → Searched m sv st rs rt plan n ps pt rps rpt room_s room_t arcs hunt
  tables_searched h hunt e =
      let free = free_at sv st plan room_s room_t in (
        ends,
        endsShow,
        e ∙ sym
            (ap₂ (λ (f g : Option Found). searched f g) (search_places m free arcs ends n (low free m) refl 0 h)
            (search_places m free arcs ends n (low free m) refl 1 h)),
      )
