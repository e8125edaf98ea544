-- The walk that the search found, by places in the plan's list: it leads off as the column says, arc by arc. And that it is the search's (search,
-- Search.trace).
use Prim.Native.Nat.{ℕ, zero, suc, ◌+◌, ◌-◌, ◌≤◌, ◌<◌}
use native.Mathlib.Omega.{arith}
use Rattle.std.specs.Prelude.{◌≡◌, Bool, true, false, ◌||◌, List, [], ◌∷◌, map, length, set, ltb}
use Rattle.std.proofs.Math.Path.{refl, sym, ap, ap₂}
use Rattle.std.proofs.Common.{◌∙◌, lt-ltb, le-ltb, ltb-true}
use Rattle.std.proofs.Math.Bool.{cond}
use Rattle.lists.specs.Test.{by_bool}
use Rattle.lists.specs.Sum.{◌∈◌, range, ∈_range}
use Rattle.lists.specs.Keep.{keep_all}
use Rattle.lists.specs.First.{best}
use Rattle.model.specs.Instance.{Instance}
use Rattle.theory_instance.specs.Walk.{Steps}
use Rattle.theory_verdict.specs.Search.{Lead, stay, via, on_lead, kept, olds, terminal, arc, layer, walk_price, trace}
use Rattle.theory_verdict.specs.Arcs.{fs, zs}
use Rattle.arrays.specs.ArrayInstance.{at, flag}
use Rattle.rival_tables.specs.Filled.{cell, Grid}
use Rattle.rival_tables.specs.Best.{best_named}
use Rattle.rival_levels.specs.Layers.{kept_price, layer_at}
use Rattle.rival_levels.specs.Walks.{layer_is}
use Rattle.rival_walk.specs.Leads.{bid_at, lead_at}
use Rattle.rival_walk.specs.declared.Swap.{Swap}
use Rattle.rival_walk.specs.Marks.{listed, Marked, note, none_left}

-- marked besides what was marked at the start: of a walk's edges, those of the plan as gone, those that are to come as come
abbrev pub Walked : Swap → Steps → Swap → Type 0
Walked start w r = Marked start.gone (zs w) r.gone × Marked start.come (fs w) r.come

module _ (by : ℕ → ℕ → ℕ) (es arcs : List ℕ) (n j : ℕ) where
  -- the place that the walk of layer k + 1 leads to from i, n if it is that of layer k
  abbrev pub ahead : ℕ → ℕ → ℕ
  ahead k i = (lead_at arcs n (λ y. layer_at arcs n k y j) i).1

  abbrev pub arc_to : ℕ → ℕ → ℕ × ℕ
  arc_to i y = (by (at es i) (at es y), at es y)

  -- the walk of level k from place i, as arcs
  unfoldable pub walk_at : ℕ → ℕ → Steps
  walk_at zero i = arc_to i j ∷ []
  walk_at (suc k) i = cond (ltb (ahead k i) n) (arc_to i (ahead k i) ∷ walk_at k (ahead k i)) (walk_at k i)

  walk_last : (i : ℕ) → walk_at 0 i ≡ arc_to i j ∷ []
  unfolding walk_at
  walk_last i = refl

  turn : (b : Bool) (k i y : ℕ) → 0 < k → y ≡ ahead (k - 1) i → ltb y n ≡ b → walk_at k i ≡ cond b (arc_to i y ∷ walk_at (k - 1) y) (walk_at (k - 1) i)
  unfolding walk_at
  turn b k i y h e q =
      let s : k ≡ suc (k - 1) = omega arith in
      ap (λ z. walk_at z i) s
      ∙ ap (λ y. cond (ltb y n) (arc_to i y ∷ walk_at (k - 1) y) (walk_at (k - 1) i)) (sym e)
      ∙ ap (λ (b : Bool). cond b (arc_to i y ∷ walk_at (k - 1) y) (walk_at (k - 1) i)) q

  walk_on : (k i y : ℕ) → 0 < k → y ≡ ahead (k - 1) i → y < n → walk_at k i ≡ arc_to i y ∷ walk_at (k - 1) y
  walk_on k i y h e l = turn true k i y h e (lt-ltb y n l)

  walk_stay : (k i y : ℕ) → 0 < k → y ≡ ahead (k - 1) i → n ≤ y → walk_at k i ≡ walk_at (k - 1) i
  walk_stay k i y h e l = turn false k i y h e (le-ltb y n l)

  -- ---- while it is read back: what is marked, and what the walk from c still names, are what the whole walk of level l from i names
  module _ (l i : ℕ) (gone₀ come₀ : List Bool) where
    abbrev pub Read : List Bool → List Bool → ℕ → ℕ → Type 0
    Read gone come k c =
        (e : ℕ)
        → (flag gone e || listed e (zs (walk_at k c)) ≡ flag gone₀ e || listed e (zs (walk_at l i)))
        × (flag come e || listed e (fs (walk_at k c)) ≡ flag come₀ e || listed e (fs (walk_at l i)))

    module _ (gone come : List Bool) (k c y : ℕ) (read : Read gone come k c) (pos : 0 < k) (is : y ≡ ahead (k - 1) c) (gone' come' : List Bool) (c' : ℕ) where
      pub read_on : (f : ℕ) → y < n → at es y < length gone → f ≡ by (at es c) (at es y) → f < length come → gone' ≡ set gone (at es y) true
          → come' ≡ set come f true → c' ≡ y → Read gone' come' (k - 1) c'
      read_on f h g q l u v w e = (
        ap₂ (λ r c. flag r e || listed e (zs (walk_at (k - 1) c))) u w ∙ note gone (at es y) (zs (walk_at (k - 1) y)) e g
            ∙ ap (λ w. flag gone e || listed e (zs w)) (sym (walk_on k c y pos is h)) ∙ (read e).0,
        ap₂ (λ r c. flag r e || listed e (fs (walk_at (k - 1) c))) v w ∙ note come f (fs (walk_at (k - 1) y)) e l
            ∙ ap (λ f. flag come e || listed e (f ∷ fs (walk_at (k - 1) y))) q ∙ ap (λ w. flag come e || listed e (fs w)) (sym (walk_on k c y pos is h))
            ∙ (read e).1,
      )

      pub read_stay : n ≤ y → gone' ≡ gone → come' ≡ come → c' ≡ c → Read gone' come' (k - 1) c'
      read_stay h u v w e = (
        ap₂ (λ r c. flag r e || listed e (zs (walk_at (k - 1) c))) u w ∙ ap (λ w. flag gone e || listed e (zs w)) (sym (walk_stay k c y pos is h)) ∙ (read e).0,
        ap₂ (λ r c. flag r e || listed e (fs (walk_at (k - 1) c))) v w ∙ ap (λ w. flag come e || listed e (fs w)) (sym (walk_stay k c y pos is h)) ∙ (read e).1,
      )

    pub read_last : (gone come : List Bool) (k c f : ℕ) → Read gone come k c → k ≡ 0 → at es j < length gone → f ≡ by (at es c) (at es j) → f < length come
        → Marked gone₀ (zs (walk_at l i)) (set gone (at es j) true) × Marked come₀ (fs (walk_at l i)) (set come f true)
    read_last gone come k c f read z g q h = (
      λ e. none_left (flag (set gone (at es j) true) e) e ∙ note gone (at es j) [] e g ∙ ap (λ w. flag gone e || listed e (zs w)) (sym last) ∙ (read e).0,
      λ e. none_left (flag (set come f true) e) e ∙ note come f [] e h ∙ ap (λ f. flag come e || listed e (f ∷ [])) q
          ∙ ap (λ w. flag come e || listed e (fs w)) (sym last) ∙ (read e).1,
    )
      where
        last : walk_at k c ≡ arc_to c j ∷ []
        last = ap (λ k. walk_at k c) z ∙ walk_last c

-- ---- it is the search's
module _ (G : Instance) (M : ℕ → Bool) (es : List ℕ) (n : ℕ) (lists : olds G M ≡ map (at es) (range 0 n))
    (arcs terminals : List ℕ) (arcsShow : Grid arcs n (λ i j. (arc G M 133 (at es i) (at es j)).0))
    (terminalsShow : Grid terminals n (λ i j. (terminal G M (at es i) (at es j)).0)) where
  abbrev by : ℕ → ℕ → ℕ
  by x z = (arc G M 133 x z).1

  abbrev named : ℕ → Lead
  named y = cond (ltb y n) (via (at es y)) stay

  lead_is : (k i j : ℕ) → i < n → j < n → (layer G M 133 (suc k) (at es i) (at es j)).1 ≡ named (lead_at arcs n (λ y. layer_at arcs n k y j) i).1
  unfolding layer lead_at
  lead_is k i j il jl =
      ap (λ xs. (best bid (kept 133 (walk_price G M 133 k (at es i) (at es j)), stay) xs).1) lists
      ∙ ap₂ (λ v l. (best bid (v, l) (map (at es) (range 0 n))).1)
      (ap kept_price (layer_is G M es n lists arcs terminals arcsShow terminalsShow k i j il jl))
      (sym (ap (λ (b : Bool). cond b (via (at es n)) stay) (le-ltb n n (omega arith))))
      ∙ ap (λ c. c.1) (best_named bid (bid_at arcs column i) (at es) named (kept_price (column i), n) (range 0 n) same)
      ∙ ap (λ xs. named (best (bid_at arcs column i) (kept_price (column i), n) xs).1) (sym (keep_all (λ x. true) (range 0 n) (λ x m. tt)))
    where
      column : ℕ → ℕ
      column y = layer_at arcs n k y j

      bid : ℕ → ℕ × Lead
      bid y = ((arc G M 133 (at es i) y).0 + (layer G M 133 k y (at es j)).0, via y)

      same : (y : ℕ) → y ∈ range 0 n → bid (at es y) ≡ (cell arcs i y + column y, named y)
      same y m =
          let (u, w) = ∈_range n 0 m in
          let l : y < n = omega arith in
          ap₂ (λ (p : ℕ) (l : Lead). (p, l))
          (ap₂ (λ a b. a + b) (sym (arcsShow i y il l)) (layer_is G M es n lists arcs terminals arcsShow terminalsShow k y j l jl))
          (sym (ap (λ (b : Bool). cond b (via (at es y)) stay) (lt-ltb y n l)))

  -- it is the walk that the search reads back
  pub trace_is : (k i j : ℕ) → i < n → j < n → trace G M 133 k (at es i) (at es j) ≡ walk_at by es arcs n j k i
  unfolding trace walk_at
  trace_is zero i j il jl = refl
  trace_is (suc k) i j il jl =
      ap (λ l. on_lead l (trace G M 133 k (at es i) (at es j)) (λ y. (by (at es i) y, y) ∷ trace G M 133 k y (at es j))) (lead_is k i j il jl)
      ∙ by_bool (ltb c n)
      (λ e. ap
      (λ (b : Bool). on_lead (cond b (via (at es c)) stay) (trace G M 133 k (at es i) (at es j)) (λ y. (by (at es i) y, y) ∷ trace G M 133 k y (at es j)))
      e
      ∙ ap (λ w. (by (at es i) (at es c), at es c) ∷ w) (trace_is k c j (ltb-true c n e) jl)
      ∙ sym (ap (λ (b : Bool). cond b (arc_to by es arcs n j i c ∷ walk_at by es arcs n j k c) (walk_at by es arcs n j k i)) e))
      (λ e. ap
      (λ (b : Bool). on_lead (cond b (via (at es c)) stay) (trace G M 133 k (at es i) (at es j)) (λ y. (by (at es i) y, y) ∷ trace G M 133 k y (at es j)))
      e
      ∙ trace_is k i j il jl
      ∙ sym (ap (λ (b : Bool). cond b (arc_to by es arcs n j i c ∷ walk_at by es arcs n j k c) (walk_at by es arcs n j k i)) e))
    where
      c : ℕ
      c = (lead_at arcs n (λ y. layer_at arcs n k y j) i).1
