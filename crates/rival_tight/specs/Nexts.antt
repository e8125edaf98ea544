-- From each column of a row the next column that has an arc, so that a pass over the arcs of the row passes over all others.
use Rattle.std.specs.Prelude.{ℕ, zero, suc, ◌+◌, ◌-◌, ◌≤◌, ◌<◌, ◌≡◌, List, length, set}
use Rattle.std.proofs.Common.{arith, sym, ap, ◌∙◌, subst, length-set, get_or-set_same, get_or-set_other}
use Rattle.std.proofs.Math.Decide.{dec_lt}
use Rattle.std.proofs.Math.Logic.{by_cases}
use Rattle.lists.specs.Test.{by-eq}
use Rattle.arrays.specs.ArrayInstance.{at}
use Rattle.rival_tables.specs.Filled.{cell}
use Rattle.rival_levels.specs.Layers.{next_rest, next_past, next_end, Lowered}

-- o leads from column y to a later one, and no column of the row f between them has an arc
abbrev pub NextsFrom : (ℕ → ℕ) → (ℕ → ℕ) → ℕ → Type 0
NextsFrom f o y = (y < o y) × (o y ≤ 64) × ((z : ℕ) → y < z → z < o y → 133 ≤ f z)

abbrev pub NextsRow : (ℕ → ℕ) → (ℕ → ℕ) → Type 0
NextsRow f o = (y : ℕ) → y < 64 → NextsFrom f o y

-- v is the next column behind column y of row i that has an arc, 64 if there is none
abbrev pub NextIs : (arcs : List ℕ) → ℕ → ℕ → ℕ → Type 0
NextIs arcs i y v = (y < v) × (v ≤ 64) × ((z : ℕ) → y < z → z < v → 133 ≤ cell arcs i z)

-- the first n rows of a table
abbrev pub Nexts : ℕ → (arcs nexts : List ℕ) → Type 0
Nexts n arcs nexts = (i y : ℕ) → i < n → y < 64 → NextsFrom (cell arcs i) (cell nexts i) y

-- columns without an arc lower nothing
nexts_past : (arcs d : List ℕ) (n i j v g y : ℕ) → v ≤ 133 → ((z : ℕ) → y ≤ z → z < y + g → 133 ≤ cell arcs i z)
    → next_rest arcs d n i j v y ≡ next_rest arcs d n i j v (y + g)
nexts_past arcs d n i j v zero y s h = let e : y ≡ y + 0 = omega arith in ap (next_rest arcs d n i j v) e
nexts_past arcs d n i j v (suc g) y s h = by_cases (dec_lt y n)
    (λ l. next_past arcs d n i j v y l (h y (omega arith) (omega arith)) s
    ∙ nexts_past arcs d n i j v g (y + 1) s (λ z a b. h z (omega arith) (omega arith))
    ∙ ap (next_rest arcs d n i j v) (let e : y + 1 + g ≡ y + suc g = omega arith in e))
    (λ l. next_end arcs d n i j v y (omega arith) ∙ sym (next_end arcs d n i j v (y + suc g) (omega arith)))

-- ---- a row of nexts in the making, from behind: `next` is the first column from y on that has an arc
pub record Behind (f : ℕ → ℕ) (o : List ℕ) (next y : ℕ) : Type 0 where
  pub within : y ≤ 64
  pub whole : length o ≡ 64
  pub later : y ≤ next
  pub inside : next ≤ 64
  pub none : (z : ℕ) → y ≤ z → z < next → 133 ≤ f z
  pub nexts : (x : ℕ) → y ≤ x → x < 64 → NextsFrom f (at o) x

module _ {f : ℕ → ℕ} {o : List ℕ} {next y : ℕ} (B : Behind f o next y) (p : 0 < y) where
  -- the column before y leads to it
  put : (x : ℕ) → y - 1 ≤ x → x < 64 → NextsFrom f (at (set o (y - 1) next)) x
  put x l k = by-eq x (y - 1)
      (λ e s. subst (λ v. Next v)
      (sym (ap (at (set o (y - 1) next)) e ∙ get_or-set_same o (y - 1) next 0 (omega (arith, B.whole, B.within))))
      (omega (arith, B.later), B.inside, λ z u w. B.none z (omega arith) w))
      (λ q s. subst (λ v. Next v) (sym (get_or-set_other o (y - 1) x next 0 q)) (B.nexts x (omega arith) k))
    where
      Next : ℕ → Type 0
      Next v = (x < v) × (v ≤ 64) × ((z : ℕ) → x < z → z < v → 133 ≤ f z)

  -- that column has an arc
  pub behind_arc : Behind f (set o (y - 1) next) (y - 1) (y - 1)
  behind_arc = record {
    within = omega (arith, B.within);
    whole = length-set o (y - 1) next ∙ B.whole;
    later = omega arith;
    inside = omega (arith, B.within);
    none = λ z h g. absurd (omega arith);
    nexts = put;
  }

  -- it has none
  pub behind_none : 133 ≤ f (y - 1) → Behind f (set o (y - 1) next) next (y - 1)
  behind_none n = record {
    within = omega (arith, B.within);
    whole = length-set o (y - 1) next ∙ B.whole;
    later = omega (arith, B.later);
    inside = B.inside;
    none = λ z h g. by-eq z (y - 1) (λ e s. subst (λ x. 133 ≤ f x) (sym e) n) (λ d s. B.none z (omega arith) g);
    nexts = put;
  }

nexts_to : (arcs nexts d : List ℕ) (n i j v y : ℕ) → v ≤ 133 → NextsFrom (cell arcs i) (cell nexts i) y
    → next_rest arcs d n i j v (y + 1) ≡ next_rest arcs d n i j v (cell nexts i y)
nexts_to arcs nexts d n i j v y s h =
    let e : y + 1 + (cell nexts i y - (y + 1)) ≡ cell nexts i y = omega (arith, h.0) in
    nexts_past arcs d n i j v (cell nexts i y - (y + 1)) (y + 1) s (λ z a b. h.2 z (omega arith) (omega (arith, e))) ∙ ap (next_rest arcs d n i j v) e

-- the row of a layer in the making, at the next arc
pub lowered_to : {arcs d : List ℕ} {n i : ℕ} {o : List ℕ} {y : ℕ} (nexts : List ℕ) → Lowered arcs d n i o (y + 1) → NextsFrom (cell arcs i) (cell nexts i) y
    → Lowered arcs d n i o (cell nexts i y)
lowered_to {arcs = arcs} {d = d} {n = n} {i = i} {o = o} {y = y} nexts L h = record {
  whole = L.whole;
  small = L.small;
  rest = λ j k. sym (nexts_to arcs nexts d n i j (at o j) y (L.small j k) h) ∙ L.rest j k;
}
