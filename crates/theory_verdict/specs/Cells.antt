-- The tables that the search computes are those that Table asks for: the arcs, the layers, the ends.
use Prim.Native.Nat.{ℕ, suc, ◌+◌, ◌<◌, zero-le}
use native.Mathlib.Omega.{arith}
use Rattle.std.specs.Prelude.{◌≡◌, ◌⊎◌, Bool}
use Rattle.std.proofs.Math.Path.{refl}
use Rattle.std.proofs.Math.Logic.{inl, inr}
use mathlib.Core.List.{◌∷◌}
use Rattle.lists.specs.Sum.{◌∈◌, range, range_∈, ∈_range}
use Rattle.lists.specs.Keep.{keep_∈, ∈_keep}
use Rattle.lists.specs.First.{best_≤_held, best_≤, best_ind}
use Rattle.model.specs.Instance.{Instance}
use Rattle.theory_instance.specs.Walk.{Steps, Old}
use Rattle.theory_verdict.specs.Search.{kept, Lead, stay, via, on_lead, olds}
use Rattle.theory_verdict.specs.Search.{arc, layer, walk_price, trace}
use Rattle.theory_verdict.specs.Table.{Next}

module _ (G : Instance) (M : ℕ → Bool) where
  -- ---- the lists of edges
  pub below_∈ : {e : ℕ} → e < G.m → e ∈ range 0 G.m
  below_∈ {e} h = range_∈ G.m 0 e zero-le (omega arith)

  pub ∈_below : {e : ℕ} → e ∈ range 0 G.m → e < G.m
  ∈_below m = omega (arith, (∈_range G.m 0 m).1)

  pub old_∈ : {x : ℕ} → Old G M x → x ∈ olds G M
  old_∈ o = keep_∈ M (range 0 G.m) (below_∈ o.0) o.1

  pub ∈_old : {x : ℕ} → x ∈ olds G M → Old G M x
  ∈_old m = let (k, t) = ∈_keep M (range 0 G.m) m in (∈_below k, t)

  module _ (lid : ℕ) where
    -- ---- the layers
    pub next : (n : ℕ) → Next G M lid (arc G M lid) (walk_price G M lid n) (trace G M lid n) (walk_price G M lid (suc n)) (trace G M lid (suc n))
    unfolding layer trace
    next n = record {
      stay = λ x z ox oz. omega (arith, best_≤_held (ahead x z) (held x z) (olds G M));
      via = λ x y z ox oy oz. best_≤ (ahead x z) (held x z) (olds G M) y (old_∈ oy);
      from = λ x z ox oz. best_ind (ahead x z) (Good x z) (held x z) (olds G M) (λ h. inl (omega arith, refl)) (λ y m h. inr (y, ∈_old m, refl, refl));
    }
      where
        ahead : ℕ → ℕ → ℕ → ℕ × Lead
        ahead x z y = ((arc G M lid x y).0 + walk_price G M lid n y z, via y)

        held : ℕ → ℕ → ℕ × Lead
        held x z = (kept lid (walk_price G M lid n x z), stay)

        Good : ℕ → ℕ → ℕ × Lead → Type 0
        Good x z p =
            let w : Steps = on_lead p.1 (trace G M lid n x z) (λ y. ((arc G M lid x y).1, y) ∷ trace G M lid n y z) in
            p.0 < lid → ((p.0 ≡ walk_price G M lid n x z + 2) × (w ≡ trace G M lid n x z))
            ⊎ ((y : ℕ) × Old G M y × (p.0 ≡ (arc G M lid x y).0 + walk_price G M lid n y z) × (w ≡ (((arc G M lid x y).1, y) ∷ trace G M lid n y z)))
