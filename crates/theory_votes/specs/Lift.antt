-- Rank pairs back to places: pairs whose columns are the ranks of some places on the left and on the right are the rank pairs of couples of
-- those places.
use Rattle.std.specs.Prelude.{ℕ, ◌+◌, ◌<◌, ◌≡◌, refl, List, [], ◌∷◌, map, eqb}
use Rattle.std.proofs.Common.{arith, ap, ap₂, eqb→eq}
use Rattle.lists.specs.Test.{bit, bit_pos, eqb_yes}
use Rattle.lists.specs.Sum.{◌∈◌, sum, sum_pos}
use Rattle.lists.specs.Keep.{remove, sum_remove}
use Rattle.model.specs.Vote.{Place, place_rank, Pairing}
use Rattle.model.specs.Facing.{rank_pair}
use Rattle.theory_votes.specs.Rotation.{Columns}

module _ (rank : ℕ → ℕ) where
  abbrev Lifted : List Place → List Place → List (ℕ × ℕ) → Type 0
  Lifted ps qs g = (r : Pairing) × Columns (place_rank rank) ps qs r × ((φ : ℕ × ℕ → ℕ) → sum φ (map (rank_pair rank) r) ≡ sum φ g)

  abbrev OnLeft : List Place → List (ℕ × ℕ) → Type 0
  OnLeft ps g = (φ : ℕ → ℕ) → sum (λ c. φ c.0) g ≡ sum (λ p. φ (place_rank rank p)) ps

  abbrev OnRight : List Place → List (ℕ × ℕ) → Type 0
  OnRight qs g = (φ : ℕ → ℕ) → sum (λ c. φ c.1) g ≡ sum (λ q. φ (place_rank rank q)) qs

  pub lift : (ps qs : List Place) (g : List (ℕ × ℕ)) → OnLeft ps g → OnRight qs g
      → Lifted ps qs g
  lift [] [] [] hl hr = ([], record { on_left = λ φ. refl; on_right = λ φ. refl }, λ φ. refl)
  lift [] (q ∷ qs) [] hl hr = absurd (omega (arith, hr (λ a. 1)))
  lift (p ∷ ps) qs [] hl hr = absurd (omega (arith, hl (λ a. 1)))
  lift ps qs ((a, b) ∷ g) hl hr = go
      (sum_pos (λ p. bit (eqb (place_rank rank p) a)) ps (omega (arith, hl (λ z. bit (eqb z a)), one_at a)))
      (sum_pos (λ q. bit (eqb (place_rank rank q) b)) qs (omega (arith, hr (λ z. bit (eqb z b)), one_at b))) (λ ps qs. lift ps qs g)
    where
      one_at : (a : ℕ) → bit (eqb a a) ≡ 1
      one_at a = ap bit (eqb_yes a a refl)

      go : (p : Place) × (p ∈ ps) × (0 < bit (eqb (place_rank rank p) a)) → (q : Place) × (q ∈ qs) × (0 < bit (eqb (place_rank rank q) b))
          → ((ps qs : List Place) → OnLeft ps g → OnRight qs g
          → Lifted ps qs g)
          → Lifted ps qs ((a, b) ∷ g)
      go (p, i, tp) (q, j, tq) ih =
          let ep : place_rank rank p ≡ a = eqb→eq (place_rank rank p) a (bit_pos (eqb (place_rank rank p) a) tp) in
          let eq : place_rank rank q ≡ b = eqb→eq (place_rank rank q) b (bit_pos (eqb (place_rank rank q) b) tq) in
          let (r, h, s) = ih (remove i) (remove j)
          (λ φ. omega (arith, hl φ, sum_remove (λ p. φ (place_rank rank p)) i, ap φ ep))
          (λ φ. omega (arith, hr φ, sum_remove (λ q. φ (place_rank rank q)) j, ap φ eq)) in (
            (p, q) ∷ r,
            record { on_left = λ φ. omega (arith, h.on_left φ, sum_remove φ i); on_right = λ φ. omega (arith, h.on_right φ, sum_remove φ j) },
            λ φ. ap₂ ◌+◌ (ap₂ (λ x y. φ (x, y)) ep eq) (s φ),
          )
