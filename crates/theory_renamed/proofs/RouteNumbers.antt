-- The theorems that rest on specs/RouteNumbers.antt. They stand here so that a wrong definition there is refused by a proof.
use Prim.Native.Nat.{ℕ, suc, ◌-◌, ◌≤◌, ◌<◌}
use native.Mathlib.Omega.{arith}
use Rattle.std.proofs.Common.{sym, ◌∙◌, ext_get_or}
use Rattle.std.specs.Prelude.{◌≡◌, get_or}
use Rattle.std.proofs.Math.Path.{ap}
use mathlib.Core.List.{List}
use Rattle.lists.specs.Test.{given}
use Rattle.model_files.specs.Routes.{new_number, way_back}
use Rattle.theory_renamed.specs.RouteNumbers.{Names, back_at, back_names, number_most, number_pos, old_suc, place_of, places, stand_at_law}

-- the new number by the way back is the stand at that place
module _ (route : List ℕ) (n : ℕ) (N : Names route n) where
  abbrev old_place : ℕ → ℕ
  old_place j = get_or route j 0 - 1

module _ (route : List ℕ) (n : ℕ) (N : Names route n) where
  -- the way back gives a number the stand that the route has at that place
  pub back_number : (t : ℕ) → 1 ≤ t → t ≤ n → new_number (way_back route) t ≡ get_or route (t - 1) 0
  back_number t h k =
      let j = t - 1 in
      let l : t - 1 < n = omega arith in
      let e : suc (t - 1) ≡ t = omega arith in
      given ((places route n N).back j l) (λ m.
      ap (new_number (way_back route))
      (sym (back_at route n N (old_place route n N j) m ∙ ap (new_number route) (old_suc route n N j l) ∙ place_of route n N j l ∙ e))
      ∙ place_of (way_back route) n (back_names route n N) (old_place route n N j) m ∙ old_suc route n N j l)

  -- "unstoring gives the original": each number comes back
  pub number_back : (t : ℕ) → 1 ≤ t → t ≤ n → new_number (way_back route) (new_number route t) ≡ t
  number_back t h k = back_number (new_number route t) (number_pos route t) (number_most route n N t h k) ∙ stand_at_law route n N t h k

  pub back_twice : way_back (way_back route) ≡ route
  back_twice = ext_get_or 0 (way_back (way_back route)) route (b₂.count ∙ sym N.count) (λ j h. let l : j < n = omega (arith, b₂.count) in
      back_at (way_back route) n b₁ j l ∙ back_number (suc j) (omega arith) (omega arith) ∙ ap (λ k. get_or route k 0) (less j))
    where
      b₁ : Names (way_back route) n
      b₁ = back_names route n N

      b₂ : Names (way_back (way_back route)) n
      b₂ = back_names (way_back route) n b₁

      less : (j : ℕ) → suc j - 1 ≡ j
      less j = omega arith
