-- The theorems that rest on specs/Least.antt. They stand here so that a wrong definition there is refused by a proof.
use Rattle.std.specs.Prelude.{ℕ, ◌+◌, ◌≤◌, ◌<◌, ◌≡◌, refl, ◌⊎◌, List, [], ◌∷◌, map, length}
use Rattle.std.proofs.Common.{arith, ap, subst, inl, inr, append-nil}
use Rattle.std.proofs.Math.Decide.{dec_lt}
use Rattle.std.proofs.Math.Logic.{by_cases}
use mathlib.Core.List.Memᴰ
use Rattle.std.proofs.Math.Seq.{take-length, drop-length}
use Rattle.lists.specs.Sum.{◌∈◌, sum, sum_mem, sum_length}
use Rattle.lists.specs.Keep.{picks, picks_sum}
use Rattle.lists.specs.Least.{least_of_∈}
use Rattle.theory_votes.specs.Score.{rate}
use Rattle.theory_votes.specs.Two.{Two, two}
use Rattle.theory_votes.specs.Sorted.{Sorted}
use Rattle.theory_votes.specs.Rotation.{against, turned, cost, lead, Columns, over, turn_≤}
use Rattle.theory_votes.specs.Rotation.{second_≤}
use Rattle.theory_votes.proofs.Rotation.{reach}
use Rattle.theory_votes.specs.Least.{Below, least_sum, least_≤}

abbrev own : ℕ → ℕ
own a = a

least_some : (xs ys : List ℕ) → length xs ≡ length ys → (r : List (ℕ × ℕ)) × Columns own xs ys r × (least_sum xs ys ≡ cost own r)
unfolding least_sum
least_some [] [] l = ([], record { on_left = λ φ. refl; on_right = λ φ. refl }, refl)
least_some [] (y ∷ ys) l = absurd (omega arith)
least_some (x ∷ xs) [] l = absurd (omega arith)
least_some (x ∷ xs) (y ∷ ys) l = go (least_some xs) (Memᴰ.of_map val (picks (y ∷ ys)) (least_of_∈ (map val (picks (y ∷ ys))) (Memᴰ.map val first)))
  where
    val : ℕ × List ℕ → ℕ
    val p = rate x p.0 + least_sum xs p.1

    first : ◌∈◌ {A = ℕ × List ℕ} (y, ys) (picks (y ∷ ys))
    first = Memᴰ.head refl

    go : ((zs : List ℕ) → length xs ≡ length zs → (r : List (ℕ × ℕ)) × Columns own xs zs r × (least_sum xs zs ≡ cost own r))
        → (p : ℕ × List ℕ) × (p ∈ picks (y ∷ ys)) × (val p ≡ least_sum (x ∷ xs) (y ∷ ys))
        → (r : List (ℕ × ℕ)) × Columns own (x ∷ xs) (y ∷ ys) r × (least_sum (x ∷ xs) (y ∷ ys) ≡ cost own r)
    go ih (p, m, e) =
        let (r, h, q) = ih p.1 (omega (arith, picks_sum (λ z. 1) (y ∷ ys) p m, sum_length p.1, sum_length ys)) in (
          (x, p.0) ∷ r,
          record {
            on_left = λ φ. ap (λ z. φ x + z) (h.on_left φ);
            on_right = λ φ. omega (arith, h.on_right φ, picks_sum φ (y ∷ ys) p m);
          },
          omega arith,
        )

module _ (n : ℕ) (xs ys : List ℕ) (l : length xs ≡ length ys) (u : Below n ys) (t : Two (lead own xs ys) n) where
  pub least_two : least_sum xs ys ≡ t.first + t.second
  least_two = omega (arith, upper, lower (least_some xs ys l))
    where
      lower : (r : List (ℕ × ℕ)) × Columns own xs ys r × (least_sum xs ys ≡ cost own r) → t.first + t.second ≤ least_sum xs ys
      lower (r, h, e) = omega (arith, over own xs ys r h n t)

      upper : least_sum xs ys ≤ t.first + t.second
      upper = let (r, c, h) = reach own n xs ys l u t in omega (arith, least_≤ xs ys r c)

module _ (xs ys : List ℕ) (l : length xs ≡ length ys) where
  -- a turn by the whole length is none
  turned_whole : (j : ℕ) → j ≡ length xs → turned j xs ≡ turned 0 xs
  turned_whole j e = rw (e, drop-length, take-length, append-nil)

  -- where all of the second list are below n, some turn reaches it
  reached_below : (n : ℕ) → Sorted own xs → Sorted own ys → Below n ys
      → (j : ℕ) × ((j ≡ 0) ⊎ (j < length xs)) × (cost own (against (turned j xs) ys) ≤ least_sum xs ys)
  reached_below n sx sy u = by_cases (dec_lt t.second (length xs))
      (λ h. (t.second, inr h, at_second))
      (λ h. (
        0,
        inl refl,
        subst (λ zs. cost own (against zs ys) ≤ least_sum xs ys)
            (turned_whole t.second (omega (arith, second_≤ own n xs ys sx sy l u t))) at_second,
      ))
    where
      t : Two (lead own xs ys) n
      t = two (lead own xs ys) n

      at_second : cost own (against (turned t.second xs) ys) ≤ least_sum xs ys
      at_second = omega (arith, least_two n xs ys l u t, turn_≤ own n xs ys sx sy l u t)

  -- and all of them are below one more than their sum
  pub turn_reached : Sorted own xs → Sorted own ys → (j : ℕ) × ((j ≡ 0) ⊎ (j < length xs)) × (cost own (against (turned j xs) ys) ≤ least_sum xs ys)
  turn_reached sx sy = reached_below (sum own ys + 1) sx sy (λ y m. omega (arith, sum_mem own m))
