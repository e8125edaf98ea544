-- The least sum of votes, counted from one up, over all ways to set one list of ranks against another of the same length; and that it is
-- the sum of the two greatest leads, and is reached by a turn if both lists are in order (Rotation).
use Rattle.std.specs.Prelude.{ℕ, ◌+◌, ◌*◌, ◌≤◌, ◌<◌, ◌≡◌, refl, List, [], ◌∷◌, map, length, eqb}
use Rattle.std.proofs.Common.{zero-le, arith, ap, eqb→eq}
use mathlib.Core.List.Memᴰ
use Rattle.lists.specs.Test.{bit, bit_pos, eqb_yes}
use Rattle.lists.specs.Sum.{◌∈◌, sum_pos, sum_mem, ∈_occ}
use Rattle.lists.specs.Keep.{picks, remove, remove_picks, sum_remove}
use Rattle.lists.specs.Least.{least_of, least_of_≤}
use Rattle.theory_votes.specs.Score.{rate}
use Rattle.theory_votes.specs.Rotation.{against, against_≤, turned, turned_length, cost, cost_≤, Columns, turned_columns}

-- the first on the left faces any on the right, and the others face the rest
unfoldable pub least_sum : List ℕ → List ℕ → ℕ
least_sum [] ys = 0
least_sum (x ∷ xs) ys = least_of (map (λ p. rate x p.0 + least_sum xs p.1) (picks ys))

abbrev own : ℕ → ℕ
own a = a

-- ---- it is the least: at most what any couples with these columns come to, and what some come to
pub least_≤ : (xs ys : List ℕ) (r : List (ℕ × ℕ)) → Columns own xs ys r → least_sum xs ys ≤ cost own r
unfolding least_sum
least_≤ [] ys r h = zero-le
least_≤ (x ∷ xs) ys r h = go (least_≤ xs) (sum_pos (λ c. bit (eqb c.0 x)) r (omega (arith, h.on_left (λ a. bit (eqb a x)), ap bit (eqb_yes x x refl))))
  where
    go : ((ys : List ℕ) (r : List (ℕ × ℕ)) → Columns own xs ys r → least_sum xs ys ≤ cost own r)
        → (c : ℕ × ℕ) × (c ∈ r) × (0 < bit (eqb c.0 x)) → least_sum (x ∷ xs) ys ≤ cost own r
    go ih (c, m, l) =
        let e : c.0 ≡ x = eqb→eq c.0 x (bit_pos (eqb c.0 x) l) in
        let k : c.1 ∈ ys = ∈_occ c.1 ys
        (omega (arith, h.on_right (λ a. bit (eqb a c.1)), sum_mem (λ d. bit (eqb d.1 c.1)) m, ap bit (eqb_yes c.1 c.1 refl))) in
        let rest : Columns own xs (remove k) (remove m) = record {
          on_left = λ φ. omega (arith, h.on_left φ, sum_remove (λ d. φ d.0) m, ap φ e);
          on_right = λ φ. omega (arith, h.on_right φ, sum_remove (λ d. φ d.1) m, sum_remove φ k);
        } in
        omega (
          arith,
          ih (remove k) (remove m) rest,
          least_of_≤ (map (λ p. rate x p.0 + least_sum xs p.1) (picks ys)) (rate x c.1 + least_sum xs (remove k))
              (Memᴰ.map (λ p. rate x p.0 + least_sum xs p.1) (remove_picks k)),
          sum_remove (λ d. rate d.0 d.1) m,
          ap (λ z. rate z c.1) e,
        )

-- ---- by the leads
abbrev pub Below : ℕ → List ℕ → Type 0
Below n ys = (y : ℕ) → y ∈ ys → y < n

-- ---- by the turns
module _ (xs ys : List ℕ) (l : length xs ≡ length ys) where
  -- no turn of the first list against the second comes to less
  pub turn_above : (j : ℕ) → least_sum xs ys ≤ cost own (against (turned j xs) ys)
  turn_above j = least_≤ xs ys (against (turned j xs) ys) (turned_columns own j xs ys l)

  -- the least sum is at most 2 for each rank of the first list
  pub least_most : least_sum xs ys ≤ 2 * length xs
  least_most = omega (arith, turn_above 0, cost_≤ own (against (turned 0 xs) ys), against_≤ (turned 0 xs) ys, turned_length 0 xs)
