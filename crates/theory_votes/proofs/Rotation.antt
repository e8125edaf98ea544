-- The theorems that rest on specs/Rotation.antt. They stand here so that a wrong definition there is refused by a proof.
use Rattle.std.specs.Prelude.{ℕ, ◌+◌, ◌-◌, ◌≤◌, ◌<◌, ◌≡◌, List, [], ◌∷◌, length}
use Rattle.std.proofs.Common.{arith, sym, ◌∙◌}
use Rattle.lists.specs.Sum.{◌∈◌, sum, sum_length, sum_zeros}
use Rattle.theory_votes.specs.Score.{rate}
use Rattle.theory_votes.specs.Two.{Two, two, both_≤}
use Rattle.theory_votes.specs.Rate.{upto, under, upto_no}
use Rattle.theory_votes.specs.Sorted.{uptos, unders}
use Rattle.theory_votes.specs.Sorted.{sort, sum_sort, sorted_sort}
use Rattle.theory_votes.specs.Rotation.{Columns, below_none, turn_≤, turned, turned_columns}

module _ {A : Type 0} where
  -- two lists set against each other place by place, as far as both go
  abbrev against : List A → List A → List (A × A)
  against [] qs = []
  against (p ∷ ps) [] = []
  against (p ∷ ps) (q ∷ qs) = (p, q) ∷ against ps qs

module _ {A : Type 0} (rank : A → ℕ) where
  -- what some couples come to: the sum of their votes, each counted from one up
  abbrev cost : List (A × A) → ℕ
  cost r = sum (λ c. rate (rank c.0) (rank c.1)) r

  abbrev lead : List A → List A → ℕ → ℕ
  lead ps qs x = uptos rank ps x - unders rank qs x

  below_sort : (n : ℕ) (qs : List A) → ((q : A) → q ∈ qs → rank q < n) → (q : A) → q ∈ sort rank qs → rank q < n
  below_sort n qs h = below_none {A = A} rank n (sort rank qs)
      (sum_sort rank (λ p. upto (rank p) n) qs ∙ sum_zeros (λ p. upto (rank p) n) qs (λ p m. upto_no (rank p) n (h p m)))

  pub reach : (n : ℕ) (ps qs : List A) → length ps ≡ length qs → ((q : A) → q ∈ qs → rank q < n) → (t : Two (lead ps qs) n)
      → (r : List (A × A)) × Columns {A = A} rank ps qs r × (cost r ≤ t.first + t.second)
  reach n ps qs l u t =
      let s = two (lead (sort rank ps) (sort rank qs)) n in
      let e : length (sort rank ps) ≡ length (sort rank qs) = sort_length ps ∙ l ∙ sym (sort_length qs) in
      let c = turned_columns {A = A} rank s.second (sort rank ps) (sort rank qs) e in (
        against (turned s.second (sort rank ps)) (sort rank qs),
        record { on_left = λ φ. c.on_left φ ∙ sum_sort rank φ ps; on_right = λ φ. c.on_right φ ∙ sum_sort rank φ qs },
        omega (
          arith,
          (turn_≤ {A = A} rank) n (sort rank ps) (sort rank qs) (sorted_sort rank ps) (sorted_sort rank qs) e (below_sort n qs u) s,
          both_≤ (lead (sort rank ps) (sort rank qs)) (lead ps qs) n s t
              (λ x k. omega (arith, sum_sort rank (λ p. upto x (rank p)) ps, sum_sort rank (λ q. under x (rank q)) qs)),
        ),
      )
    where
      sort_length : (zs : List A) → length (sort rank zs) ≡ length zs
      sort_length zs = sum_length (sort rank zs) ∙ sum_sort rank (λ z. 1) zs ∙ sym (sum_length zs)
