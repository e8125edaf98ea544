-- The theorems that rest on specs/Numberings.antt. They stand here so that a wrong definition there is refused by a proof.
use Rattle.std.specs.Prelude.{ℕ, ◌<◌, ◌≡◌, eqb}
use Rattle.std.proofs.Common.{sym, ap, ◌∙◌}
use Rattle.lists.specs.Test.{pk, eqb_sym}
use Rattle.lists.specs.Sum.{sum, sum_cong, sum_one, up_to, up_to_<}
use Rattle.lists.specs.Occur.{sum_by}
use Rattle.theory_renamed.specs.Numberings.{Numbering, asked_back}

module _ (n : ℕ) (τ ρ : ℕ → ℕ) (t : Numbering n τ ρ) where
  -- a sum in another order
  pub sum_back : (f : ℕ → ℕ) → sum (λ i. f (τ i)) (up_to n) ≡ sum f (up_to n)
  sum_back f = sym (sum_by n τ (λ i. f (τ i)) (up_to n) (λ i m. t.into i (up_to_< n m)))
      ∙ sum_cong (λ u. sum (λ i. pk (eqb (τ i) u) (f (τ i))) (up_to n)) f (up_to n) (λ u m. each u (up_to_< n m))
    where
      each : (u : ℕ) → u < n → sum (λ i. pk (eqb (τ i) u) (f (τ i))) (up_to n) ≡ f u
      each u l =
          sum_cong (λ i. pk (eqb (τ i) u) (f (τ i))) (λ i. pk (eqb (ρ u) i) (f (τ i))) (up_to n)
          (λ i m. ap (λ b. pk b (f (τ i))) (asked_back n τ ρ t i u (up_to_< n m) l ∙ eqb_sym i (ρ u)))
          ∙ sum_one (λ i. f (τ i)) n (ρ u) (t.back u l) ∙ ap f (t.there u l)
