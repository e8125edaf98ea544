-- The theorems that rest on specs/Beside.antt. They stand here so that a wrong definition there is refused by a proof.
use Rattle.std.specs.Prelude.{ℕ, ◌+◌, ◌≤◌, ◌<◌, ◌≡◌, Bool}
use Rattle.std.proofs.Common.{arith, sym, ap, ap₂, ◌∙◌}
use Rattle.std.proofs.Math.IntN.{sub_ℕ}
use Rattle.lists.specs.Sum.{sum, sum_cong, up_to, up_to_<}
use Rattle.model.specs.Instance.{Side, deg}
use Rattle.theory_votes.specs.Score.{score}
use Rattle.theory_votes.specs.Signed.{node_vote_score}
use Rattle.theory_renamed.specs.Part.{Placed}
use Rattle.theory_renamed.proofs.Part.{part_vote}
use Rattle.theory_renamed.specs.StrongPlans.{same_sub}
use Rattle.theory_renamed.specs.Beside.{Beside, deg_a, deg_b, part_a, part_b, sum_split}

module _ (K A B : Side) (S : Beside K A B) where
  -- what the second has of a set
  abbrev second : (ℕ → Bool) → ℕ → Bool
  second P e = P (A.m + e)

  -- ---- the side's votes add up
  module _ (pK : Placed K) (pA : Placed A) (pB : Placed B) (P Q : ℕ → Bool) (hP : (v : ℕ) → deg K P v ≤ K.quota v)
      (hQ : (v : ℕ) → deg K Q v ≤ K.quota v) where
    score_a : (v : ℕ) → v < A.n → score K P Q v ≡ score A P Q v
    score_a v l = same_sub (score K P Q v) (score A P Q v) (K.quota v) (sym (node_vote_score K P Q v (hP v) (hQ v))
        ∙ part_vote A K (λ e. e) v v (part_a K A B S v l) pA pK (sym (S.quota_a v l)) P Q (hP v) (hQ v)
        ∙ node_vote_score A P Q v (omega (arith, deg_a K A B S P v l, hP v, S.quota_a v l)) (omega (arith, deg_a K A B S Q v l, hQ v, S.quota_a v l))
        ∙ ap (sub_ℕ (score A P Q v)) (sym (S.quota_a v l)))

    score_b : (v : ℕ) → v < B.n → score K P Q (A.n + v) ≡ score B (second P) (second Q) v
    score_b v l =
        let w = A.n + v in
        same_sub (score K P Q w) (score B (second P) (second Q) v) (K.quota w) (sym (node_vote_score K P Q w (hP w) (hQ w))
        ∙ part_vote B K (λ e. A.m + e) v w (part_b K A B S v l) pB pK (sym (S.quota_b v l)) P Q (hP w) (hQ w)
        ∙ node_vote_score B (second P) (second Q) v (omega (arith, deg_b K A B S P v l, hP w, S.quota_b v l)) (omega (arith, deg_b K A B S Q v l, hQ w, S.quota_b v l))
        ∙ ap (sub_ℕ (score B (second P) (second Q) v)) (sym (S.quota_b v l)))

    pub scores_add : sum (score K P Q) (up_to K.n) ≡ sum (score A P Q) (up_to A.n) + sum (score B (second P) (second Q)) (up_to B.n)
    scores_add =
        ap (λ n. sum (score K P Q) (up_to n)) S.nodes ∙ sum_split (score K P Q) A.n B.n
        ∙ ap₂ ◌+◌ (sum_cong (score K P Q) (score A P Q) (up_to A.n) (λ v i. score_a v (up_to_< A.n i)))
        (sum_cong (λ v. score K P Q (A.n + v)) (score B (second P) (second Q)) (up_to B.n) (λ v i. score_b v (up_to_< B.n i)))
