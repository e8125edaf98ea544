-- The theorems that rest on specs/Part.antt. They stand here so that a wrong definition there is refused by a proof.
use Rattle.std.specs.Prelude.{ℕ, ◌≤◌, ◌≡◌, Bool, not, ◌&&◌}
use Rattle.std.proofs.Common.{arith, ◌∙◌}
use Rattle.std.proofs.Math.Path.{sym}
use Rattle.std.proofs.Math.Dec.{eqb}
use Rattle.lists.specs.Sum.{sum, up_to}
use Rattle.lists.specs.Keep.{sum_keep}
use Rattle.model.specs.Instance.{Side, deg}
use Rattle.model.specs.Vote.{node_vote}
use Rattle.theory_votes.specs.Attained.{alone}
use Rattle.theory_renamed.specs.Part.{Part, Placed, at, part_deg, same_ranks}

module _ (K H : Side) (ε : ℕ → ℕ) (v w : ℕ) (part : Part K H ε v w) where
  part_alone : (A B : ℕ → Bool) (φ : ℕ → ℕ)
      → sum (λ e. φ (K.rank e)) (alone K v (λ e. A (ε e)) (λ e. B (ε e))) ≡ sum (λ u. φ (H.rank u)) (alone H w A B)
  part_alone A B φ = sum_keep (λ e. φ (K.rank e)) (λ e. (A (ε e) && not (B (ε e))) && eqb (K.end e) v) (up_to K.m) ∙ at K H ε v w part (λ u. A u && not (B u)) φ
      ∙ sym (sum_keep (λ u. φ (H.rank u)) (λ u. (A u && not (B u)) && eqb (H.end u) w) (up_to H.m))

  pub part_vote : Placed K → Placed H → K.quota v ≡ H.quota w → (M N : ℕ → Bool) → deg H M w ≤ H.quota w → deg H N w ≤ H.quota w
      → node_vote H M N w ≡ node_vote K (λ e. M (ε e)) (λ e. N (ε e)) v
  part_vote pK pH q M N hM hN = sym (same_ranks K H (λ e. M (ε e)) (λ e. N (ε e)) M N v w pK pH
      (omega (arith, part_deg K H ε v w part M, q)) (omega (arith, part_deg K H ε v w part N, q)) hM hN (part_alone M N) (part_alone N M))
