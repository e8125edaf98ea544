-- A strong plan: its vote, the model's, against every other plan within the quotas is above zero. And the same with any threshold, over
-- tallies: the vote against every other plan is at least k, k = 1 for a strong plan, k = 0 for one that no plan beats.
use Rattle.std.specs.Prelude.{ℕ, ◌+◌, ◌≤◌, Bool, pos, ◌<ℤ◌}
use Rattle.std.proofs.Common.{arith}
use Rattle.lists.specs.Integer.{sub_<, <_sub}
use Rattle.model.specs.Instance.{Instance}
use Rattle.model.specs.Vote.{vote}
use Rattle.theory_instance.specs.Lawful.{Matching, Same}
use Rattle.theory_votes.specs.Score.{tally, quotas}
use Rattle.theory_votes.specs.Signed.{vote_tally}

-- a set within the quotas whose vote against every other such set is above zero
pub record Strong (G : Instance) (M : ℕ → Bool) : Type 0 where
  pub plan : Matching G M
  pub wins : (N : ℕ → Bool) → Matching G N → (Same G M N → ⊥) → pos 0 <ℤ vote G M N

pub record Holds (G : Instance) (k : ℕ) (M : ℕ → Bool) : Type 0 where
  pub plan : Matching G M
  pub wins : (N : ℕ → Bool) → Matching G N → (Same G M N → ⊥) → k + quotas G ≤ tally G M N

module _ (G : Instance) (M : ℕ → Bool) where
  pub strong_holds : Strong G M → Holds G 1 M
  strong_holds s = record {
    plan = s.plan;
    wins = λ N p o. omega
        (arith, <_sub 0 0 (tally G M N) (quotas G) (rw (vote_tally G M N s.plan p) at (s.wins N p o)));
  }

  pub holds_strong : Holds G 1 M → Strong G M
  holds_strong s = record {
    plan = s.plan;
    wins = λ N p o. rw (vote_tally G M N s.plan p)
        (sub_< 0 0 (tally G M N) (quotas G) (omega (arith, s.wins N p o)));
  }
