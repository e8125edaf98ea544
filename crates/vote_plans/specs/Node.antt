-- What is kept of a node's ranks, as a vote needs it; and that the ranks of two plans' own edges give the model's vote of the node.
use Rattle.std.specs.Prelude.{ℕ, ◌-◌, ◌≤◌, ◌<◌, ◌≡◌, Bool, List, length, take, replicate}
use Rattle.std.proofs.Common.{arith, sym, ap₂, ◌∙◌}
use Rattle.std.proofs.Math.Seq.{take-append_seam}
use Rattle.lists.specs.Sum.{◌∈◌, sum_length, range, ∈_range}
use Rattle.lists.specs.Keep.{∈_keep}
use Rattle.model.specs.Limits.{empty_rank, quota_limit}
use Rattle.model.specs.Instance.{Side, deg}
use Rattle.model.specs.PlanFile.{edges_in}
use Rattle.model.specs.Vote.{node_vote}
use Rattle.theory_votes.specs.Attained.{alone, counts}
use Rattle.theory_votes.specs.Sorted.{Sorted}
use Rattle.theory_votes.specs.NodeByRotation.{least_vote}
use Rattle.theory_votes.proofs.NodeByRotation.{node_vote_least}
use Rattle.vote_own_ranks.specs.declared.Ranked.{Ranked}
use Rattle.vote_own_ranks.specs.Own.{kept_at}
use Rattle.vote_own_ranks.specs.Kept.{Kept, ranks_at, ranks_sorted, ranks_all, kept_at_law, ranks_alone}

-- the ranks themselves
abbrev pub ranks_in : Ranked → List ℕ
ranks_in r = take r.n r.ranks

-- no more than a quota allows, in order, filled up with empty places
pub record Sound (xs : List ℕ) (r : Ranked) : Type 0 where
  pub kept : Kept xs r
  pub few : length xs ≤ quota_limit
  pub sorted : Sorted (λ z. z) xs
  pub most : (z : ℕ) → z ∈ xs → z ≤ empty_rank

-- what is kept of a node can be voted on: the ranks in it are few, in order, and filled up
abbrev pub Ready : Ranked → Type 0
Ready r = Sound (ranks_in r) r

pub kept_is : (xs : List ℕ) (r : Ranked) → Kept xs r → ranks_in r ≡ xs
kept_is xs r K = ap₂ take K.many K.are ∙ take-append_seam xs (replicate (quota_limit - length xs) empty_rank)

-- the ranks of A's edges at v that B lacks
abbrev pub own : Side → (ℕ → Bool) → (ℕ → Bool) → ℕ → List ℕ
own K A B v = ranks_at K.end K.rank B v (edges_in K.m A)

module _ (K : Side) (ranks : (e : ℕ) → e < K.m → K.rank e < empty_rank) where
  -- are kept whole where A has few edges at the node
  pub own_sound : (A B : ℕ → Bool) (v : ℕ) → deg K A v ≤ quota_limit → Sound (own K A B v) (kept_at K.end K.rank B v (edges_in K.m A))
  own_sound A B v d =
      let few : length (own K A B v) ≤ quota_limit =
      omega (arith, sum_length (own K A B v), ranks_alone K A B v (λ x. 1), sum_length (alone K v A B), counts K A B v) in
      record {
        kept = kept_at_law K.end K.rank B v (edges_in K.m A) few;
        few = few;
        sorted = ranks_sorted K.end K.rank B v (edges_in K.m A);
        most = ranks_all K.end K.rank B v (λ z. z ≤ empty_rank) (edges_in K.m A) (λ e k. omega (arith, ranks e (inside e k)));
      }
    where
      inside : (e : ℕ) → e ∈ edges_in K.m A → e < K.m
      inside e k = let (l, h) = ∈_range K.m 0 (∈_keep A (range 0 K.m) k).0 in omega arith

  pub own_vote : (M N : ℕ → Bool) (v : ℕ) → deg K M v ≤ K.quota v → deg K N v ≤ K.quota v → least_vote (own K M N v) (own K N M v) ≡ node_vote K M N v
  own_vote M N v hM hN = sym (node_vote_least K M N v ranks hM hN (own K M N v) (own K N M v) (ranks_alone K M N v) (ranks_alone K N M v))
