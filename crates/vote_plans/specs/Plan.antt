-- What is asked of the arrays of one side and of a plan, and what the votes over them are.
use Rattle.std.specs.Prelude.{ℕ, ◌≤◌, ◌<◌, ◌≡◌, Bool, ◌&&◌, List, get_or, eqb, ℤ}
use Rattle.std.proofs.Common.{arith}
use Rattle.std.specs.Int.Signed.{mag}
use Rattle.lists.specs.Sum.{up_to, count}
use Rattle.model.specs.Limits.{empty_rank, quota_limit, node_limit, entry_limit}
use Rattle.model.specs.Instance.{Side, deg}
use Rattle.model.specs.Vote.{sumℤ, vote}
use Rattle.theory_instance.specs.Lawful.{Within, Matching}
use Rattle.arrays.specs.ArrayInstance.{at, flag, shown}
use Rattle.theory_votes.specs.NodeByRotation.{least_vote}
use Rattle.vote_own_ranks.specs.declared.Ranked.{Ranked}
use Rattle.vote_own_ranks.specs.Own.{blank}
use Rattle.vote_plans.specs.Node.{ranks_in}

-- the edges of one side: their nodes and their ranks there
pub record Arrays (m n : ℕ) (end rank : List ℕ) : Type 0 where
  pub edges : m ≤ entry_limit
  pub nodes : n ≤ node_limit
  pub ends : (e : ℕ) → e < m → at end e < node_limit
  pub ranks : (e : ℕ) → e < m → at rank e < empty_rank

-- no node has more edges of the plan than a quota allows
abbrev pub Light : ℕ → List ℕ → List Bool → Type 0
Light m end p = (v : ℕ) → count (λ e. flag p e && eqb (at end e) v) m ≤ quota_limit

-- the side that the arrays show, with any ties and quotas
abbrev pub side_of : (m n : ℕ) (end rank : List ℕ) (tie : ℕ → Bool) (quota : ℕ → ℕ) → Side
side_of m n end rank tie quota = record { m = m; n = n; end = at end; rank = at rank; tie = tie; quota = quota }

-- a plan within quotas that are within the limit is so
pub within_light : (m n : ℕ) (end rank : List ℕ) (tie : ℕ → Bool) (quota : ℕ → ℕ) (p : List Bool) → ((v : ℕ) → quota v ≤ quota_limit)
    → Within (side_of m n end rank tie quota) (flag p) → Light m end p
unfolding deg
within_light m n end rank tie quota p few h v = omega (arith, few v, h v)

-- the vote of a node from what is kept of it
abbrev pub node_of : List Ranked → List Ranked → ℕ → ℤ
node_of a b v = least_vote (ranks_in (get_or a v blank)) (ranks_in (get_or b v blank))

pub record SideVote (n : ℕ) (a b : List Ranked) (r : ℤ) : Type 0 where
  pub is : r ≡ sumℤ (node_of a b) (up_to n)
  pub small : mag r ≤ 288

-- whatever quotas both plans keep, r is the model's vote of p against q in the instance that the arrays show
abbrev pub PlanVote : (m ns nt : ℕ) (sv st rank_s rank_t : List ℕ) (p q : List Bool) → ℤ → Type 0
PlanVote m ns nt sv st rank_s rank_t p q r = (sh : List ℕ) (tied : List Bool) (quota_s quota_t : List ℕ)
    → Matching (shown m ns nt sv st rank_s rank_t sh tied quota_s quota_t) (flag p) → Matching (shown m ns nt sv st rank_s rank_t sh tied quota_s quota_t) (flag q)
    → r ≡ vote (shown m ns nt sv st rank_s rank_t sh tied quota_s quota_t) (flag p) (flag q)

-- both votes
pub record PlanVotes (m ns nt : ℕ) (sv st rank_s rank_t : List ℕ) (p q : List Bool) (v w : ℤ) : Type 0 where
  pub first : PlanVote m ns nt sv st rank_s rank_t p q v
  pub second : PlanVote m ns nt sv st rank_s rank_t q p w
