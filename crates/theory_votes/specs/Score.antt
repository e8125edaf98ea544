-- Votes counted from one up: 2, 1 or 0 for the model's 1, 0 or -1, so that no sum falls below zero. The score of a node is its
-- vote and its quota together, the tally of two sets of edges their vote and all quotas together. These are forms for proofs and need
-- not be believed: Signed.antt proves that the model's votes are the score less the quota and the tally less all quotas.
use Rattle.std.specs.Prelude.{ℕ, ◌+◌, ◌≤◌, ◌<◌, ◌≡◌, Bool, true, false, not, map, T, leb, ltb}
use Rattle.std.proofs.Common.{arith, ltb→lt, nltb→le, leb→le}
use Rattle.std.proofs.Math.Dec.{nleb→lt}
use Rattle.lists.specs.Test.{bit}
use Rattle.lists.specs.Sum.{sum, up_to}
use Rattle.lists.specs.Least.{least_of}
use Rattle.model.specs.Limits.{empty_rank}
use Rattle.model.specs.Instance.{Instance, Side, surveyors, stands}
use Rattle.model.specs.Vote.{Place, edge, empty, place_rank, valid_pairings}
use Rattle.theory_instance.specs.Walk.{up, up_yes, up_no}

-- one more than the vote of rank a against rank b
abbrev pub rate : ℕ → ℕ → ℕ
rate a b = bit (ltb a b) + bit (leb a b)

-- the same of what two places hold
unfoldable pub mark : (ℕ → ℕ) → Place × Place → ℕ
mark rank (p, q) = rate (place_rank rank p) (place_rank rank q)

-- the node's score: the least sum over its valid pairings, each vote counted from one up
unfoldable pub score : Side → (ℕ → Bool) → (ℕ → Bool) → ℕ → ℕ
score K M N v = least_of (map (sum (mark K.rank)) (valid_pairings K M N v))

module _ (G : Instance) where
  -- the scores of all surveyors and all stands together
  abbrev pub tally : (ℕ → Bool) → (ℕ → Bool) → ℕ
  tally M N = sum (score (surveyors G) M N) (up_to G.ns) + sum (score (stands G) M N) (up_to G.nt)

  -- all quotas of both sides together
  abbrev pub quotas : ℕ
  quotas = sum G.quota_s (up_to G.ns) + sum G.quota_t (up_to G.nt)

-- ---- the vote in it: one way less the other
-- counted from one up, the vote of a against b is 1 and what speaks for a, less what speaks for b
pub rate_up : (a b : ℕ) → rate a b + up b a ≡ 1 + up a b
unfolding up
rate_up a b = go (ltb a b) (leb a b) (ltb b a) (ltb→lt a b) (nltb→le a b) (leb→le a b) (nleb→lt a b) (ltb→lt b a) (nltb→le b a)
  where
    go : (x y z : Bool) → (T x → a < b) → (T (not x) → b ≤ a) → (T y → a ≤ b) → (T (not y) → b < a) → (T z → b < a) → (T (not z) → a ≤ b)
        → bit x + bit y + bit z ≡ 1 + bit x
    go true true true p p' q q' r r' = absurd (omega (arith, p tt, r tt))
    go true true false p p' q q' r r' = omega arith
    go true false z p p' q q' r r' = absurd (omega (arith, p tt, q' tt))
    go false true true p p' q q' r r' = absurd (omega (arith, q tt, r tt))
    go false true false p p' q q' r r' = omega arith
    go false false true p p' q q' r r' = omega arith
    go false false false p p' q q' r r' = absurd (omega (arith, q' tt, r' tt))

module _ (rank : ℕ → ℕ) where
  pub mark_edges : (d f : ℕ) → mark rank (edge d, edge f) + up (rank f) (rank d) ≡ 1 + up (rank d) (rank f)
  unfolding mark
  mark_edges d f = rate_up (rank d) (rank f)

  -- a pair is better than an empty place
  pub mark_lost : (d : ℕ) → rank d < empty_rank → mark rank (edge d, empty) ≡ 2
  unfolding mark
  mark_lost d h = omega (arith, rate_up (rank d) empty_rank, up_yes (rank d) empty_rank h, up_no empty_rank (rank d) (omega arith))

  -- an empty place against a pair counts 0
  pub mark_gained : (f : ℕ) → rank f < empty_rank → mark rank (empty, edge f) ≡ 0
  unfolding mark
  mark_gained f h = omega (arith, rate_up empty_rank (rank f), up_yes (rank f) empty_rank h, up_no empty_rank (rank f) (omega arith))

  -- a place against itself counts 1, which is the vote 0
  pub mark_same : (p : Place) → mark rank (p, p) ≡ 1
  unfolding mark
  mark_same p = omega (arith, rate_up (place_rank rank p) (place_rank rank p))

  pub mark_flip : (c : Place × Place) → mark rank c + mark rank (c.1, c.0) ≡ 2
  unfolding mark
  mark_flip c =
      let a = place_rank rank c.0 in
      let b = place_rank rank c.1 in
      omega (arith, rate_up a b, rate_up b a)
