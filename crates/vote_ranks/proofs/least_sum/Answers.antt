-- vote_ranks::least_sum answers the least sum of all: no turn tried has a lower one, and one of all turns reaches the least (theory_votes, Least).
-- Assumes nothing.
use Rattle.std.proofs.Common.{◌≤◌, arith, ap, take}
use Rattle.lists.specs.Test.{by-eq}
use Rattle.theory_votes.specs.Least.{least_sum}
use Rattle.vote_ranks.specs.Turn.{turn_sum}
use Rattle.vote_ranks.proofs.TurnSums.{sum_above, sum_most, sum_reached}
use Rattle.vote_ranks.proofs.least_sum.Goals.{Joined-s-least, then-s-least, else-s-least}
use Rattle.vote_ranks.proofs.least_sum.Goals as goal

pub loop-j-init : goal.loop-j-init
loop-j-init c =
    let a = c.args in
    let p = c.requires.k_le_quota_limit in
    (sum_most a.a.now a.b.now a.k p.1 p.2, omega arith, λ i h. absurd (omega arith))

pub turn_sum-s-requires : goal.turn_sum-s-requires
turn_sum-s-requires c = let p = c.requires.k_le_quota_limit in (p.0, omega arith, p.1, p.2)

-- the lower of the two
lower : (c : Joined-s-least) → let l = c in
    let a = l.args in
    (c.if-s-least.least ≤ l.loop-j.least) × (c.if-s-least.least ≤ c.turn_sum-s.result)
    × (least_sum (take a.k a.a.now) (take a.k a.b.now) ≤ c.if-s-least.least)
lower c =
    let a = c.args in
    let above : least_sum (take a.k a.a.now) (take a.k a.b.now) ≤ c.turn_sum-s.result = omega (
      arith,
      c.turn_sum-s.ensures,
      sum_above a.a.now a.b.now a.k c.requires.k_le_quota_limit.1 c.requires.k_le_quota_limit.2 c.loop-j.j,
    ) in
    elim c.if-s-least.branch [ then-s-least w ↦ omega arith | else-s-least w ↦ omega arith ]

pub loop-j-preserved : goal.loop-j-preserved
loop-j-preserved c =
    let a = c.args in (
      (lower (goal.at.loop-j-preserved c).Joined-s-least).2,
      omega (arith, lower (goal.at.loop-j-preserved c).Joined-s-least),
      λ i h. by-eq i c.loop-j.j
          (λ e t. omega (arith, lower (goal.at.loop-j-preserved c).Joined-s-least, c.turn_sum-s.ensures, ap (λ z. turn_sum z (take a.k a.a.now) (take a.k a.b.now)) e))
          (λ n t. omega (arith, lower (goal.at.loop-j-preserved c).Joined-s-least, c.loop-j.invariant.2 i (omega arith))),
    )

pub returns : goal.returns
returns c =
    let a = c.args in
    omega (
      arith,
      c.loop-j.invariant.0,
      sum_reached a.a.now a.b.now a.k c.requires.k_le_quota_limit.1 c.requires.k_le_quota_limit.2 c.requires.sorted.0 c.requires.sorted.1 c.loop-j.least c.loop-j.invariant.1
          (λ i h. c.loop-j.invariant.2 i (omega arith)),
    )
