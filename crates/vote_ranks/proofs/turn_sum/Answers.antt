-- vote_ranks::turn_sum answers the sum of a turn. The loop's invariant: the sum so far and what is left of the turn are the whole. Assumes nothing.
use Rattle.std.proofs.Common.{◌+◌, zero-le, arith, ◌≡◌, ap, ◌∙◌, get_or, take}
use Rattle.theory_votes.specs.Score.{rate}
use Rattle.vote_ranks.specs.Turn.{wrap}
use Rattle.vote_ranks.proofs.TurnSums.{rest_sum, rest_start, rest_step, rest_end, wrap_<}
use Rattle.vote_ranks.proofs.turn_sum.Goals.{After-rated-rate}
use Rattle.vote_ranks.proofs.turn_sum.Goals as goal

pub loop-i-init : goal.loop-i-init
loop-i-init c =
    let a = c.args in
    (zero-le, omega (arith, rest_start a.j (take a.k a.a.now) (take a.k a.b.now)), zero-le)

pub wrapped-p-requires : goal.wrapped-p-requires
wrapped-p-requires c = tt

pub bounds-a-p : goal.bounds-a-p
bounds-a-p c =
    let a = c.args in
    omega (arith, c.wrapped-p.ensures, wrap_< a.k (c.loop-i.i + a.j) (omega arith))

-- what a couple adds
couple : (c : After-rated-rate)
    → let l = c in
    let a = l.args in
    rest_sum l.loop-i.i a.j (take a.k a.a.now) (take a.k a.b.now) ≡ c.rated-rate.result + rest_sum (l.loop-i.i + 1) a.j
    (take a.k a.a.now) (take a.k a.b.now)
couple c =
    let a = c.args in
    let e : c.rated-rate.result ≡ rate (get_or a.a.now (wrap a.k (c.loop-i.i + a.j)) 0) (get_or a.b.now c.loop-i.i 0) =
    c.rated-rate.ensures.0 ∙ ap (λ p. rate (get_or a.a.now p 0) (get_or a.b.now c.loop-i.i 0)) c.wrapped-p.ensures in
    let step = rest_step a.a.now a.b.now a.k c.loop-i.i a.j c.requires.2 c.requires.3 (omega arith) (omega arith) in
    omega arith

pub overflow_add-sum : goal.overflow_add-sum
overflow_add-sum c = omega (arith, c.rated-rate.ensures.1)

pub loop-i-preserved : goal.loop-i-preserved
loop-i-preserved c = omega (arith, couple (goal.at.loop-i-preserved c).After-rated-rate, c.rated-rate.ensures.1)

pub returns : goal.returns
returns c =
    let a = c.args in
    omega (arith, rest_end a.a.now a.b.now a.k c.loop-i.i a.j c.requires.2 c.requires.3 (omega arith) (omega arith))
