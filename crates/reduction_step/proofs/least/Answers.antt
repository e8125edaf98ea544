-- The least of the numbers passed.
use Rattle.std.proofs.Common.{◌≡◌, subst, arith}
use Rattle.model.specs.Limits.{node_limit}
use Rattle.reduction_step.specs.Least.{Least, least_one, least_next}
use Rattle.reduction_step.proofs.least.Goals as goal

pub loop-i-init : goal.loop-i-init
loop-i-init c = (omega arith, least_one c.args.xs.now)

pub loop-i-preserved : goal.loop-i-preserved
loop-i-preserved c =
    let l = c.loop-i in
    (omega arith, least_next c.args.xs.now l.i l.l c.min-l.result l.invariant.1 c.min-l.ensures)

pub returns : goal.returns
returns c =
    let l = c.loop-i in
    let e : l.i ≡ node_limit = omega arith in
    subst (λ k. Least c.args.xs.now k l.l) e l.invariant.1
