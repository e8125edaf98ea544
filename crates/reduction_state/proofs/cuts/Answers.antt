-- The cut quotas, node by node.
use Rattle.std.proofs.Common.{zero-le, arith}
use Rattle.arrays.specs.Passes.{fill_none, fill_next, fill_at}
use Rattle.reduction_state.proofs.cuts.Goals as goal

pub loop-i-init : goal.loop-i-init
loop-i-init c = (zero-le, fill_none 0 32 _)

pub loop-i-preserved : goal.loop-i-preserved
loop-i-preserved c =
    (omega arith, fill_next 0 32 _ _ _ _ c.min.ensures (omega arith) c.loop-i.invariant.1)

pub returns : goal.returns
returns c = λ e h. fill_at 0 c.loop-i.invariant.1 e (omega arith)
