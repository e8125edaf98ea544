-- The nodes below i are in the list.
use Rattle.std.proofs.Common.{refl, zero-le, arith}
use Rattle.model.specs.Limits.{empty_rank}
use Rattle.arrays.specs.Passes.{fill_none, fill_next, fill_at}
use Rattle.reduction_start.proofs.everyone.Goals as goal

pub loop-i-init : goal.loop-i-init
loop-i-init c = (zero-le, fill_none 0 empty_rank _)

pub bounds-o-i : goal.bounds-o-i
bounds-o-i c = omega (arith, c.loop-i.invariant.1.size)

pub loop-i-preserved : goal.loop-i-preserved
loop-i-preserved c = (omega arith, fill_next 0 empty_rank _ _ _ _ refl (omega arith) c.loop-i.invariant.1)

pub returns : goal.returns
returns c = λ e h. fill_at 0 c.loop-i.invariant.1 e (omega arith)
