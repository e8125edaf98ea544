-- The nodes below v are written.
use Rattle.std.proofs.Common.{ap, false, zero-le, arith, ltb}
use Rattle.arrays.specs.ArrayInstance.{at}
use Rattle.arrays.specs.Passes.{fill_none, fill_next, fill_at}
use Rattle.rival_tables.proofs.rooms.Goals as goal

pub loop-v-init : goal.loop-v-init
loop-v-init c = (zero-le, fill_none false 32 _)

pub loop-v-preserved : goal.loop-v-preserved
loop-v-preserved c =
    let a = c.args in
    (omega arith, fill_next false 32 _ _ _ _ (ap (λ x. ltb x (at a.quota.now c.loop-v.v)) c.lying-c.ensures) (omega arith) c.loop-v.invariant.1)

pub returns : goal.returns
returns c = λ e h. fill_at false c.loop-v.invariant.1 e (omega arith)
