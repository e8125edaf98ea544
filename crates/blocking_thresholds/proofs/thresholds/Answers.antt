-- blocking_thresholds::thresholds makes the array of the worst places. Assumes nothing.
use Rattle.std.proofs.Common.{ℕ, zero-le, arith, not-suc-le-zero, length-set}
use lib.ListN.{length-replicate}
use Rattle.arrays.specs.Filled.{made_next}
use Rattle.blocking_thresholds.proofs.thresholds.Invariants.{entry}
use Rattle.blocking_thresholds.proofs.thresholds.Goals as goal

pub loop-i-init : goal.loop-i-init
loop-i-init c = (zero-le, length-replicate {A = ℕ} 32 0, λ e h. absurd (not-suc-le-zero h))

pub loop-i-preserved : goal.loop-i-preserved
loop-i-preserved c =
    let a = c.args in (
      omega arith,
      simp length-set c.loop-i.invariant.1,
      rw c.threshold.ensures (made_next 0 c.loop-i.o (entry a.d.now a.quota.now a.w.now) c.loop-i.i (omega arith) c.loop-i.invariant.2),
    )

pub returns : goal.returns
returns c = λ v h. c.loop-i.invariant.2 v (omega arith)
