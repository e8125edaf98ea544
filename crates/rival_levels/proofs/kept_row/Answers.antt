-- The columns below j are written.
use Rattle.std.proofs.Common.{refl, ◌+◌, zero-le, arith, not-suc-le-zero, length-set}
use Rattle.arrays.specs.ArrayInstance.{at}
use Rattle.arrays.specs.Filled.{made_set}
use Rattle.rival_levels.specs.Layers.{kept_price}
use Rattle.rival_levels.proofs.kept_row.Goals as goal

pub loop-j-init : goal.loop-j-init
loop-j-init c = (zero-le, refl, λ e h. absurd (not-suc-le-zero h))

pub loop-j-preserved : goal.loop-j-preserved
loop-j-preserved c =
    let a = c.args in (
      omega arith,
      simp length-set c.loop-j.invariant.1,
      made_set 0 c.loop-j.o (λ k. kept_price (at a.d.now (a.b + k))) c.loop-j.j c.min.result (omega arith) c.min.ensures
          c.loop-j.invariant.2,
    )

pub returns : goal.returns
returns c = λ e h. c.loop-j.invariant.2 e (omega arith)
