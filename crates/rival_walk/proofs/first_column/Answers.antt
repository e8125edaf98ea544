-- The places below i are written.
use Rattle.std.proofs.Common.{refl, zero-le, arith, not-suc-le-zero, length-set}
use Rattle.arrays.specs.Filled.{made_next}
use Rattle.rival_tables.specs.Filled.{cell}
use Rattle.rival_walk.proofs.first_column.Goals as goal

pub loop-i-init : goal.loop-i-init
loop-i-init c = (zero-le, refl, λ e h. absurd (not-suc-le-zero h))

pub loop-i-preserved : goal.loop-i-preserved
loop-i-preserved c =
    let a = c.args in
    (omega arith, simp length-set c.loop-i.invariant.1, made_next 0 c.loop-i.o (λ i. cell a.arcs.now i a.j) c.loop-i.i (omega arith) c.loop-i.invariant.2)

pub returns : goal.returns
returns c = λ e h. c.loop-i.invariant.2 e (omega arith)
