-- `roster_with::shift_count` meets its contract: the shifts counted and those to come are all. Assumes nothing.
use Rattle.std.proofs.Common.{ap, zero-le, arith, sym, ap, ◌∙◌, length}
use Rattle.roster_with.specs.Entering.{marks_in, shift_one, shift_not, shift_none}
use Rattle.roster_with.proofs.shift_count.Goals.{then-asks, else-asks}
use Rattle.roster_with.proofs.shift_count.Goals as goal

pub loop-k-init : goal.loop-k-init
loop-k-init c = (zero-le, zero-le, omega arith)

pub returns : goal.returns
returns c =
    let a = c.args in
    (omega (arith, ap length (shift_none (marks_in a.row.now) a.stand c.loop-k.k c.loop-k-test.false)), omega arith)

pub loop-k-preserved : goal.loop-k-preserved
loop-k-preserved c =
    let a = c.args in
    let m = marks_in a.row.now in
    elim c.if-asks.branch [
      | then-asks w ↦
          (let e = shift_one m a.stand c.loop-k.k c.loop-k-test.true (sym w.if-asks.true ∙ c.asks.ensures) in
          (omega arith, omega (arith, w.n-is), omega (arith, w.n-is, ap length e)))
      | else-asks w ↦
          (let e = shift_not m a.stand c.loop-k.k c.loop-k-test.true (sym w.if-asks.false ∙ c.asks.ensures) in
          (omega arith, omega (arith, w.n-is), omega (arith, w.n-is, ap length e)))
    ]
