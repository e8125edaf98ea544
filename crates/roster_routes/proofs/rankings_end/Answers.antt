-- `roster_routes::rankings_end` meets its contract: the lists from the i-th on are left. Assumes nothing.
use Rattle.std.proofs.Common.{zero-le, arith, sym, ap, ◌∙◌}
use Rattle.roster_positions.proofs.Stamping.{left_all}
use Rattle.roster_routes.specs.Reordered.{rankings_end, end_turn, end_done}
use Rattle.roster_routes.proofs.rankings_end.Goals as goal

pub loop-i-init : goal.loop-i-init
loop-i-init c = let a = c.args in (zero-le, omega arith, ap (λ n. rankings_end a.file.now n a.start) (left_all a.k))

pub loop-i-preserved : goal.loop-i-preserved
loop-i-preserved c =
    let x = c.byte_at-a in
    let y = c.byte_at-b in
    let a = c.args in (
      omega arith,
      omega (arith, c.loop-i.invariant.1, x.type_inv, y.type_inv),
      c.loop-i.invariant.2 ∙ end_turn a.file.now a.k c.loop-i.i c.loop-i.at x.result y.result c.loop-i-test.true x.ensures y.ensures,
    )

pub returns : goal.returns
returns c =
    let a = c.args in
    (sym (c.loop-i.invariant.2 ∙ end_done a.file.now a.k c.loop-i.i c.loop-i.at c.loop-i-test.false), omega (arith, c.loop-i.invariant.0, c.loop-i.invariant.1))
