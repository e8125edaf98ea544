-- None of the ranks passed holds an edge.
use Rattle.std.proofs.Common.{arith}
use Rattle.offers.specs.NextEntry.{holds, missed_next, none_before, rank_missed, entry_hit, entry_none}
use Rattle.offers.proofs.entry_from.Goals as goal

pub loop-r-init : goal.loop-r-init
loop-r-init c = let a = c.args in (omega arith, none_before a.m a.cell.now a.s a.from)

pub overflow_cast-e : goal.overflow_cast-e
overflow_cast-e c =
    omega (arith, c.requires.1, c.requires.2 c.args.s c.loop-r.r c.requires.0 (omega arith))

pub returns-then-e-m : goal.returns-then-e-m
returns-then-e-m c =
    let a = c.args in
    let e = entry_hit a.m a.cell.now a.s a.from c.loop-r.r (omega arith) c.loop-r.invariant.0 (omega arith) c.loop-r.invariant.1 in
    (omega (arith, e, c.if-e-m.true), e)

pub loop-r-preserved : goal.loop-r-preserved
loop-r-preserved c =
    let a = c.args in (
      omega arith,
      missed_next (holds a.m a.cell.now a.s a.from) c.loop-r.r c.loop-r.invariant.1
          (rank_missed a.m a.cell.now a.s a.from c.loop-r.r (omega arith)),
    )

pub returns : goal.returns
returns c h =
    let a = c.args in
    absurd (omega (arith, h, entry_none a.m a.cell.now a.s a.from c.loop-r.r (omega arith) c.loop-r.invariant.1))
