-- pair_bytes::put_by: two stores, and a third where the file has shifts.
use Rattle.std.proofs.Common.{arith, sym, ap, length-set}
use Rattle.pair_bytes.specs.PairAt.{put_by, width_least, width_shifts}
use Rattle.pair_bytes.proofs.put_by.Goals as goal

pub bounds-out-at : goal.bounds-out-at
bounds-out-at c = omega (arith, width_least c.args.shifts)

pub bounds-out-at-2 : goal.bounds-out-at-2
bounds-out-at-2 c = simp length-set (omega (arith, width_least c.args.shifts))

pub bounds-out-at-then-shifts : goal.bounds-out-at-then-shifts
bounds-out-at-then-shifts c = simp length-set (omega (arith, width_shifts c.if-shifts.true))

pub returns-then-shifts : goal.returns-then-shifts
returns-then-shifts c = let a = c.args in ap (λ b. put_by b a.out.now a.at a.p) (sym c.if-shifts.true)

pub returns-else-shifts : goal.returns-else-shifts
returns-else-shifts c = let a = c.args in ap (λ b. put_by b a.out.now a.at a.p) (sym c.if-shifts.false)
