-- pair_bytes::get: two bytes, and the third where the file has shifts.
use Rattle.std.proofs.Common.{arith}
use Rattle.pair_bytes.specs.PairAt.{width_least, width_shifts}
use Rattle.pair_bytes.proofs.get.Goals as goal

pub bounds-bytes-at : goal.bounds-bytes-at
bounds-bytes-at c = omega (arith, width_least c.args.shifts)

pub bounds-bytes-at-2 : goal.bounds-bytes-at-2
bounds-bytes-at-2 c = omega (arith, width_least c.args.shifts)

pub bounds-bytes-at-then-shifts : goal.bounds-bytes-at-then-shifts
bounds-bytes-at-then-shifts c = omega (arith, width_shifts c.if-shifts.true)

pub returns-then-shifts : goal.returns-then-shifts
returns-then-shifts c = simp c.if-shifts.true

pub returns : goal.returns
returns c = simp c.if-shifts.false
