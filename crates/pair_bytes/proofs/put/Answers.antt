-- pair_bytes::put: three stores.
use Rattle.std.proofs.Common.{arith, add-one, length-set}
use Rattle.pair_bytes.proofs.put.Goals as goal

pub bounds-out-at-2 : goal.bounds-out-at-2
bounds-out-at-2 c = simp length-set (omega arith)

pub bounds-out-at-3 : goal.bounds-out-at-3
bounds-out-at-3 c = simp length-set (omega arith)

pub returns : goal.returns
returns c = simp add-one
