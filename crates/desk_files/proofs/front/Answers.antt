-- `desk_files::front` meets its contract: the whole array is as long as its length. Assumes nothing.
use Rattle.std.proofs.Common.{arith, sym, length-take-le, take_all}
use Rattle.desk_files.proofs.front.Goals as goal

pub slice_bounds-result-end : goal.slice_bounds-result-end
slice_bounds-result-end c = let a = c.args in sym (length-take-le a.len a.array.now (omega (arith, c.if-len-array.true)))

pub returns : goal.returns
returns c = let a = c.args in sym (take_all a.len a.array.now c.if-len-array.false)
