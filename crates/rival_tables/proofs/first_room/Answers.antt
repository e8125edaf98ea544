-- No node below v has room.
use Rattle.std.proofs.Common.{◌≡◌, refl, sym, ap, zero-le, arith}
use Rattle.arrays.specs.ArrayInstance.{flag}
use Rattle.lists.specs.Search.{low, low_hit, low_miss}
use Rattle.rival_tables.specs.Within.{some_below, none_below}
use Rattle.rival_tables.proofs.first_room.Goals as goal

pub loop-v-init : goal.loop-v-init
unfolding low
loop-v-init c = (zero-le, refl)

pub returns-then-room-v : goal.returns-then-room-v
returns-then-room-v c =
    some_below 32 c.loop-v.v (low (flag c.args.room.now) 32)
    (sym (low_hit (flag c.args.room.now) c.loop-v.v 32 c.loop-v.invariant.1 c.if-room-v.true (omega arith))) (omega arith)

pub loop-v-preserved : goal.loop-v-preserved
loop-v-preserved c =
    (omega arith, low_miss (flag c.args.room.now) c.loop-v.v c.loop-v.invariant.1 c.if-room-v.false)

pub returns : goal.returns
returns c =
    let e : c.loop-v.v ≡ 32 = omega arith in
    none_below 32 (low (flag c.args.room.now) 32) (omega (arith, e, c.loop-v.invariant.1, ap (low (flag c.args.room.now)) e))
