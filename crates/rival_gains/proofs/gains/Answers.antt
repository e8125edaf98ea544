-- No node has room; or the entries below i are written.
use Rattle.std.proofs.Common.{refl, sym, ◌∙◌, zero-le, arith, not-suc-le-zero, length-set}
use lib.ListN.{get_or-replicate}
use Rattle.arrays.specs.ArrayInstance.{at, flag}
use Rattle.lists.specs.Search.{low}
use Rattle.rival_tables.specs.Within.{none_is_below}
use Rattle.arrays.specs.Filled.{made_set}
use Rattle.rival_gains.specs.Gains.{gain_price, gain_none}
use Rattle.rival_gains.proofs.gains.Goals as goal

pub returns-then-is_none : goal.returns-then-is_none
returns-then-is_none c =
    let a = c.args in
    λ end L i h. get_or-replicate 64 i 6 0 (omega (arith, c.requires.3, h))
    ∙ sym
    (gain_none a.side.now.m end a.side.now.other.now a.side.now.rank.now a.side.now.plan.now a.side.now.room.now c.requires.1
    (none_is_below 32 (low (flag a.side.now.room.now) 32) c.if-is_none.ensures c.first_room.ensures) 6
    (at a.pe.now i) (at a.pr.now i))

pub loop-i-init : goal.loop-i-init
loop-i-init c = (zero-le, refl, λ end L i h. absurd (not-suc-le-zero h))

pub least_rates-r-requires : goal.least_rates-r-requires
least_rates-r-requires c =
    (c.requires.0, c.requires.1, c.requires.2, c.requires.4 c.loop-i.i c.loop-i-test.true)

pub loop-i-preserved : goal.loop-i-preserved
loop-i-preserved c =
    let a = c.args in (
      omega arith,
      simp length-set c.loop-i.invariant.1,
      λ end L. made_set 0 c.loop-i.o
          (λ i. gain_price a.side.now.m end a.side.now.other.now a.side.now.rank.now a.side.now.plan.now a.side.now.room.now 6 (at a.pe.now i) (at a.pr.now i))
          c.loop-i.i c.least_rates-r.result.all (omega arith) (c.least_rates-r.ensures end L).0 (c.loop-i.invariant.2 end L),
    )

pub returns : goal.returns
returns c = λ end L i h. c.loop-i.invariant.2 end L i (omega arith)
