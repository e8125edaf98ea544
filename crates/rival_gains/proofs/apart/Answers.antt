-- No node has room; or the rows below i are written.
use Rattle.std.proofs.Common.{sym, ◌∙◌, ℕ, ◌+◌, ◌*◌, arith}
use lib.ListN.{length-replicate, get_or-replicate}
use Rattle.arrays.specs.ArrayInstance.{at, flag}
use Rattle.lists.specs.Search.{low}
use Rattle.rival_tables.specs.Within.{none_is_below}
use Rattle.rival_tables.specs.Filled.{written_none, written_row, written_all}
use Rattle.rival_gains.specs.Gains.{but_none}
use Rattle.rival_gains.proofs.apart.Goals as goal

pub returns-then-is_none : goal.returns-then-is_none
returns-then-is_none c =
    let a = c.args in
    λ end L i j h k. get_or-replicate 4096 (i * 64 + j) 3 0 (omega (arith, c.requires.3, h, k))
    ∙ sym
    (but_none a.side.now.m end a.side.now.other.now a.side.now.rank.now a.side.now.plan.now a.side.now.room.now c.requires.1
    (none_is_below 32 (low (flag a.side.now.room.now) 32) c.if-is_none.ensures c.first_room.ensures) 3
    (at a.pe.now i) (at a.pr.now i) (at a.po.now j))

pub apart_row-row-requires : goal.apart_row-row-requires
apart_row-row-requires c =
    (c.requires.0, c.requires.1, c.requires.2, c.requires.4 c.loop-i.i c.loop-i-test.true)

pub put_row-requires : goal.put_row-requires
put_row-requires c =
    (omega arith, (c.loop-i.invariant c.requires.2.0 c.requires.2.1).whole)

pub loop-i-preserved : goal.loop-i-preserved
loop-i-preserved c end L =
    written_row (c.loop-i.invariant end L) c.apart_row-row.result c.put_row.new.table (omega arith) (c.apart_row-row.ensures end L) c.put_row.ensures

pub loop-i-init : goal.loop-i-init
loop-i-init c end L = written_none (length-replicate {A = ℕ} 4096 3)

pub returns : goal.returns
returns c end L = written_all (c.loop-i.invariant end L) (omega arith)
