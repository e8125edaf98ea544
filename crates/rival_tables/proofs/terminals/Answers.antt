-- The rows below i are written.
use Rattle.std.proofs.Common.{ℕ, zero-le, arith, not-suc-le-zero}
use lib.ListN.{length-replicate}
use Rattle.rival_tables.specs.Terminals.{terminal_at, part_next}
use Rattle.rival_tables.proofs.terminals.Goals as goal

pub loop-i-init : goal.loop-i-init
loop-i-init c = (zero-le, length-replicate {A = ℕ} 4096 0, λ i j h. absurd (not-suc-le-zero h))

pub terminal_row-row-requires : goal.terminal_row-row-requires
terminal_row-row-requires c = (omega arith, omega arith, c.requires.1)

pub loop-i-preserved : goal.loop-i-preserved
loop-i-preserved c =
    let a = c.args in (
      omega arith,
      c.put_row.ensures.0,
      part_next c.loop-i.o c.terminal_row-row.result c.put_row.new.table
          (terminal_at a.starts.now a.stops.now a.gs.now a.gt.now) a.n c.loop-i.i (omega arith) c.loop-i.invariant.2
          c.terminal_row-row.ensures c.put_row.ensures.1,
    )

pub returns : goal.returns
returns c = λ i j h k. c.loop-i.invariant.2 i j (omega arith) k

pub put_row-requires : goal.put_row-requires
put_row-requires c = (omega arith, c.loop-i.invariant.1)
