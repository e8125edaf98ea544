-- The rows below i are written.
use Rattle.std.proofs.Common.{ℕ, arith}
use lib.ListN.{length-replicate}
use Rattle.rival_tables.specs.Filled.{written_none, written_row, written_all}
use Rattle.rival_tight.proofs.tight.Goals as goal

pub loop-i-init : goal.loop-i-init
loop-i-init c = written_none (length-replicate {A = ℕ} 4096 133)

pub tight_row-row-requires : goal.tight_row-row-requires
tight_row-row-requires c = (omega arith, c.requires.1)

pub put_row-requires : goal.put_row-requires
put_row-requires c = (omega arith, c.loop-i.invariant.whole)

pub loop-i-preserved : goal.loop-i-preserved
loop-i-preserved c =
    written_row c.loop-i.invariant c.tight_row-row.result c.put_row.new.table (omega arith) c.tight_row-row.ensures c.put_row.ensures

pub returns : goal.returns
returns c = written_all c.loop-i.invariant (omega arith)
