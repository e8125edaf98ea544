-- The rows up to k are the column's.
use Rattle.std.proofs.Common.{ℕ, zero-le, arith, replicate}
use lib.ListN.{length-replicate}
use Rattle.rival_walk.specs.Leads.{layer_small, column_first, column_next}
use Rattle.rival_walk.proofs.columns.Goals as goal

pub loop-k-init : goal.loop-k-init
loop-k-init c = (
  zero-le,
  c.put_row.ensures.0,
  column_first c.args.arcs.now c.args.n c.args.j c.requires.0 (replicate 4096 133) c.first_column-first.result
      c.put_row.new.table c.first_column-first.ensures c.put_row.ensures.1,
)

pub put_row-requires : goal.put_row-requires
put_row-requires c = (omega arith, length-replicate {A = ℕ} 4096 133)

pub next_column-row-requires : goal.next_column-row-requires
next_column-row-requires c = (
  c.requires.0,
  omega arith,
  λ y h. omega (
    arith,
    c.loop-k.invariant.2 c.loop-k.k y (omega arith) h,
    layer_small c.args.arcs.now c.args.n c.loop-k.k y c.args.j c.requires.3 h (omega arith),
  ),
)

pub put_row-requires-in-loop-k : goal.put_row-requires-in-loop-k
put_row-requires-in-loop-k c = (omega arith, c.loop-k.invariant.1)

pub loop-k-preserved : goal.loop-k-preserved
loop-k-preserved c = (
  omega arith,
  c.put_row-in-loop-k.ensures.0,
  column_next c.args.arcs.now c.args.n c.args.j c.requires.0 c.loop-k.o
      c.next_column-row.result c.put_row-in-loop-k.new.table
      c.loop-k.k c.loop-k.invariant.2 c.next_column-row.ensures c.put_row-in-loop-k.ensures.1,
)

pub returns : goal.returns
returns c = λ k i h il. c.loop-k.invariant.2 k i (omega arith) il
