-- The places below i are written.
use Rattle.std.proofs.Common.{refl, zero-le, arith, not-suc-le-zero, length-set}
use Rattle.arrays.specs.Filled.{made_set}
use Rattle.rival_tables.specs.Filled.{cell}
use Rattle.rival_walk.specs.Leads.{lead_at}
use Rattle.rival_walk.proofs.next_column.Goals as goal

pub loop-i-init : goal.loop-i-init
loop-i-init c = (zero-le, refl, λ e h. absurd (not-suc-le-zero h))

pub price-requires : goal.price-requires
price-requires c =
    let p = c.requires in
    (p.0, omega arith, p.1, p.2)

pub loop-i-preserved : goal.loop-i-preserved
loop-i-preserved c =
    let a = c.args in (
      omega arith,
      simp length-set c.loop-i.invariant.1,
      made_set 0 c.loop-i.o (λ i. (lead_at a.arcs.now a.n (cell a.table.now a.k) i).0) c.loop-i.i c.price.result
          (omega arith) c.price.ensures c.loop-i.invariant.2,
    )

pub returns : goal.returns
returns c = λ e h. c.loop-i.invariant.2 e (omega arith)
