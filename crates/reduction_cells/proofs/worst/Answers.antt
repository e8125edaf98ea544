-- None of the ranks passed, from the last on, holds an edge of N(s).
use Rattle.std.proofs.Common.{refl, sym, ◌∙◌, ◌-◌, zero-le, arith}
use Rattle.lists.specs.Search.{low, low_miss}
use Rattle.reduction_cells.specs.Cells.{in_worst, worst_hit, worst_none, spread_low}
use Rattle.reduction_cells.proofs.worst.Invariants.{in_n}
use Rattle.reduction_cells.proofs.worst.Goals as goal

pub loop-k-init : goal.loop-k-init
unfolding low
loop-k-init c = (zero-le, refl)

pub overflow_cast-e : goal.overflow_cast-e
overflow_cast-e c = let p = c.requires in omega (arith, spread_low p.1 p.0 {r = 32 - c.loop-k.k} (omega arith))

pub returns-then-reserved : goal.returns-then-reserved
returns-then-reserved c =
    let a = c.args in
    let l = c.loop-k in
    worst_hit a.m a.table.now (in_n a.other.now a.rem.now a.lo.now a.f.now) a.v l.k l.invariant.1 (omega arith)
    (sym c.reserved.ensures ∙ c.if-reserved.true)

pub loop-k-preserved : goal.loop-k-preserved
loop-k-preserved c =
    let a = c.args in
    let l = c.loop-k in (
      omega arith,
      low_miss (in_worst a.m a.table.now (in_n a.other.now a.rem.now a.lo.now a.f.now) a.v) l.k l.invariant.1
          (sym c.reserved.ensures ∙ c.if-reserved.false),
    )

pub returns : goal.returns
returns c = let a = c.args in
    worst_none a.m a.table.now (in_n a.other.now a.rem.now a.lo.now a.f.now) a.v c.loop-k.k c.loop-k.invariant.1
    (omega arith)

pub reserved-requires : goal.reserved-requires
reserved-requires c = (c.requires.1.edges, c.requires.2)
