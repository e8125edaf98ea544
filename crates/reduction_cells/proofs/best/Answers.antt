-- None of the ranks passed holds an edge of p.
use Rattle.std.proofs.Common.{refl, sym, ◌∙◌, zero-le, arith}
use Rattle.lists.specs.Search.{low, low_miss}
use Rattle.arrays.specs.ArrayInstance.{flag}
use Rattle.reduction_cells.specs.Cells.{in_best, best_hit, best_none, spread_low}
use Rattle.reduction_cells.proofs.best.Goals as goal

pub loop-r-init : goal.loop-r-init
unfolding low
loop-r-init c = (zero-le, refl)

pub overflow_cast-e : goal.overflow_cast-e
overflow_cast-e c = let p = c.requires in omega (arith, spread_low p.1 p.0 {r = c.loop-r.r} (omega arith))

pub returns-then-held : goal.returns-then-held
returns-then-held c =
    let a = c.args in
    let l = c.loop-r in
    best_hit a.m a.table.now (flag a.p.now) a.v l.r l.invariant.1 (omega arith) (sym c.held.ensures ∙ c.if-held.true)

pub loop-r-preserved : goal.loop-r-preserved
loop-r-preserved c =
    let a = c.args in
    let l = c.loop-r in (
      omega arith,
      low_miss (in_best a.m a.table.now (flag a.p.now) a.v) l.r l.invariant.1 (sym c.held.ensures ∙ c.if-held.false),
    )

pub returns : goal.returns
returns c = let a = c.args in
    best_none a.m a.table.now (flag a.p.now) a.v c.loop-r.r c.loop-r.invariant.1 (omega arith)

pub held-requires : goal.held-requires
held-requires c = c.requires.1.edges
