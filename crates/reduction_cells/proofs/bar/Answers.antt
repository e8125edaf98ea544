-- Of the ranks passed, how many hold an edge of p; none of them has q before it.
use Rattle.std.proofs.Common.{◌≡◌, refl, sym, ap, ◌∙◌, zero-le, arith, le-leb, leb}
use borrow.Author.Tests.{lt-leb}
use Rattle.lists.specs.Test.{bit}
use Rattle.arrays.specs.Tally.{byte_bit, byte_one}
use Rattle.lists.specs.Search.{low, low_hit, low_miss}
use Rattle.model.specs.Limits.{empty_rank}
use Rattle.arrays.specs.ArrayInstance.{flag}
use Rattle.reduction_cells.specs.Cells.{passed, passed_next, passed_few}
use Rattle.reduction_cells.proofs.bar.Goals as goal

pub loop-r-init : goal.loop-r-init
unfolding low passed
loop-r-init c =
    (zero-le, refl, refl)

pub returns-then-q-c : goal.returns-then-q-c
returns-then-q-c c =
    let a = c.args in
    let l = c.loop-r in
    sym (low_hit (λ r. leb a.q (passed a.m a.table.now (flag a.p.now) a.v r)) l.r empty_rank l.invariant.2
    (le-leb a.q (passed a.m a.table.now (flag a.p.now) a.v l.r) (omega (arith, l.invariant.1))) (omega arith))

pub overflow_cast-e : goal.overflow_cast-e
overflow_cast-e c =
    let a = c.args in
    let l = c.loop-r in
    omega (
      arith,
      c.requires.1.edges,
      c.requires.1.inside a.v l.r c.requires.0 (omega arith),
    )

pub held-requires : goal.held-requires
held-requires c =
    c.requires.1.edges

pub overflow_add-c : goal.overflow_add-c
overflow_add-c c =
    let a = c.args in
    let l = c.loop-r in
    omega (
      arith,
      l.invariant.1,
      passed_few a.m a.table.now (flag a.p.now) a.v l.r,
      byte_one c.held.result,
    )

pub loop-r-preserved : goal.loop-r-preserved
loop-r-preserved c =
    let a = c.args in
    let l = c.loop-r in (
      omega arith,
      omega (
        arith,
        l.invariant.1,
        byte_bit c.held.result,
        ap bit c.held.ensures,
        passed_next a.m a.table.now (flag a.p.now) a.v l.r,
      ),
      low_miss (λ r. leb a.q (passed a.m a.table.now (flag a.p.now) a.v r)) l.r l.invariant.2
          (lt-leb a.q (passed a.m a.table.now (flag a.p.now) a.v l.r) (omega (arith, l.invariant.1))),
    )

pub returns : goal.returns
returns c =
    let a = c.args in
    let l = c.loop-r in
    let e : l.r ≡ empty_rank = omega arith in
    sym e ∙ sym l.invariant.2 ∙ ap (low (λ r. leb a.q (passed a.m a.table.now (flag a.p.now) a.v r))) e
