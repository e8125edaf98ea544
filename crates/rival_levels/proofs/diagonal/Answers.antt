-- No place below i is below the bound.
use Rattle.std.proofs.Common.{◌≡◌, refl, sym, ap, zero-le, arith, ltb, lt-ltb, le-ltb}
use Rattle.rival_tables.specs.Filled.{cell}
use Rattle.lists.specs.Search.{low, low_hit, low_miss}
use Rattle.rival_tables.specs.Within.{some_below, none_below}
use Rattle.rival_levels.proofs.diagonal.Goals as goal

pub loop-i-init : goal.loop-i-init
unfolding low
loop-i-init c = (zero-le, refl)

pub returns-then-d-i : goal.returns-then-d-i
returns-then-d-i c =
    let a = c.args in
    some_below a.n c.loop-i.i (low (λ i. ltb (cell a.d.now i i) a.bound) a.n)
    (sym
    (low_hit (λ i. ltb (cell a.d.now i i) a.bound) c.loop-i.i a.n c.loop-i.invariant.1
    (lt-ltb (cell a.d.now c.loop-i.i c.loop-i.i) a.bound c.if-d-i.true) (omega arith))) (omega arith)

pub loop-i-preserved : goal.loop-i-preserved
loop-i-preserved c =
    let a = c.args in (
      omega arith,
      low_miss (λ i. ltb (cell a.d.now i i) a.bound) c.loop-i.i c.loop-i.invariant.1
          (le-ltb (cell a.d.now c.loop-i.i c.loop-i.i) a.bound c.if-d-i.false),
    )

pub returns : goal.returns
returns c =
    let a = c.args in
    let e : c.loop-i.i ≡ a.n = omega arith in
    none_below a.n (low (λ i. ltb (cell a.d.now i i) a.bound) a.n) (omega (arith, e, c.loop-i.invariant.1, ap (low (λ i. ltb (cell a.d.now i i) a.bound)) e))
