-- No column below j is lower.
use Rattle.std.proofs.Common.{◌≡◌, refl, sym, ap, ◌+◌, zero-le, arith, ltb, lt-ltb, le-ltb}
use Rattle.arrays.specs.ArrayInstance.{at}
use Rattle.lists.specs.Search.{low, low_hit, low_miss}
use Rattle.rival_levels.specs.Layers.{kept_price}
use Rattle.rival_tables.specs.Within.{some_below, none_below}
use Rattle.rival_levels.proofs.lowered.Goals as goal

pub loop-j-init : goal.loop-j-init
unfolding low
loop-j-init c = (zero-le, refl)

pub returns-then-e-b : goal.returns-then-e-b
returns-then-e-b c =
    let a = c.args in
    some_below a.n c.loop-j.j (low (λ j. ltb (at a.e.now (a.b + j)) (kept_price (at a.d.now (a.b + j)))) a.n)
    (sym
    (low_hit (λ j. ltb (at a.e.now (a.b + j)) (kept_price (at a.d.now (a.b + j)))) c.loop-j.j a.n c.loop-j.invariant.1
    (lt-ltb (at a.e.now (a.b + c.loop-j.j)) (kept_price (at a.d.now (a.b + c.loop-j.j)))
    (omega (arith, c.min-kept.ensures, c.if-e-b.true)))
    (omega arith))) (omega arith)

pub loop-j-preserved : goal.loop-j-preserved
loop-j-preserved c =
    let a = c.args in (
      omega arith,
      low_miss (λ j. ltb (at a.e.now (a.b + j)) (kept_price (at a.d.now (a.b + j)))) c.loop-j.j c.loop-j.invariant.1
          (le-ltb (at a.e.now (a.b + c.loop-j.j)) (kept_price (at a.d.now (a.b + c.loop-j.j)))
          (omega (arith, c.min-kept.ensures, c.if-e-b.false))),
    )

pub returns : goal.returns
returns c =
    let a = c.args in
    let e : c.loop-j.j ≡ a.n = omega arith in
    none_below a.n (low (λ j. ltb (at a.e.now (a.b + j)) (kept_price (at a.d.now (a.b + j)))) a.n) (omega (arith, e, c.loop-j.invariant.1, ap (low (λ j. ltb (at a.e.now (a.b + j)) (kept_price (at a.d.now (a.b + j))))) e))
