-- No sum of the row is below the bound; or none of the columns below j.
use Rattle.std.proofs.Common.{◌≡◌, refl, sym, ap, ◌+◌, zero-le, arith, ltb, lt-ltb, le-ltb}
use Rattle.arrays.specs.ArrayInstance.{at}
use Rattle.lists.specs.Search.{low, low_hit, low_miss, low_none}
use Rattle.rival_tables.specs.Within.{some_below, none_below}
use Rattle.rival_levels.proofs.ends.Goals as goal

pub returns-then-least-bound : goal.returns-then-least-bound
returns-then-least-bound c =
    let a = c.args in
    none_below a.n (low (λ j. ltb (at a.d.now (a.b + j) + at a.terminals.now (a.b + j)) a.bound) a.n)
    (omega (
      arith,
      low_none (λ j. ltb (at a.d.now (a.b + j) + at a.terminals.now (a.b + j)) a.bound) a.n
          (λ j h. le-ltb (at a.d.now (a.b + j) + at a.terminals.now (a.b + j)) a.bound
          (omega (arith, c.if-least-bound.true, c.least_end-least.ensures j h))),
    ))

pub loop-j-init : goal.loop-j-init
unfolding low
loop-j-init c = (zero-le, refl)

pub returns-then-d-b : goal.returns-then-d-b
returns-then-d-b c =
    let a = c.args in
    some_below a.n c.loop-j.j (low (λ j. ltb (at a.d.now (a.b + j) + at a.terminals.now (a.b + j)) a.bound) a.n)
    (sym
    (low_hit (λ j. ltb (at a.d.now (a.b + j) + at a.terminals.now (a.b + j)) a.bound) c.loop-j.j a.n c.loop-j.invariant.1
    (lt-ltb (at a.d.now (a.b + c.loop-j.j) + at a.terminals.now (a.b + c.loop-j.j)) a.bound c.if-d-b.true) (omega arith))) (omega arith)

pub loop-j-preserved : goal.loop-j-preserved
loop-j-preserved c =
    let a = c.args in (
      omega arith,
      low_miss (λ j. ltb (at a.d.now (a.b + j) + at a.terminals.now (a.b + j)) a.bound) c.loop-j.j c.loop-j.invariant.1
          (le-ltb (at a.d.now (a.b + c.loop-j.j) + at a.terminals.now (a.b + c.loop-j.j)) a.bound c.if-d-b.false),
    )

pub returns : goal.returns
returns c =
    let a = c.args in
    let e : c.loop-j.j ≡ a.n = omega arith in
    none_below a.n (low (λ j. ltb (at a.d.now (a.b + j) + at a.terminals.now (a.b + j)) a.bound) a.n) (omega (arith, e, c.loop-j.invariant.1, ap (low (λ j. ltb (at a.d.now (a.b + j) + at a.terminals.now (a.b + j)) a.bound)) e))
