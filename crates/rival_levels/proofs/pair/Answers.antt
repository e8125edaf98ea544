-- No row below i has a column below the bound.
use Rattle.std.proofs.Common.{◌≡◌, refl, sym, ap, zero-le, arith, ltb, lt-ltb, le-ltb}
use Rattle.rival_tables.specs.Filled.{cell}
use Rattle.lists.specs.Search.{low, low_hit, low_miss}
use Rattle.rival_levels.specs.Levels.{ends_at, some_place, no_place}
use Rattle.rival_tables.specs.Within.{found_below, nothing_below}
use Rattle.rival_levels.proofs.pair.Goals as goal

pub loop-i-init : goal.loop-i-init
unfolding low
loop-i-init c = (zero-le, refl)

pub ends-requires : goal.ends-requires
ends-requires c = (
  omega arith,
  omega arith,
  λ j h. omega (
    arith,
    c.requires.1 c.loop-i.i j (omega arith) (omega arith),
    c.requires.2 c.loop-i.i j (omega arith) h,
  ),
)

pub returns-in-Some : goal.returns-in-Some
returns-in-Some c =
    let a = c.args in
    let i = c.loop-i.i in
    let (e, h) = found_below a.n c.in-Some.j (ends_at (cell a.d.now) a.terminals.now a.n a.bound i) c.in-Some.is c.ends.ensures in
    some_place (cell a.d.now) a.terminals.now a.n a.bound i c.in-Some.j
    (sym
    (low_hit (λ i. ltb (ends_at (cell a.d.now) a.terminals.now a.n a.bound i) a.n) i a.n c.loop-i.invariant.1
    (lt-ltb (ends_at (cell a.d.now) a.terminals.now a.n a.bound i) a.n (omega (arith, e, h))) (omega arith)))
    (omega arith) e

pub loop-i-preserved : goal.loop-i-preserved
loop-i-preserved c =
    let a = c.args in
    let i = c.loop-i.i in (
      omega arith,
      low_miss (λ i. ltb (ends_at (cell a.d.now) a.terminals.now a.n a.bound i) a.n) i c.loop-i.invariant.1
          (le-ltb (ends_at (cell a.d.now) a.terminals.now a.n a.bound i) a.n (nothing_below a.n (ends_at (cell a.d.now) a.terminals.now a.n a.bound i) c.in_default.is c.ends.ensures)),
    )

pub returns : goal.returns
returns c =
    let a = c.args in
    let e : c.loop-i.i ≡ a.n = omega arith in
    no_place (cell a.d.now) a.terminals.now a.n a.bound
    (omega (arith, e, c.loop-i.invariant.1, ap (low (λ i. ltb (ends_at (cell a.d.now) a.terminals.now a.n a.bound i) a.n)) e))
