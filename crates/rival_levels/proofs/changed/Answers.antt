-- No row below i is lower anywhere.
use Rattle.std.proofs.Common.{◌≡◌, refl, sym, ap, zero-le, arith, ltb, lt-ltb, le-ltb}
use Rattle.rival_tables.specs.Filled.{cell}
use Rattle.lists.specs.Search.{low, low_hit, low_miss}
use Rattle.rival_levels.specs.Levels.{lowered_at}
use Rattle.rival_tables.specs.Within.{some_below, none_below, some_is_below, none_is_below}
use Rattle.rival_levels.proofs.changed.Goals as goal

pub loop-i-init : goal.loop-i-init
unfolding low
loop-i-init c = (zero-le, refl)

pub lowered-requires : goal.lowered-requires
lowered-requires c = (omega arith, omega arith, λ j h. c.requires.1 c.loop-i.i j (omega arith) h)

pub returns-then-is_some : goal.returns-then-is_some
returns-then-is_some c =
    let a = c.args in
    let i = c.loop-i.i in
    some_below a.n i (low (λ i. ltb (lowered_at (cell a.d.now) (cell a.e.now) a.n i) a.n) a.n)
    (sym
    (low_hit (λ i. ltb (lowered_at (cell a.d.now) (cell a.e.now) a.n i) a.n) i a.n c.loop-i.invariant.1
    (lt-ltb (lowered_at (cell a.d.now) (cell a.e.now) a.n i) a.n
    (some_is_below a.n (lowered_at (cell a.d.now) (cell a.e.now) a.n i) (sym c.if-is_some.ensures) c.lowered.ensures)) (omega arith)))
    (omega arith)

pub loop-i-preserved : goal.loop-i-preserved
loop-i-preserved c =
    let a = c.args in
    let i = c.loop-i.i in (
      omega arith,
      low_miss (λ i. ltb (lowered_at (cell a.d.now) (cell a.e.now) a.n i) a.n) i c.loop-i.invariant.1
          (le-ltb (lowered_at (cell a.d.now) (cell a.e.now) a.n i) a.n
          (none_is_below a.n (lowered_at (cell a.d.now) (cell a.e.now) a.n i) (sym c.if-is_some.ensures) c.lowered.ensures)),
    )

pub returns : goal.returns
returns c =
    let a = c.args in
    let e : c.loop-i.i ≡ a.n = omega arith in
    none_below a.n (low (λ i. ltb (lowered_at (cell a.d.now) (cell a.e.now) a.n i) a.n) a.n) (omega (arith, e, c.loop-i.invariant.1, ap (low (λ i. ltb (lowered_at (cell a.d.now) (cell a.e.now) a.n i) a.n)) e))
