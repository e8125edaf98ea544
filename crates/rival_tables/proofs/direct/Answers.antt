-- No edge below f has room at both ends.
use Rattle.std.proofs.Common.{◌≡◌, refl, sym, ap, not, ◌&&◌, zero-le, arith}
use Rattle.arrays.specs.ArrayInstance.{at, flag}
use Rattle.lists.specs.Search.{low, low_hit, low_miss}
use Rattle.rival_tables.specs.Within.{some_below, none_below}
use Rattle.rival_tables.proofs.direct.Goals as goal

pub loop-f-init : goal.loop-f-init
unfolding low
loop-f-init c = (zero-le, refl)

pub overflow_cast-s : goal.overflow_cast-s
overflow_cast-s c = omega (arith, c.requires.1 c.loop-f.f (omega arith))

pub overflow_cast-t : goal.overflow_cast-t
overflow_cast-t c = omega (arith, c.requires.2 c.loop-f.f (omega arith))

pub bounds-room-s : goal.bounds-room-s
bounds-room-s c = omega (arith, c.requires.1 c.loop-f.f (omega arith))

pub bounds-room-t : goal.bounds-room-t
bounds-room-t c =
    omega (arith, c.requires.2 c.loop-f.f (omega arith))

pub returns-then-plan-f : goal.returns-then-plan-f
returns-then-plan-f c =
    let a = c.args in
    some_below a.g.now.m c.loop-f.f (low (λ f. not (flag a.plan.now f) && (flag a.room.now.s (at a.g.now.sv f) && flag a.room.now.t (at a.g.now.st f))) a.g.now.m)
    (sym (low_hit (λ f. not (flag a.plan.now f) && (flag a.room.now.s (at a.g.now.sv f) && flag a.room.now.t (at a.g.now.st f))) c.loop-f.f a.g.now.m c.loop-f.invariant.1 c.if-plan-f.true (omega arith))) (omega arith)

pub loop-f-preserved : goal.loop-f-preserved
loop-f-preserved c =
    let a = c.args in (
      omega arith,
      low_miss (λ f. not (flag a.plan.now f) && (flag a.room.now.s (at a.g.now.sv f) && flag a.room.now.t (at a.g.now.st f))) c.loop-f.f
          c.loop-f.invariant.1 c.if-plan-f.false,
    )

pub returns : goal.returns
returns c =
    let a = c.args in
    let e : c.loop-f.f ≡ a.g.now.m = omega arith in
    none_below a.g.now.m (low (λ f. not (flag a.plan.now f) && (flag a.room.now.s (at a.g.now.sv f) && flag a.room.now.t (at a.g.now.st f))) a.g.now.m) (omega (arith, e, c.loop-f.invariant.1, ap (low (λ f. not (flag a.plan.now f) && (flag a.room.now.s (at a.g.now.sv f) && flag a.room.now.t (at a.g.now.st f)))) e))
