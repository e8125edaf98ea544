-- The entries below i are written.
use Rattle.std.proofs.Common.{◌≡◌, refl, subst, zero-le, arith}
use Rattle.arrays.specs.ArrayInstance.{at}
use Rattle.arrays.specs.Passes.{fill_none, fill_next, Shows}
use Rattle.rival_tables.proofs.gathered.Goals as goal

pub loop-i-init : goal.loop-i-init
loop-i-init c = (zero-le, fill_none 0 64 (λ k. at c.args.xs.now (at c.args.es.now k)))

pub overflow_cast-e : goal.overflow_cast-e
overflow_cast-e c = omega (arith, c.requires.1 c.loop-i.i (omega arith))

pub bounds-xs-e : goal.bounds-xs-e
bounds-xs-e c = omega (arith, c.requires.1 c.loop-i.i (omega arith))

pub loop-i-preserved : goal.loop-i-preserved
loop-i-preserved c =
    let a = c.args in (
      omega arith,
      fill_next 0 64 c.loop-i.o (λ k. at a.xs.now (at a.es.now k)) c.loop-i.i (at a.xs.now (at a.es.now c.loop-i.i)) refl (omega arith)
          c.loop-i.invariant.1,
    )

pub returns : goal.returns
returns c =
    let a = c.args in
    let e : c.loop-i.i ≡ a.n = omega arith in
    subst (λ z. Shows 0 c.loop-i.o z (λ k. at a.xs.now (at a.es.now k))) e c.loop-i.invariant.1.shows
