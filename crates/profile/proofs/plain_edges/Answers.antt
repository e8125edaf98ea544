-- The edges below e are neither tied nor in another shift.
use Rattle.std.proofs.Common.{arith, ◌≡◌, ap, ◌∙◌, not, ◌&&◌, eqb}
use Rattle.theory_offers.specs.ProfileInstance.{plain_edges}
use Rattle.arrays.specs.ArrayInstance.{at, flag}
use Rattle.profile.specs.EachTest.{plain_none, plain_next}
use Rattle.profile.proofs.plain_edges.Goals as goal

pub loop-e-init : goal.loop-e-init
loop-e-init c = let a = c.args in (omega arith, plain_none (flag a.tied.now) (at a.sh.now))

pub bounds-sh-e : goal.bounds-sh-e
bounds-sh-e c = omega (arith, c.requires)

pub bounds-tied-e : goal.bounds-tied-e
bounds-tied-e c = omega (arith, c.requires)

pub loop-e-preserved : goal.loop-e-preserved
loop-e-preserved c =
    let l = c.loop-e in
    let a = c.args in
    let tied = flag a.tied.now in
    let sh = at a.sh.now in
    (omega arith, ap (λ b. (not (tied l.e) && eqb (sh l.e) 1) && b) l.invariant.1 ∙ plain_next tied sh l.e)

pub returns : goal.returns
returns c =
    let l = c.loop-e in
    let a = c.args in
    let q : l.e ≡ a.m = omega arith in
    l.invariant.1 ∙ ap (plain_edges (flag a.tied.now) (at a.sh.now)) q
