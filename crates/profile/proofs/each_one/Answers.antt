-- The nodes below i have one.
use Rattle.std.proofs.Common.{arith, ◌≡◌, ap, ◌∙◌, ◌&&◌, eqb}
use Rattle.theory_offers.specs.ProfileInstance.{each_one}
use Rattle.arrays.specs.ArrayInstance.{at}
use Rattle.profile.specs.EachTest.{each_none, each_next}
use Rattle.profile.proofs.each_one.Goals as goal

pub loop-i-init : goal.loop-i-init
loop-i-init c = (omega arith, each_none (at c.args.quota.now))

pub bounds-quota-i : goal.bounds-quota-i
bounds-quota-i c = omega (arith, c.requires)

pub loop-i-preserved : goal.loop-i-preserved
loop-i-preserved c =
    let l = c.loop-i in
    let q = at c.args.quota.now in
    (omega arith, ap (λ b. eqb (q l.i) 1 && b) l.invariant.1 ∙ each_next q l.i)

pub returns : goal.returns
returns c =
    let l = c.loop-i in
    let a = c.args in
    let e : l.i ≡ a.n = omega arith in
    l.invariant.1 ∙ ap (each_one (at a.quota.now)) e
