-- `roster_routes::route_of` meets its contract: the first i numbers are stands', none twice, and the table has their places. Assumes nothing.
use Rattle.std.proofs.Common.{ℕ, ◌<◌, zero-le, arith, length}
use lib.ListN.{length-replicate, get_or-replicate}
use Rattle.roster_routes.specs.Marking.{marked_none, marked_step, named_all, outside_not, above_not, twice_not, all_taken_law}
use Rattle.roster_routes.proofs.route_of.Goals.{In-loop-i}
use Rattle.roster_routes.proofs.route_of.Goals as goal

pub returns-then-route-nt : goal.returns-then-route-nt
returns-then-route-nt c =
    λ N. c.if-route-nt.true N.count

pub loop-i-init : goal.loop-i-init
loop-i-init c = (zero-le, marked_none c.args.nt _ (length-replicate {A = ℕ} 33 0) (λ t h. get_or-replicate 33 t 0 0 (omega arith)))

-- the number of a turn
there : (p : In-loop-i) → p.loop-i.i < length p.args.route.now
there p = omega (arith, p.loop-i-test.true, p.if-route-nt.false)

pub overflow_cast-t : goal.overflow_cast-t
overflow_cast-t c = omega (arith, c.type_inv.route c.loop-i.i)

pub returns-then-t-eq0 : goal.returns-then-t-eq0
returns-then-t-eq0 c =
    let a = c.args in
    outside_not a.route.now a.nt c.loop-i.i (there (goal.at.returns-then-t-eq0 c).In-loop-i) c.if-t-eq0.true

pub returns-then-nt-t : goal.returns-then-nt-t
returns-then-nt-t c =
    let a = c.args in
    above_not a.route.now a.nt c.loop-i.i (there (goal.at.returns-then-nt-t c).In-loop-i) c.if-nt-t.true

pub bounds-numbers-t : goal.bounds-numbers-t
bounds-numbers-t c =
    omega (arith, c.loop-i.invariant.1.size, c.if-nt-t.false, c.requires)

pub loop-i-preserved : goal.loop-i-preserved
loop-i-preserved c =
    let a = c.args in (
      omega (arith, c.loop-i-test.true),
      marked_step a.route.now a.nt c.loop-i.i c.loop-i.numbers (there (goal.at.loop-i-preserved c).In-loop-i) c.loop-i.invariant.1 c.if-t-eq0.false c.if-nt-t.false
          c.requires c.if-numbers-t-gt0.false,
    )

pub returns-then-numbers-t-gt0 : goal.returns-then-numbers-t-gt0
returns-then-numbers-t-gt0 c =
    let a = c.args in
    twice_not a.route.now a.nt c.loop-i.i (there (goal.at.returns-then-numbers-t-gt0 c).In-loop-i) c.loop-i.numbers c.loop-i.invariant.1 (omega (arith, c.if-nt-t.false, c.requires))
    c.if-numbers-t-gt0.true

pub bounds-numbers-t-in-loop-i : goal.bounds-numbers-t-in-loop-i
bounds-numbers-t-in-loop-i c =
    omega (arith, c.loop-i.invariant.1.size, c.if-nt-t.false, c.requires)

pub returns : goal.returns
returns c =
    let a = c.args in
    named_all a.route.now a.nt c.loop-i.numbers c.requires c.if-route-nt.false
    (all_taken_law a.route.now a.nt c.loop-i.i c.loop-i.numbers c.if-route-nt.false c.loop-i-test.false c.loop-i.invariant.1)
