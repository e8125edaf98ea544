-- The best of the edges from f on and of what is held is the best of all, with the node d shut out and without; f is an edge of node e.
use Rattle.std.proofs.Common.{ap, ◌∙◌, not, ◌+◌, ◌≤◌, ◌<◌, min, arith, eqb}
use Rattle.arrays.specs.ArrayInstance.{at}
use Rattle.rival_tables.specs.Cheapest.{offer}
use Rattle.rival_tables.specs.Visits.{head_inside, next_onward, visit_first, visit_next}
use Rattle.rival_gains.specs.Gains.{gainable_here}
use Rattle.rival_gains.specs.BothGains.{Held, held_start, held_past, held_turn, held_others, held_as, held_end}
use Rattle.rival_gains.proofs.least_rates.Goals.{In-loop-f, else-ok, then-ok}
use Rattle.rival_gains.proofs.least_rates.Goals as goal

pub loop-f-init : goal.loop-f-init
loop-f-init c end L =
    let a = c.args in
    visit_first L a.e (Held a.side.now.m end a.side.now.other.now a.side.now.rank.now a.side.now.plan.now a.side.now.room.now a.e a.b a.d 6 3)
    (held_others a.side.now.m end a.side.now.other.now a.side.now.rank.now a.side.now.plan.now a.side.now.room.now a.e a.b a.d 6 3) c.requires.3
    (held_start a.side.now.m end a.side.now.other.now a.side.now.rank.now a.side.now.plan.now a.side.now.room.now a.e a.b a.d)

-- the other node of an edge is one
node : (c : In-loop-f) → at c.args.side.now.other.now c.loop-f.f < 32
node c = c.requires.1 c.loop-f.f c.loop-f-test.true

-- the next edge of the node is a later one
onward : (c : In-loop-f) → let a = c.args in
    (c.loop-f.f < at a.side.now.links.now.next c.loop-f.f) × (at a.side.now.links.now.next c.loop-f.f ≤ a.side.now.m)
onward c = next_onward c.requires.2.1 c.loop-f.f c.loop-f-test.true

pub loop-f-preserved : goal.loop-f-preserved
loop-f-preserved c end L =
    let a = c.args in
    let f = c.loop-f.f in
    let G = c.loop-f.invariant end L in
    let here = G.here c.loop-f-test.true in
    let is = gainable_here end a.side.now.other.now a.side.now.plan.now a.side.now.room.now a.e f here in
    visit_next L a.e (Held a.side.now.m end a.side.now.other.now a.side.now.rank.now a.side.now.plan.now a.side.now.room.now a.e a.b a.d c.if-ok.all c.if-ok.apart)
    (held_others a.side.now.m end a.side.now.other.now a.side.now.rank.now a.side.now.plan.now a.side.now.room.now a.e a.b a.d c.if-ok.all c.if-ok.apart) f
    c.loop-f-test.true here
    (elim c.if-ok.branch [
      | then-ok w ↦ held_as a.side.now.m end a.side.now.other.now a.side.now.rank.now a.side.now.plan.now a.side.now.room.now a.e a.b a.d (f + 1)
          (w.all-is ∙ w.min-all.ensures ∙ ap (λ p. min p c.loop-f.all) w.rated-p.ensures.0)
          (w.apart-is ∙ w.offered-apart.ensures ∙ ap (λ p. offer (not (eqb (at a.side.now.other.now f) a.d)) p c.loop-f.apart) w.rated-p.ensures.0)
          (held_turn a.side.now.m end a.side.now.other.now a.side.now.rank.now a.side.now.plan.now a.side.now.room.now a.e a.b a.d c.loop-f.all c.loop-f.apart f
          c.loop-f-test.true (is ∙ w.if-ok.true) G.holds)
      | else-ok w ↦ held_as a.side.now.m end a.side.now.other.now a.side.now.rank.now a.side.now.plan.now a.side.now.room.now a.e a.b a.d (f + 1) w.all-is w.apart-is
          (held_past a.side.now.m end a.side.now.other.now a.side.now.rank.now a.side.now.plan.now a.side.now.room.now a.e a.b a.d c.loop-f.all c.loop-f.apart f
          c.loop-f-test.true (is ∙ w.if-ok.false) G.holds)
    ])

pub returns : goal.returns
returns c end L =
    let a = c.args in
    held_end a.side.now.m end a.side.now.other.now a.side.now.rank.now a.side.now.plan.now a.side.now.room.now a.e a.b a.d c.loop-f.all c.loop-f.apart
    c.loop-f.f c.loop-f-test.false (c.loop-f.invariant end L).holds

pub overflow_cast-f : goal.overflow_cast-f
overflow_cast-f c = omega (arith, c.requires.0, head_inside c.requires.2.1 c.args.e c.requires.3)

pub overflow_cast-v : goal.overflow_cast-v
overflow_cast-v c = omega (arith, node (goal.at.overflow_cast-v c).In-loop-f)

pub bounds-side-v : goal.bounds-side-v
bounds-side-v c = omega (arith, node (goal.at.bounds-side-v c).In-loop-f)

pub overflow_cast-f-in-loop-f : goal.overflow_cast-f-in-loop-f
overflow_cast-f-in-loop-f c = omega (arith, c.requires.0, onward (goal.at.overflow_cast-f-in-loop-f c).In-loop-f)

pub loop-f-smaller : goal.loop-f-smaller
loop-f-smaller c = omega (arith, onward (goal.at.loop-f-smaller c).In-loop-f, c.loop-f-test.true)
