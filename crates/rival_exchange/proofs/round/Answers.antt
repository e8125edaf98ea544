-- The best of the edges from g on and of what is held is the best of all; g is an edge of the stand of y.
use Rattle.std.proofs.Common.{refl, sym, ap, ap₂, ◌∙◌, List, Bool, not, ◌&&◌, ◌||◌, ltb, eqb, ℕ, ◌+◌, ◌<◌, arith}
use Rattle.theory_verdict.specs.Ends.{Way}
use Rattle.arrays.specs.ArrayInstance.{at}
use Rattle.rival_tables.specs.Visits.{Passed, next_onward, visit_first, visit_next}
use Rattle.rival_gains.specs.Gains.{gainable_here, gainable_other}
use Rattle.rival_exchange.specs.declared.Ends.{Ends}
use Rattle.rival_exchange.specs.Ways.{way_of, told, round_rest, round_begin, round_end, round_turn, round_past, apart_way}
use Rattle.rival_exchange.proofs.round.Invariants.{Held}
use Rattle.rival_exchange.proofs.round.Goals.{else-plan-d, then-plan-d}
use Rattle.rival_exchange.proofs.round.Goals as goal

others : (m : ℕ) (sv st rs rt : List ℕ) (x y : ℕ) (plan fs : List Bool) (s : Way) (held whole : ℕ × (Way × Way))
    → Passed m st (at st y) (Held m sv st rs rt x y plan fs s held whole)
others m sv st rs rt x y plan fs s held whole d l n h =
    round_past m sv st rs rt x y plan fs s held d l (gainable_other st sv plan fs (at st y) d n) ∙ h

pub loop-d-init : goal.loop-d-init
loop-d-init c rs B =
    let a = c.args in
    let w = way_of a.g.now.m a.start in
    let o = told a.g.now.m c.offered-o.result in
    let whole = round_rest a.g.now.m a.g.now.sv a.g.now.st rs a.g.now.rank_t a.x a.y a.plan.now a.room.now.s w o 0 in
    visit_first c.requires.3 (at a.g.now.st a.y) (Held a.g.now.m a.g.now.sv a.g.now.st rs a.g.now.rank_t a.x a.y a.plan.now
    a.room.now.s w o whole) (others a.g.now.m a.g.now.sv a.g.now.st rs a.g.now.rank_t a.x a.y a.plan.now a.room.now.s w o whole)
    (c.requires.2 a.y c.requires.5) refl

pub loop-d-preserved : goal.loop-d-preserved
loop-d-preserved c rs B =
    let a = c.args in
    let g = c.loop-d.d in
    let h : g < a.g.now.m = c.loop-d-test.true in
    let t = at a.g.now.st a.y in
    let G = c.loop-d.invariant rs B in
    let here = G.here h in
    let w = way_of a.g.now.m a.start in
    let o : Ends = c.if-plan-d.o in
    let held = told a.g.now.m c.loop-d.o in
    let whole = round_rest a.g.now.m a.g.now.sv a.g.now.st rs a.g.now.rank_t a.x a.y a.plan.now a.room.now.s w
    (told a.g.now.m c.offered-o.result) 0 in
    let is = gainable_here a.g.now.st a.g.now.sv a.plan.now a.room.now.s t g here in
    visit_next c.requires.3 t
    (Held a.g.now.m a.g.now.sv a.g.now.st rs a.g.now.rank_t a.x a.y a.plan.now a.room.now.s w (told a.g.now.m o) whole)
    (others a.g.now.m a.g.now.sv a.g.now.st rs a.g.now.rank_t a.x a.y a.plan.now a.room.now.s w (told a.g.now.m o) whole) g h here
    (elim c.if-plan-d.branch [
      | then-plan-d u ↦ round_turn a.g.now.m a.g.now.sv a.g.now.st rs a.g.now.rank_t a.x a.y a.plan.now a.room.now.s w held (told a.g.now.m o) g
          (ltb a.start a.g.now.m || not (eqb (at a.g.now.sv g) (at a.g.now.sv a.x)))
          (a.a + u.rated-p.result) h (sym
          (ap₂ ◌&&◌ (is ∙ u.if-plan-d.true)
          (apart_way a.g.now.m a.g.now.sv a.g.now.st rs a.g.now.rank_t a.x a.y a.plan.now a.room.now.s a.start g)))
          (ap₂ (λ p q. p + q) B.0 u.rated-p.ensures.0)
          (ap (told a.g.now.m) u.o-is ∙ u.offered-next.ensures a.g.now.m) ∙ G.holds
      | else-plan-d u ↦ ap (λ o. round_rest a.g.now.m a.g.now.sv a.g.now.st rs a.g.now.rank_t a.x a.y a.plan.now a.room.now.s w (told a.g.now.m o)
          (g + 1)) u.o-is ∙ round_past a.g.now.m a.g.now.sv a.g.now.st rs a.g.now.rank_t a.x a.y a.plan.now a.room.now.s w held g h
          (is ∙ u.if-plan-d.false) ∙ G.holds
    ])

pub returns : goal.returns
returns c rs B =
    let a = c.args in
    let o = c.offered-o in
    sym (round_end a.g.now.m a.g.now.sv a.g.now.st rs a.g.now.rank_t a.x a.y a.plan.now a.room.now.s (way_of a.g.now.m a.start)
    (told a.g.now.m c.loop-d.o) c.loop-d.d (omega arith))
    ∙ (c.loop-d.invariant rs B).holds
    ∙ round_begin a.g.now.m a.g.now.sv a.g.now.st rs a.g.now.rank_t a.x a.y a.plan.now a.room.now.s (way_of a.g.now.m a.start)
    (told a.g.now.m a.held) (told a.g.now.m o.result) a.free a.a B
    (o.ensures a.g.now.m)

pub loop-d-smaller : goal.loop-d-smaller
loop-d-smaller c =
    omega (arith, next_onward c.requires.3 c.loop-d.d c.loop-d-test.true)
