-- The best of the edges from f on and of what is held is the best of all; f is an edge of the stand of x.
use Rattle.std.proofs.Common.{◌≡◌, refl, sym, ap, ap₂, ◌∙◌, List, Bool, true, false, ◌&&◌, ℕ, ◌+◌, ◌<◌, arith, ltb}
use Rattle.arrays.specs.ArrayInstance.{at}
use Rattle.rival_tables.specs.Visits.{Passed, next_onward, visit_first, visit_next}
use Rattle.rival_walk.specs.Edges.{edge_price, edge_rest, joins_other, joins_here, edge_start, edge_end, edge_turn}
use Rattle.rival_walk.proofs.arc_edge.Invariants.{Held}
use Rattle.rival_walk.proofs.arc_edge.Goals.{else-plan-f, then-plan-f}
use Rattle.rival_walk.proofs.arc_edge.Goals as goal

others : (m : ℕ) (sv st rs rt : List ℕ) (plan : List Bool) (x z v o : ℕ) → Passed m st (at st x) (Held m sv st rs rt plan x z v o)
others m sv st rs rt plan x z v o d l n h =
    ap (λ r. r.1)
    (sym
    (edge_turn m sv st rs rt plan x z false v o d (edge_price m sv st rs rt plan x z d) l refl
    (ap (λ b. b && ltb (edge_price m sv st rs rt plan x z d) v) (joins_other m sv st rs rt plan x z d n))))
    ∙ h

pub loop-f-init : goal.loop-f-init
loop-f-init c =
    let a = c.args in (
      omega arith,
      visit_first c.requires.4 (at a.g.now.st a.x) (Held a.g.now.m a.g.now.sv a.g.now.st a.g.now.rank_s a.g.now.rank_t a.plan.now a.x a.z 133 0)
          (others a.g.now.m a.g.now.sv a.g.now.st a.g.now.rank_s a.g.now.rank_t a.plan.now a.x a.z 133 0)
          (c.requires.3 a.x c.requires.1) (edge_start a.g.now.m a.g.now.sv a.g.now.st a.g.now.rank_s a.g.now.rank_t a.plan.now a.x a.z),
    )

pub loop-f-preserved : goal.loop-f-preserved
loop-f-preserved c =
    let a = c.args in
    let f = c.loop-f.f in
    let k : f < a.g.now.m = c.loop-f-test.true in
    let here = c.loop-f.invariant.1.here k in
    let p = c.rated-p.result + c.rated-q.result in
    let e : p ≡ edge_price a.g.now.m a.g.now.sv a.g.now.st a.g.now.rank_s a.g.now.rank_t a.plan.now a.x a.z f = ap₂ (λ u w. u + w)
    c.rated-p.ensures.0 c.rated-q.ensures.0 in
    let v : ℕ = c.if-plan-f.v in
    let o : ℕ = c.if-plan-f.o in
    let is = ap (λ b. b && ltb p c.loop-f.v) (joins_here a.g.now.m a.g.now.sv a.g.now.st a.g.now.rank_s a.g.now.rank_t a.plan.now a.x a.z f here) in (
      elim c.if-plan-f.branch [
        | then-plan-f w ↦ omega (arith, w.o-is, k, c.requires.0)
        | else-plan-f w ↦ omega (arith, w.o-is, c.loop-f.invariant.0)
      ],
      visit_next c.requires.4 (at a.g.now.st a.x)
          (Held a.g.now.m a.g.now.sv a.g.now.st a.g.now.rank_s a.g.now.rank_t a.plan.now a.x a.z v o)
          (others a.g.now.m a.g.now.sv a.g.now.st a.g.now.rank_s a.g.now.rank_t a.plan.now a.x a.z v o) f k here
          (elim c.if-plan-f.branch [
            | then-plan-f w ↦ ap₂ (λ v o. (edge_rest a.g.now.m a.g.now.sv a.g.now.st a.g.now.rank_s a.g.now.rank_t a.plan.now a.x a.z (v, o) (f + 1)).1) w.v-is w.o-is
                ∙ ap (λ r. r.1) (sym (edge_turn a.g.now.m a.g.now.sv a.g.now.st a.g.now.rank_s a.g.now.rank_t a.plan.now a.x a.z true c.loop-f.v
                c.loop-f.o f p k e (is ∙ w.if-plan-f.true)))
                ∙ c.loop-f.invariant.1.holds
            | else-plan-f w ↦ ap₂ (λ v o. (edge_rest a.g.now.m a.g.now.sv a.g.now.st a.g.now.rank_s a.g.now.rank_t a.plan.now a.x a.z (v, o) (f + 1)).1) w.v-is w.o-is
                ∙ ap (λ r. r.1) (sym (edge_turn a.g.now.m a.g.now.sv a.g.now.st a.g.now.rank_s a.g.now.rank_t a.plan.now a.x a.z false c.loop-f.v
                c.loop-f.o f p k e (is ∙ w.if-plan-f.false)))
                ∙ c.loop-f.invariant.1.holds
          ]),
    )

pub returns : goal.returns
returns c =
    let a = c.args in (
      ap (λ r. r.1) (sym (edge_end a.g.now.m a.g.now.sv a.g.now.st a.g.now.rank_s a.g.now.rank_t a.plan.now a.x a.z (c.loop-f.v, c.loop-f.o)
          c.loop-f.f (omega arith))) ∙ c.loop-f.invariant.1.holds,
      c.loop-f.invariant.0,
    )

pub loop-f-smaller : goal.loop-f-smaller
loop-f-smaller c =
    omega (arith, next_onward c.requires.4 c.loop-f.f c.loop-f-test.true)
