-- The best of the starts from f on and of what is held is the best of all; f is an edge of the surveyor of x.
use Rattle.std.proofs.Common.{sym, ap, ap₂, ◌∙◌, List, Bool, ℕ, ◌+◌, ◌<◌, arith}
use Rattle.theory_verdict.specs.Ends.{Way}
use Rattle.arrays.specs.ArrayInstance.{at}
use Rattle.rival_tables.specs.Visits.{Passed, next_onward, visit_first, visit_next}
use Rattle.rival_gains.specs.Gains.{gainable_here, gainable_other}
use Rattle.rival_exchange.specs.declared.Ends.{Ends}
use Rattle.rival_exchange.specs.Ways.{told, way_gain, way_lose, begun_lost, begun_gain, round, terminal_rest, terminal_start, terminal_end, terminal_turn, terminal_past}
use Rattle.rival_exchange.proofs.terminal.Invariants.{Held}
use Rattle.rival_exchange.proofs.terminal.Goals.{else-plan-f, then-plan-f}
use Rattle.rival_exchange.proofs.terminal.Goals as goal

others : (m : ℕ) (sv st rs rt : List ℕ) (x y : ℕ) (plan fs ft : List Bool) (held : ℕ × (Way × Way))
    → Passed m sv (at sv x) (Held m sv st rs rt x y plan fs ft held)
others m sv st rs rt x y plan fs ft held d l n h =
    sym (terminal_past m sv st rs rt x y plan fs ft held d l (gainable_other sv st plan ft (at sv x) d n)) ∙ h

pub round-o-requires : goal.round-o-requires
round-o-requires c =
    let a = c.args in (
      c.requires.0,
      c.requires.1,
      c.requires.2,
      c.requires.4,
      c.requires.5,
      c.requires.6,
      omega arith,
      (a.g.now.rank_s, begun_lost a.g.now.m a.g.now.sv a.g.now.st a.g.now.rank_s a.g.now.rank_t a.x a.y),
    )

pub loop-f-init : goal.loop-f-init
loop-f-init c =
    let a = c.args in
    let o = told a.g.now.m c.round-o.result in
    visit_first c.requires.3 (at a.g.now.sv a.x) (Held a.g.now.m a.g.now.sv a.g.now.st a.g.now.rank_s a.g.now.rank_t a.x a.y a.plan.now
    a.room.now.s a.room.now.t o) (others a.g.now.m a.g.now.sv a.g.now.st a.g.now.rank_s a.g.now.rank_t a.x a.y a.plan.now a.room.now.s
    a.room.now.t o) (c.requires.1 a.x c.requires.5)
    (ap (λ o. terminal_rest a.g.now.m a.g.now.sv a.g.now.st a.g.now.rank_s a.g.now.rank_t a.x a.y a.plan.now a.room.now.s a.room.now.t o 0)
    (c.round-o.ensures a.g.now.rank_s (begun_lost a.g.now.m a.g.now.sv a.g.now.st a.g.now.rank_s a.g.now.rank_t a.x a.y) ∙ ap₂
    (λ u w. round a.g.now.m a.g.now.sv a.g.now.st a.g.now.rank_s a.g.now.rank_t a.x a.y a.plan.now a.room.now.s u (6, (w, w))) (way_lose a.g.now.m)
    (way_lose a.g.now.m))
    ∙ terminal_start a.g.now.m a.g.now.sv a.g.now.st a.g.now.rank_s a.g.now.rank_t a.x a.y a.plan.now a.room.now.s a.room.now.t)

pub round-next-requires : goal.round-next-requires
round-next-requires c =
    let a = c.args in
    let h : c.loop-f.f < a.g.now.m = c.loop-f-test.true in (
      c.requires.0,
      c.requires.1,
      c.requires.2,
      c.requires.4,
      c.requires.5,
      c.requires.6,
      omega (arith, c.rated-a.ensures.1),
      (
        a.g.now.rank_s,
        begun_gain a.g.now.m a.g.now.sv a.g.now.st a.g.now.rank_s a.g.now.rank_t a.x a.y c.loop-f.f c.rated-a.result h
            c.rated-a.ensures.0,
      ),
    )

pub loop-f-preserved : goal.loop-f-preserved
loop-f-preserved c =
    let a = c.args in
    let f = c.loop-f.f in
    let h : f < a.g.now.m = c.loop-f-test.true in
    let v = at a.g.now.sv a.x in
    let here = c.loop-f.invariant.here h in
    let o : Ends = c.if-plan-f.o in
    let held = told a.g.now.m c.loop-f.o in
    let is = gainable_here a.g.now.sv a.g.now.st a.plan.now a.room.now.t v f here in
    visit_next c.requires.3 v
    (Held a.g.now.m a.g.now.sv a.g.now.st a.g.now.rank_s a.g.now.rank_t a.x a.y a.plan.now a.room.now.s a.room.now.t (told a.g.now.m o))
    (others a.g.now.m a.g.now.sv a.g.now.st a.g.now.rank_s a.g.now.rank_t a.x a.y a.plan.now a.room.now.s a.room.now.t
    (told a.g.now.m o)) f h here
    (elim c.if-plan-f.branch [
      | then-plan-f w ↦ ap (λ o. terminal_rest a.g.now.m a.g.now.sv a.g.now.st a.g.now.rank_s a.g.now.rank_t a.x a.y a.plan.now a.room.now.s a.room.now.t
          (told a.g.now.m o) (f + 1)) w.o-is
          ∙ ap (λ o. terminal_rest a.g.now.m a.g.now.sv a.g.now.st a.g.now.rank_s a.g.now.rank_t a.x a.y a.plan.now a.room.now.s a.room.now.t o
          (f + 1)) (w.round-next.ensures a.g.now.rank_s (begun_gain a.g.now.m a.g.now.sv a.g.now.st a.g.now.rank_s a.g.now.rank_t a.x a.y f w.rated-a.result h
          w.rated-a.ensures.0) ∙ ap
          (λ u. round a.g.now.m a.g.now.sv a.g.now.st a.g.now.rank_s a.g.now.rank_t a.x a.y a.plan.now a.room.now.s u held) (way_gain a.g.now.m f h))
          ∙ sym (terminal_turn a.g.now.m a.g.now.sv a.g.now.st a.g.now.rank_s a.g.now.rank_t a.x a.y a.plan.now a.room.now.s a.room.now.t held f h
          (is ∙ w.if-plan-f.true))
          ∙ c.loop-f.invariant.holds
      | else-plan-f w ↦ ap (λ o. terminal_rest a.g.now.m a.g.now.sv a.g.now.st a.g.now.rank_s a.g.now.rank_t a.x a.y a.plan.now a.room.now.s a.room.now.t
          (told a.g.now.m o) (f + 1)) w.o-is
          ∙ sym (terminal_past a.g.now.m a.g.now.sv a.g.now.st a.g.now.rank_s a.g.now.rank_t a.x a.y a.plan.now a.room.now.s a.room.now.t held f h
          (is ∙ w.if-plan-f.false))
          ∙ c.loop-f.invariant.holds
    ])

pub returns : goal.returns
returns c =
    let a = c.args in
    sym (terminal_end a.g.now.m a.g.now.sv a.g.now.st a.g.now.rank_s a.g.now.rank_t a.x a.y a.plan.now a.room.now.s a.room.now.t
    (told a.g.now.m c.loop-f.o) c.loop-f.f (omega arith)) ∙ c.loop-f.invariant.holds

pub loop-f-smaller : goal.loop-f-smaller
loop-f-smaller c =
    omega (arith, next_onward c.requires.3 c.loop-f.f c.loop-f-test.true)
