-- For each column, the best of the edges from f on and of what the row holds is the best of all; f is an edge of node e.
use Rattle.std.proofs.Common.{sym, ap, ◌∙◌, Bool, not, List, ℕ, ◌+◌, ◌<◌, arith, length, replicate, eqb}
use lib.ListN.{length-replicate, get_or-replicate}
use Rattle.arrays.specs.ArrayInstance.{at}
use Rattle.rival_tables.specs.Cheapest.{offer}
use Rattle.rival_tables.specs.Visits.{Passed, head_inside, next_onward, visit_first, visit_next}
use Rattle.rival_gains.specs.Gains.{gainable_other, gainable_here, gain_rest_but, but_start, but_end, but_past, but_turn}
use Rattle.rival_gains.proofs.apart_row.Invariants.{Held}
use Rattle.rival_gains.proofs.apart_row.Goals.{else-side-f, then-side-f}
use Rattle.rival_gains.proofs.apart_row.Goals as goal

others : (m : ℕ) (end other rank : List ℕ) (plan room : List Bool) (po : List ℕ) (e b : ℕ) (o : List ℕ)
    → Passed m end e (Held m end other rank plan room po e b o)
others m end other rank plan room po e b o d l n h j k =
    sym (but_past m end other rank plan room e b (at po j) (at o j) d l (gainable_other end other plan room e d n)) ∙ h j k

pub loop-f-init : goal.loop-f-init
loop-f-init c =
    let a = c.args in
    let row : List ℕ = replicate 64 3 in (
      length-replicate {A = ℕ} 64 3,
      λ end L. visit_first L a.e
          (Held a.side.now.m end a.side.now.other.now a.side.now.rank.now a.side.now.plan.now a.side.now.room.now a.po.now a.e a.b row)
          (others a.side.now.m end a.side.now.other.now a.side.now.rank.now a.side.now.plan.now a.side.now.room.now a.po.now a.e a.b row) c.requires.3
          (λ j h. ap (λ v. gain_rest_but a.side.now.m end a.side.now.other.now a.side.now.rank.now a.side.now.plan.now a.side.now.room.now a.e a.b
          (at a.po.now j) v 0) (get_or-replicate 64 j 3 0 h)
          ∙ but_start a.side.now.m end a.side.now.other.now a.side.now.rank.now a.side.now.plan.now a.side.now.room.now a.e a.b (at a.po.now j) 3),
    )

pub overflow_cast-v : goal.overflow_cast-v
overflow_cast-v c = omega (arith, c.requires.1 c.loop-f.f (omega arith))

pub bounds-side-v : goal.bounds-side-v
bounds-side-v c = omega (arith, c.requires.1 c.loop-f.f (omega arith))

pub parted-requires : goal.parted-requires
parted-requires c = c.loop-f.invariant.0

pub loop-f-preserved : goal.loop-f-preserved
loop-f-preserved c =
    let a = c.args in
    let f = c.loop-f.f in
    let k : f < a.side.now.m = c.loop-f-test.true in
    let o : List ℕ = c.if-side-f.o in (
      elim c.if-side-f.branch [
        | then-side-f w ↦ ap length w.o-is ∙ w.parted.ensures.0
        | else-side-f w ↦ ap length w.o-is ∙ c.loop-f.invariant.0
      ],
      λ end L.
          let G = c.loop-f.invariant.1 end L in
          let here = G.here k in
          let is = gainable_here end a.side.now.other.now a.side.now.plan.now a.side.now.room.now a.e f here in
          visit_next L a.e
          (Held a.side.now.m end a.side.now.other.now a.side.now.rank.now a.side.now.plan.now a.side.now.room.now a.po.now a.e a.b o)
          (others a.side.now.m end a.side.now.other.now a.side.now.rank.now a.side.now.plan.now a.side.now.room.now a.po.now a.e a.b o) f k here
          (λ j h. elim c.if-side-f.branch [
            | then-side-f w ↦ ap (λ v. gain_rest_but a.side.now.m end a.side.now.other.now a.side.now.rank.now a.side.now.plan.now a.side.now.room.now a.e a.b (at a.po.now j) v
                (f + 1))
                (ap (λ z. at z j) w.o-is ∙ w.parted.ensures.1 j h
                ∙ ap (λ p. offer (not (eqb (at a.side.now.other.now f) (at a.po.now j))) p (at c.loop-f.o j)) w.rated-p.ensures.0)
                ∙ sym (but_turn a.side.now.m end a.side.now.other.now a.side.now.rank.now a.side.now.plan.now a.side.now.room.now a.e a.b (at a.po.now j)
                (at c.loop-f.o j) f k (is ∙ w.if-side-f.true)) ∙ G.holds j h
            | else-side-f w ↦ ap (λ z. gain_rest_but a.side.now.m end a.side.now.other.now a.side.now.rank.now a.side.now.plan.now a.side.now.room.now a.e a.b (at a.po.now j)
                (at z j) (f + 1)) w.o-is
                ∙ sym (but_past a.side.now.m end a.side.now.other.now a.side.now.rank.now a.side.now.plan.now a.side.now.room.now a.e a.b (at a.po.now j)
                (at c.loop-f.o j) f k (is ∙ w.if-side-f.false)) ∙ G.holds j h
          ]),
    )

pub returns : goal.returns
returns c =
    let a = c.args in
    λ end L j h. sym (but_end a.side.now.m end a.side.now.other.now a.side.now.rank.now a.side.now.plan.now a.side.now.room.now a.e a.b (at a.po.now j)
    (at c.loop-f.o j) c.loop-f.f (omega arith)) ∙ (c.loop-f.invariant.1 end L).holds j h

pub overflow_cast-f : goal.overflow_cast-f
overflow_cast-f c = omega (arith, c.requires.0, head_inside c.requires.2.1 c.args.e c.requires.3)

pub overflow_cast-f-in-loop-f : goal.overflow_cast-f-in-loop-f
overflow_cast-f-in-loop-f c =
    omega (arith, c.requires.0, next_onward c.requires.2.1 c.loop-f.f (omega arith))

pub loop-f-smaller : goal.loop-f-smaller
loop-f-smaller c =
    omega (arith, next_onward c.requires.2.1 c.loop-f.f (omega arith))
