-- For each column, the best of the edges from f on and of what the row holds is the best of all; f is an edge of stand t.
use Rattle.std.proofs.Common.{sym, ap, ◌∙◌, List, Bool, ℕ, ◌+◌, arith, length, replicate, eqb, not}
use lib.ListN.{length-replicate, get_or-replicate}
use Rattle.arrays.specs.ArrayInstance.{at}
use Rattle.rival_tables.specs.Cheapest.{offer}
use Rattle.rival_tables.specs.Visits.{Passed, next_onward, visit_first, visit_next}
use Rattle.theory_votes.specs.Score.{rate}
use Rattle.rival_arcs.specs.Arcs.{arc_rest, arc_start, arc_end, arc_other, arc_past, arc_turn}
use Rattle.rival_arcs.proofs.arc_row.Invariants.{Held}
use Rattle.rival_arcs.proofs.arc_row.Goals.{else-not-plan-f, then-not-plan-f}
use Rattle.rival_arcs.proofs.arc_row.Goals as goal

-- it holds the same behind an edge of another stand
others : (m : ℕ) (sv st rs rt : List ℕ) (plan : List Bool) (ps rps : List ℕ) (t b : ℕ) (o : List ℕ) → Passed m st t (Held m sv st rs rt plan ps rps t b o)
others m sv st rs rt plan ps rps t b o d l n h j k = sym (arc_other m sv st rs rt plan t b (at ps j) (at rps j) (at o j) d l n) ∙ h j k

pub loop-f-init : goal.loop-f-init
loop-f-init c =
    let a = c.args in
    let row : List ℕ = replicate 64 133 in (
      length-replicate {A = ℕ} 64 133,
      λ st ps L P. visit_first L a.t (Held a.g.now.m a.g.now.sv st a.g.now.rank_s a.g.now.rank_t a.plan.now ps a.rps.now a.t a.b row)
          (others a.g.now.m a.g.now.sv st a.g.now.rank_s a.g.now.rank_t a.plan.now ps a.rps.now a.t a.b row) c.requires.4
          (λ j h. ap (λ v. arc_rest a.g.now.m a.g.now.sv st a.g.now.rank_s a.g.now.rank_t a.plan.now a.t a.b (at ps j) (at a.rps.now j) v 0)
          (get_or-replicate 64 j 133 0 h)
          ∙ arc_start a.g.now.m a.g.now.sv st a.g.now.rank_s a.g.now.rank_t a.plan.now a.t a.b (at ps j) (at a.rps.now j)),
    )

pub joined-requires : goal.joined-requires
joined-requires c =
    (c.loop-f.invariant.0, c.requires.3, c.requires.1 c.loop-f.f (omega arith), omega arith)

pub loop-f-preserved : goal.loop-f-preserved
loop-f-preserved c =
    let a = c.args in
    let f = c.loop-f.f in
    let o : List ℕ = c.if-not-plan-f.o in (
      elim c.if-not-plan-f.branch [
        | then-not-plan-f w ↦ ap length w.o-is ∙ w.joined.ensures.0
        | else-not-plan-f w ↦ ap length w.o-is ∙ c.loop-f.invariant.0
      ],
      λ st ps L P.
          let G = c.loop-f.invariant.1 st ps L P in
          let here = G.here (omega arith) in
          visit_next L a.t (Held a.g.now.m a.g.now.sv st a.g.now.rank_s a.g.now.rank_t a.plan.now ps a.rps.now a.t a.b o)
          (others a.g.now.m a.g.now.sv st a.g.now.rank_s a.g.now.rank_t a.plan.now ps a.rps.now a.t a.b o) f (omega arith) here
          (λ j h. elim c.if-not-plan-f.branch [
            | then-not-plan-f w ↦ ap (λ v. arc_rest a.g.now.m a.g.now.sv st a.g.now.rank_s a.g.now.rank_t a.plan.now a.t a.b (at ps j) (at a.rps.now j) v (f + 1))
                (ap (λ z. at z j) w.o-is ∙ w.joined.ensures.1 ps P j h
                ∙ ap (λ p. offer (eqb (at a.g.now.sv f) (at ps j)) (p + rate (at a.rps.now j) (at a.g.now.rank_s f)) (at c.loop-f.o j)) w.rated-a.ensures.0)
                ∙ sym
                (arc_turn a.g.now.m a.g.now.sv st a.g.now.rank_s a.g.now.rank_t a.plan.now a.t a.b (at ps j) (at a.rps.now j) (at c.loop-f.o j) f
                (omega arith) (ap not w.if-not-plan-f.true) here)
                ∙ G.holds j h
            | else-not-plan-f w ↦ ap (λ z. arc_rest a.g.now.m a.g.now.sv st a.g.now.rank_s a.g.now.rank_t a.plan.now a.t a.b (at ps j) (at a.rps.now j) (at z j)
                (f + 1)) w.o-is
                ∙ sym
                (arc_past a.g.now.m a.g.now.sv st a.g.now.rank_s a.g.now.rank_t a.plan.now a.t a.b (at ps j) (at a.rps.now j) (at c.loop-f.o j) f
                (omega arith) (ap not w.if-not-plan-f.false))
                ∙ G.holds j h
          ]),
    )

pub returns : goal.returns
returns c =
    let a = c.args in
    λ st ps L P j h. sym
    (arc_end a.g.now.m a.g.now.sv st a.g.now.rank_s a.g.now.rank_t a.plan.now a.t a.b (at ps j) (at a.rps.now j) (at c.loop-f.o j) c.loop-f.f
    (omega arith))
    ∙ (c.loop-f.invariant.1 st ps L P).holds j h

pub loop-f-smaller : goal.loop-f-smaller
loop-f-smaller c =
    omega (arith, next_onward c.requires.2.1 c.loop-f.f (omega arith))
