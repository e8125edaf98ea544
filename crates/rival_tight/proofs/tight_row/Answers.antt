-- The columns below j are written; or no arc from the place is tight.
use Rattle.std.proofs.Common.{refl, sym, ◌∙◌, ℕ, zero-le, arith, not-suc-le-zero, length-set}
use lib.ListN.{get_or-replicate}
use Rattle.arrays.specs.Filled.{made_set}
use Rattle.rival_tight.specs.Tight.{tight_price, tight_not, tight_arc, tight_loose}
use Rattle.rival_tight.proofs.tight_row.Goals.{else-a-k, then-a-k}
use Rattle.rival_tight.proofs.tight_row.Goals as goal

pub returns-then-costs-i : goal.returns-then-costs-i
returns-then-costs-i c =
    let a = c.args in
    λ e h. get_or-replicate 64 e 133 0 h ∙ sym (tight_not a.arcs.now a.costs.now a.k a.i e (omega (arith, c.if-costs-i.true)))

pub loop-j-init : goal.loop-j-init
loop-j-init c = (zero-le, refl, λ e h. absurd (not-suc-le-zero h))

pub loop-j-preserved : goal.loop-j-preserved
loop-j-preserved c =
    let a = c.args in
    let j : ℕ = c.loop-j.j in (
      omega arith,
      simp length-set c.loop-j.invariant.1,
      made_set 0 c.loop-j.o (tight_price a.arcs.now a.costs.now a.k a.i) j c.if-a-k.o (omega arith)
          (elim c.if-a-k.branch [
            | then-a-k w ↦ w.o-is
                ∙ sym (tight_arc a.arcs.now a.costs.now a.k a.i j c.if-costs-i.false (omega (arith, w.if-a-k.true, c.min-back.ensures)))
            | else-a-k w ↦ w.o-is
                ∙ sym (tight_loose a.arcs.now a.costs.now a.k a.i j c.if-costs-i.false (omega (arith, w.if-a-k.false, c.min-back.ensures)))
          ])
          c.loop-j.invariant.2,
    )

pub returns : goal.returns
returns c = λ e h. c.loop-j.invariant.2 e (omega arith)
