-- `roster::pairs::both_alike` meets its contract: the surveyors that are left have the answer of all. Assumes nothing.
use Rattle.std.proofs.Common.{arith, le_refl, refl, sym, ◌∙◌}
use Rattle.roster_reading.specs.Pairs.{both_unlike, both_like, both_end}
use Rattle.roster.proofs.pairs.both_alike.Goals as goal

pub loop-i-init : goal.loop-i-init
loop-i-init c = (le_refl _, refl)

pub returns-then-not-row_alike : goal.returns-then-not-row_alike
returns-then-not-row_alike c =
    let a = c.args in
    sym
    (c.loop-i.invariant.1
    ∙ both_unlike a.surveyors.now a.stands.now c.loop-i.i a.n c.loop-i-test.true
    (sym c.row_alike.ensures ∙ c.if-not-row_alike.true))

pub loop-i-preserved : goal.loop-i-preserved
loop-i-preserved c =
    let a = c.args in (
      omega arith,
      c.loop-i.invariant.1
          ∙ both_like a.surveyors.now a.stands.now c.loop-i.i a.n c.loop-i-test.true
          (sym c.row_alike.ensures ∙ c.if-not-row_alike.false),
    )

pub returns : goal.returns
returns c =
    let a = c.args in
    sym (c.loop-i.invariant.1 ∙ both_end a.surveyors.now a.stands.now c.loop-i.i a.n c.loop-i-test.false)
