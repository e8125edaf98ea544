-- `roster::pairs::row_alike` meets its contract: the stands that are left have the answer of all. Assumes nothing.
use Rattle.std.proofs.Common.{arith, le_refl, refl, sym, ◌∙◌}
use Rattle.roster_reading.specs.Pairs.{row_unlike, row_like, row_end}
use Rattle.roster.proofs.pairs.row_alike.Goals as goal

pub loop-j-init : goal.loop-j-init
loop-j-init c = (le_refl _, refl)

pub returns-then-not-three_alike : goal.returns-then-not-three_alike
returns-then-not-three_alike c =
    let a = c.args in
    sym
    (c.loop-j.invariant.1
    ∙ row_unlike a.surveyors.now a.stands.now a.i c.loop-j.j c.loop-j-test.true
    (sym c.three_alike.ensures ∙ c.if-not-three_alike.true))

pub loop-j-preserved : goal.loop-j-preserved
loop-j-preserved c =
    let a = c.args in (
      omega arith,
      c.loop-j.invariant.1
          ∙ row_like a.surveyors.now a.stands.now a.i c.loop-j.j c.loop-j-test.true
          (sym c.three_alike.ensures ∙ c.if-not-three_alike.false),
    )

pub returns : goal.returns
returns c =
    let a = c.args in
    sym (c.loop-j.invariant.1 ∙ row_end a.surveyors.now a.stands.now a.i c.loop-j.j c.loop-j-test.false)

-- where both marks begin is inside the tables
pub three_alike-requires : goal.three_alike-requires
three_alike-requires c = (
  omega (arith, c.loop-j-test.true, c.loop-j.invariant.0, c.requires.0, c.requires.1),
  omega (arith, c.loop-j-test.true, c.loop-j.invariant.0, c.requires.0, c.requires.1),
  c.requires.2,
  c.requires.3,
)
