-- No sum of the columns below j is below the least.
use Rattle.std.proofs.Common.{sym, subst, ◌+◌, ◌≤◌, zero-le, arith, not-suc-le-zero}
use Rattle.lists.specs.Test.{by-eq}
use Rattle.arrays.specs.ArrayInstance.{at}
use Rattle.rival_levels.proofs.least_end.Goals as goal

pub loop-j-init : goal.loop-j-init
loop-j-init c = (zero-le, λ e h. absurd (not-suc-le-zero h))

pub loop-j-preserved : goal.loop-j-preserved
loop-j-preserved c =
    let a = c.args in (
      omega arith,
      λ e h. by-eq e c.loop-j.j
          (λ q s. subst (λ z. c.min-v.result ≤ at a.d.now (a.b + z) + at a.terminals.now (a.b + z)) (sym q) (omega (arith, c.min-v.ensures)))
          (λ n s. omega (arith, c.min-v.ensures, c.loop-j.invariant.1 e (omega arith))),
    )

pub returns : goal.returns
returns c = λ j h. c.loop-j.invariant.1 j (omega arith)
