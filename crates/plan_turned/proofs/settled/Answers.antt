-- `plan_turned::settled` meets its contract: another shift is 19, and else the pairs are copied. Assumes nothing.
use Rattle.std.proofs.Common.{sym, ◌∙◌}
use Rattle.plan_turned.specs.Pairs.{pairs_not, pairs_wrote}
use Rattle.plan_turned.proofs.settled.Goals as goal

pub returns : goal.returns
returns c =
    let a = c.args in
    pairs_wrote a.shifts a.file.now a.n a.out.now
    (sym c.only_first.ensures ∙ c.if-not-only_first.false) c.copy_pairs.ensures.0 c.copy_pairs.ensures.1

pub returns-then-not-only_first : goal.returns-then-not-only_first
returns-then-not-only_first c =
    let a = c.args in
    pairs_not a.shifts a.file.now a.n a.out.now
    (sym c.only_first.ensures ∙ c.if-not-only_first.true)
