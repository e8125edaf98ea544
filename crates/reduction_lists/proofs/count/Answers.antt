-- A walk along a node's list: of the edges before the one at place k, c pass.
use Rattle.std.proofs.Common.{◌<◌, ◌+◌, sym, subst, zero-le, arith}
use borrow.Author.Rules.{of_calls}
use mir.Val.{bool_byte}
use Rattle.arrays.specs.ArrayInstance.{at}
use Rattle.arrays.specs.Tally.{byte_one}
use Rattle.reduction_lists.specs.Walks.{Counted, count_starts, count_on, count_ends, count_over}
use Rattle.reduction_lists.proofs.count.Goals.{else-loop-k-test, then-loop-k-test+then-m-e}
use Rattle.reduction_lists.proofs.count.Goals as goal

pub loop-k-init : goal.loop-k-init
loop-k-init g c = (zero-le, λ end q L D. count_starts L c.requires.shelved.0)

pub passes-requires : goal.passes-requires
passes-requires g c =
    let e : at c.args.table.now c.loop-k.k < c.args.m = omega arith in
    search (of_calls, c.requires.callable _ e)

pub overflow_add-c : goal.overflow_add-c
overflow_add-c g c = omega (arith, c.loop-k.invariant.0, byte_one c.passes.result)

pub loop-k-preserved : goal.loop-k-preserved
loop-k-preserved g c = (
  omega (arith, c.loop-k.invariant.0, byte_one c.passes.result),
  λ end q L D.
      let e : at c.args.table.now c.loop-k.k < c.args.m = omega arith in
      subst (λ b. Counted c.args.m end c.args.table.now c.args.v q (c.loop-k.k + 1) (at c.args.table.now (c.loop-k.k + 1)) (c.loop-k.c + bool_byte b))
      (sym (D _ c.passes.result e c.passes.ensures)) (count_on L c.requires.shelved.0 e (c.loop-k.invariant.1 end q L D)),
)

pub returns : goal.returns
returns g c end q L D =
    let W = c.loop-k.invariant.1 end q L D in
    elim c.loop-k-test.branch [
      | else-loop-k-test w ↦ count_ends (count_over L c.requires.shelved.0 (omega (arith, w.loop-k-test)) W) W
      | then-loop-k-test+then-m-e w ↦ count_ends w.if-m-e.true W
    ]
