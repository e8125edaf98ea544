-- A walk along a node's list: before the edge at place k nothing passes the test.
use Rattle.std.proofs.Common.{◌<◌, sym, subst, arith, false, true}
use borrow.Author.Rules.{of_calls}
use Rattle.arrays.specs.ArrayInstance.{at}
use Rattle.reduction_lists.specs.Walks.{walk_starts, walk_on, walk_hit, walk_ends, walk_over}
use Rattle.reduction_lists.proofs.first.Goals.{else-loop-k-test, then-loop-k-test+then-m-e}
use Rattle.reduction_lists.proofs.first.Goals as goal

pub loop-k-init : goal.loop-k-init
loop-k-init g c end q L D = walk_starts L c.requires.shelved.0

pub passes-requires : goal.passes-requires
passes-requires g c =
    let e : at c.args.table.now c.loop-k.k < c.args.m = omega arith in
    search (of_calls, c.requires.callable _ e)

pub loop-k-preserved : goal.loop-k-preserved
loop-k-preserved g c end q L D =
    walk_on L c.requires.shelved.0 (omega arith) (c.loop-k.invariant end q L D)
    (sym (D _ false (omega arith) (subst (goal.F-post g c.args.passes _) c.if-passes.false c.passes.ensures)))

pub returns-then-passes : goal.returns-then-passes
returns-then-passes g c end q L D =
    walk_hit (omega arith) (c.loop-k.invariant end q L D)
    (sym (D _ true (omega arith) (subst (goal.F-post g c.args.passes _) c.if-passes.true c.passes.ensures)))

pub returns : goal.returns
returns g c end q L D =
    let W = c.loop-k.invariant end q L D in
    elim c.loop-k-test.branch [
      | else-loop-k-test w ↦ walk_ends (walk_over L c.requires.shelved.0 (omega (arith, w.loop-k-test)) W) W
      | then-loop-k-test+then-m-e w ↦ walk_ends w.if-m-e.true W
    ]
