-- The edges that the stands passed keep are marked.
use Rattle.std.proofs.Common.{arith, ◌∙◌, true, false, length-set}
use lib.ListN.{length-replicate}
use Rattle.model.specs.Limits.{entry_limit}
use Rattle.arrays.specs.ArrayInstance.{at}
use Rattle.offers.specs.KeptEdges.{marked_none, marked_passed, marked_next, marked_all}
use Rattle.offers.proofs.kept_edges.Goals as goal

pub loop-k-init : goal.loop-k-init
loop-k-init c = let a = c.args in (omega arith, length-replicate entry_limit false, marked_none a.m a.st.now a.kept.now)

pub bounds-plan-e : goal.bounds-plan-e
bounds-plan-e c = omega (arith, c.requires.0)

pub loop-k-preserved : goal.loop-k-preserved
loop-k-preserved c =
    let l = c.loop-k in (
      omega arith,
      length-set l.plan (at c.args.kept.now l.k-index) true ∙ l.invariant.1,
      marked_next c.args.m c.args.st.now c.args.kept.now l.plan l.k-index l.invariant.2 c.requires.3 (omega arith) (omega arith)
          (omega (arith, c.requires.0, l.invariant.1)),
    )

pub loop-k-preserved-then-m-e : goal.loop-k-preserved-then-m-e
loop-k-preserved-then-m-e c =
    let l = c.loop-k in (
      omega arith,
      l.invariant.1,
      marked_passed c.args.m c.args.st.now c.args.kept.now l.plan l.k-index l.invariant.2 (omega arith),
    )

pub returns : goal.returns
returns c =
    let l = c.loop-k in
    marked_all c.args.m c.args.st.now c.args.kept.now c.requires.1 l.plan l.k-index (omega arith) l.invariant.2
