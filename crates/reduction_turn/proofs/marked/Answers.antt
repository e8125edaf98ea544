-- The nodes passed are marked.
use Rattle.std.proofs.Common.{◌≡◌, subst, zero-le, arith, length-set}
use Rattle.reduction_cells.specs.Painted.{among}
use Rattle.reduction_nodes.specs.Renewed.{Visit}
use Rattle.reduction_turn.specs.Onward.{Marked, marked_none, marked_next}
use Rattle.reduction_turn.proofs.marked.Goals.{In-loop-i}
use Rattle.reduction_turn.proofs.marked.Goals as goal

-- a turn: its node, and room for the next
node : (c : In-loop-i) → let a = c.args in Visit a.turned.now a.n c.loop-i.i c.loop-i.old
node c = let p = c.requires in let l = c.loop-i in (p.1 l.i c.loop-i-test.true, c.loop-i-test.true, p.0, l.invariant.1)

pub loop-i-preserved : goal.loop-i-preserved
loop-i-preserved c = let a = c.args in let l = c.loop-i in (
  omega (arith, node (goal.at.loop-i-preserved c).In-loop-i),
  simp length-set l.invariant.1,
  marked_next a.turned.now a.old.now l.old l.i (omega (arith, node (goal.at.loop-i-preserved c).In-loop-i)) l.invariant.2,
)

pub returns : goal.returns
returns c =
    let a = c.args in
    let l = c.loop-i in
    let e : l.i ≡ a.n = omega (arith, l.invariant.0, c.loop-i-test.false) in
    (l.invariant.1, subst (λ k. Marked (among a.turned.now k) a.old.now l.old) e l.invariant.2)

pub loop-i-init : goal.loop-i-init
loop-i-init c = (zero-le, c.requires.2, marked_none c.args.turned.now c.args.old.now)

pub bounds-turned-i : goal.bounds-turned-i
bounds-turned-i c = omega (arith, node (goal.at.bounds-turned-i c).In-loop-i)

pub overflow_cast-v : goal.overflow_cast-v
overflow_cast-v c = omega (arith, node (goal.at.overflow_cast-v c).In-loop-i)

pub bounds-old-v : goal.bounds-old-v
bounds-old-v c = omega (arith, node (goal.at.bounds-old-v c).In-loop-i)
