-- The nodes passed are renewed.
use Rattle.std.proofs.Common.{◌≡◌, subst, ◌∙◌, zero-le, arith, length-set, ◌&&◌}
use Rattle.arrays.specs.ArrayInstance.{at, flag}
use Rattle.reduction_cells.specs.Painted.{among}
use Rattle.lists.specs.Search.{low_is}
use Rattle.reduction_lists.specs.Walks.{at_node}
use Rattle.reduction_nodes.specs.Numbers.{first_of}
use Rattle.reduction_nodes.specs.Renewed.{RenewedBy, Visit, by_none, by_next}
use Rattle.reduction_nodes.proofs.first_renewed.Goals.{In-loop-i}
use Rattle.reduction_nodes.proofs.first_renewed.Goals as goal

pub loop-i-init : goal.loop-i-init
loop-i-init c =
    let a = c.args in
    let p = c.requires in
    (zero-le, p.1, λ sv L. by_none a.turned.now (first_of a.m sv a.fs.now a.ft.now) a.x.now)

-- a turn: its node, and room for the next
node : (c : In-loop-i) → let a = c.args in Visit a.turned.now a.n c.loop-i.i c.loop-i.x
node c =
    let p = c.requires in
    let l = c.loop-i in
    (p.3 l.i c.loop-i-test.true, c.loop-i-test.true, p.2, l.invariant.1)

pub overflow_cast-x : goal.overflow_cast-x
overflow_cast-x c =
    let a = c.args in
    let E = c.requires.0 in
    omega (
      arith,
      E.1.linked.edges,
      c.both.ensures E.0 E.1,
      (low_is (at_node E.0 (at a.turned.now c.loop-i.i) (λ d. flag a.fs.now d && flag a.ft.now d)) a.m).0,
    )

pub loop-i-preserved : goal.loop-i-preserved
loop-i-preserved c =
    let a = c.args in
    let p = c.requires in
    let l = c.loop-i in
    let t = c.loop-i-test.true in
    let v = at a.turned.now l.i in
    let y = c.both in (
      omega (arith, t),
      length-set l.x v y.result ∙ l.invariant.1,
      λ sv L. by_next a.turned.now (first_of a.m sv a.fs.now a.ft.now) a.x.now l.i l.x y.result
          (omega (arith, l.invariant.1, p.3 l.i t)) (y.ensures sv L) (l.invariant.2 sv L),
    )

pub returns : goal.returns
returns c =
    let a = c.args in
    let l = c.loop-i in
    let e : l.i ≡ a.n = omega (arith, l.invariant.0, c.loop-i-test.false) in (
      l.invariant.1,
      λ sv L. subst (λ k. RenewedBy (among a.turned.now k) (first_of a.m sv a.fs.now a.ft.now) a.x.now l.x) e (l.invariant.2 sv L),
    )

pub bounds-turned-i : goal.bounds-turned-i
bounds-turned-i c = omega (arith, node (goal.at.bounds-turned-i c).In-loop-i)

pub overflow_cast-v : goal.overflow_cast-v
overflow_cast-v c = omega (arith, node (goal.at.overflow_cast-v c).In-loop-i)

pub both-requires : goal.both-requires
both-requires c = ((node (goal.at.both-requires c).In-loop-i).0, c.requires.0)

pub offset_bounds-x-v : goal.offset_bounds-x-v
offset_bounds-x-v c = omega (arith, node (goal.at.offset_bounds-x-v c).In-loop-i)

pub bounds-x-v : goal.bounds-x-v
bounds-x-v c = omega (arith, node (goal.at.bounds-x-v c).In-loop-i)
