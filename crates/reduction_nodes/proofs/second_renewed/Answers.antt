-- The nodes passed are renewed.
use Rattle.std.proofs.Common.{◌≡◌, subst, ◌∙◌, zero-le, arith, length-set}
use Rattle.arrays.specs.ArrayInstance.{at}
use Rattle.reduction_cells.specs.Painted.{among}
use Rattle.reduction_nodes.specs.Numbers.{seconds_of}
use Rattle.reduction_nodes.specs.Renewed.{RenewedBy, Visit, by_none, by_next}
use Rattle.reduction_nodes.proofs.second_renewed.Goals.{In-loop-i}
use Rattle.reduction_nodes.proofs.second_renewed.Goals as goal

pub loop-i-init : goal.loop-i-init
loop-i-init c =
    let a = c.args in
    let p = c.requires in (
      zero-le,
      p.2,
      λ end L. by_none a.turned.now (seconds_of a.m end a.rank.now a.table.now a.rem.now a.f.now a.q.now)
          a.x.now,
    )

-- a turn: its node, and room for the next
node : (c : In-loop-i) → let a = c.args in Visit a.turned.now a.n c.loop-i.i c.loop-i.x
node c =
    let p = c.requires in
    let l = c.loop-i in
    (p.4 l.i c.loop-i-test.true, c.loop-i-test.true, p.3, l.invariant.1)

pub loop-i-preserved : goal.loop-i-preserved
loop-i-preserved c =
    let a = c.args in
    let p = c.requires in
    let l = c.loop-i in
    let t = c.loop-i-test.true in
    let v = at a.turned.now l.i in
    let y = c.second in (
      omega (arith, t),
      length-set l.x v y.result ∙ l.invariant.1,
      λ end L. by_next a.turned.now (seconds_of a.m end a.rank.now a.table.now a.rem.now a.f.now a.q.now) a.x.now l.i
          l.x y.result (omega (arith, l.invariant.1, p.4 l.i t)) (y.ensures end L) (l.invariant.2 end L),
    )

pub returns : goal.returns
returns c =
    let a = c.args in
    let l = c.loop-i in
    let e : l.i ≡ a.n = omega (arith, l.invariant.0, c.loop-i-test.false) in (
      l.invariant.1,
      λ end L. subst (λ k. RenewedBy (among a.turned.now k)
          (seconds_of a.m end a.rank.now a.table.now a.rem.now a.f.now a.q.now) a.x.now l.x) e (l.invariant.2 end L),
    )

pub bounds-turned-i : goal.bounds-turned-i
bounds-turned-i c = omega (arith, node (goal.at.bounds-turned-i c).In-loop-i)

pub overflow_cast-v : goal.overflow_cast-v
overflow_cast-v c = omega (arith, node (goal.at.overflow_cast-v c).In-loop-i)

pub offset_bounds-q-v : goal.offset_bounds-q-v
offset_bounds-q-v c = omega (arith, node (goal.at.offset_bounds-q-v c).In-loop-i)

pub bounds-q-v : goal.bounds-q-v
bounds-q-v c = omega (arith, node (goal.at.bounds-q-v c).In-loop-i)

pub second-requires : goal.second-requires
second-requires c = let p = c.requires in ((node (goal.at.second-requires c).In-loop-i).0, p.0, p.1)

pub offset_bounds-x-v : goal.offset_bounds-x-v
offset_bounds-x-v c = omega (arith, node (goal.at.offset_bounds-x-v c).In-loop-i)

pub bounds-x-v : goal.bounds-x-v
bounds-x-v c = omega (arith, node (goal.at.bounds-x-v c).In-loop-i)
