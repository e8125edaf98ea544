-- The least by the places from y on and of what is held is the least of all.
use Rattle.std.proofs.Common.{◌≡◌, sym, ◌∙◌, ◌-◌, ◌≤◌, min, zero-le, arith}
use Rattle.rival_tables.specs.Filled.{cell}
use Rattle.rival_walk.specs.Leads.{price_start, price_end, price_turn}
use Rattle.rival_walk.proofs.price.Goals.{After-min-a}
use Rattle.rival_walk.proofs.price.Goals as goal

pub loop-y-init : goal.loop-y-init
loop-y-init c =
    let a = c.args in
    (zero-le, omega (arith, c.min-v.ensures), price_start a.arcs.now a.n (cell a.table.now a.k) a.i c.min-v.ensures)

pub overflow_sub-onward : goal.overflow_sub-onward
overflow_sub-onward c =
    let h : cell c.args.table.now c.args.k c.loop-y.y ≤ 255 = omega (arith, c.requires.3 c.loop-y.y (omega arith)) in
    h

-- the price of the arc, as far as the sum stays below 256
cut : (c : After-min-a) → let l = c in let a = l.args in
    c.min-a.result ≡ min (cell a.arcs.now a.i l.loop-y.y) (255 - cell a.table.now a.k l.loop-y.y)
cut c = c.min-a.ensures

pub overflow_add-a : goal.overflow_add-a
overflow_add-a c =
    omega (arith, cut (goal.at.overflow_add-a c).After-min-a, c.requires.3 c.loop-y.y (omega arith))

pub loop-y-preserved : goal.loop-y-preserved
loop-y-preserved c =
    let a = c.args in (
      omega arith,
      omega (arith, c.min-v-in-loop-y.ensures, c.loop-y.invariant.1),
      price_turn a.arcs.now a.n (cell a.table.now a.k) a.i c.loop-y.v c.min-v-in-loop-y.result c.loop-y.y (omega arith)
          (omega (arith, c.min-v-in-loop-y.ensures, cut (goal.at.loop-y-preserved c).After-min-a, c.loop-y.invariant.1, c.requires.3 c.loop-y.y (omega arith)))
          ∙ c.loop-y.invariant.2,
    )

pub returns : goal.returns
returns c =
    let a = c.args in
    sym (price_end a.arcs.now a.n (cell a.table.now a.k) a.i c.loop-y.v c.loop-y.y (omega arith)) ∙ c.loop-y.invariant.2
