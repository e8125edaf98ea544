-- For each column, the best by the places from y on and of what the row holds is the best of all.
use Rattle.std.proofs.Common.{sym, subst, ◌+◌, arith, rules}
use Rattle.rival_levels.specs.Layers.{Lowered, lowered_start, lowered_turn, lowered_past, lowered_end}
use Rattle.rival_tight.specs.Nexts.{lowered_to}
use Rattle.rival_tight.proofs.sparse_row.Goals.{else-a-lt133, then-a-lt133}
use Rattle.rival_tight.proofs.sparse_row.Goals as goal

pub kept_row-o-requires : goal.kept_row-o-requires
kept_row-o-requires c = (omega arith, λ j h. c.requires.2 c.args.i j (omega arith) h)

pub lower-requires : goal.lower-requires
lower-requires c =
    let y = c.loop-y.y in
    (c.loop-y.invariant.whole, omega arith, (λ j h. c.requires.2 y j (omega arith) h), c.requires.3 c.args.i y (omega arith) (omega arith) c.if-a-lt133.true)

pub loop-y-preserved : goal.loop-y-preserved
loop-y-preserved c =
    let a = c.args in
    let G = c.loop-y.invariant in
    lowered_to a.nexts.now (elim c.if-a-lt133.branch [
      | then-a-lt133 w ↦ subst (λ o. Lowered a.arcs.now a.d.now a.n a.i o (c.loop-y.y + 1)) (sym w.o-is) (lowered_turn G _ (omega arith) w.lower.ensures)
      | else-a-lt133 w ↦ subst (λ o. Lowered a.arcs.now a.d.now a.n a.i o (c.loop-y.y + 1)) (sym w.o-is) (lowered_past G (omega arith) w.if-a-lt133.false)
    ])
    (c.requires.4 a.i c.loop-y.y (omega arith) (omega arith))

pub loop-y-init : goal.loop-y-init
loop-y-init c = lowered_start c.kept_row-o.result (search rules) c.kept_row-o.ensures

pub returns : goal.returns
returns c = lowered_end c.loop-y.invariant (omega arith)
