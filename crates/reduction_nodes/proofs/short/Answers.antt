-- Only where the node has fewer than its quota.
use Rattle.std.proofs.Common.{sym, ap, ◌∙◌, cond, arith, lt-ltb, le-ltb}
use Rattle.arrays.specs.ArrayInstance.{flag}
use Rattle.reduction_cells.specs.Cells.{best_of, best_inside}
use Rattle.reduction_nodes.proofs.short.Goals as goal

pub overflow_cast-result : goal.overflow_cast-result
overflow_cast-result c = let a = c.args in
    omega (arith, c.requires.1.edges, c.best.ensures, best_inside a.m a.table.now c.requires.1 (flag a.rem.now) a.v c.requires.0)

pub returns-then-n-q : goal.returns-then-n-q
returns-then-n-q c =
    let a = c.args in
    c.best.ensures ∙ sym (ap (λ b. cond b (best_of a.m a.table.now (flag a.rem.now) a.v) a.m) (lt-ltb a.n a.q c.if-n-q.true))

pub returns : goal.returns
returns c =
    let a = c.args in
    sym (ap (λ b. cond b (best_of a.m a.table.now (flag a.rem.now) a.v) a.m) (le-ltb a.n a.q c.if-n-q.false))

pub best-requires : goal.best-requires
best-requires c = c.requires

pub overflow_cast-result-2 : goal.overflow_cast-result-2
overflow_cast-result-2 c = omega (arith, c.requires.1.edges)
