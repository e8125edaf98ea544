-- Only where N(s) is larger than the quota.
use Rattle.std.proofs.Common.{sym, ap, ◌∙◌, cond, arith, lt-ltb, le-ltb}
use Rattle.reduction_cells.specs.Cells.{worst_of, worst_inside}
use Rattle.reduction_nodes.specs.Numbers.{in_n}
use Rattle.reduction_nodes.proofs.fourth.Goals as goal

pub overflow_cast-result : goal.overflow_cast-result
overflow_cast-result c = let a = c.args in
    omega (
      arith,
      c.requires.1.edges,
      c.worst.ensures,
      worst_inside a.m a.table.now c.requires.1 (in_n a.other.now a.rem.now a.f.now a.lo.now) a.v c.requires.0,
    )

pub returns-then-q-n : goal.returns-then-q-n
returns-then-q-n c =
    let a = c.args in
    c.worst.ensures ∙ sym (ap (λ b. cond b (worst_of a.m a.table.now (in_n a.other.now a.rem.now a.f.now a.lo.now) a.v) a.m)
    (lt-ltb a.q a.n c.if-q-n.true))

pub returns : goal.returns
returns c =
    let a = c.args in
    sym (ap (λ b. cond b (worst_of a.m a.table.now (in_n a.other.now a.rem.now a.f.now a.lo.now) a.v) a.m)
    (le-ltb a.q a.n c.if-q-n.false))

pub worst-requires : goal.worst-requires
worst-requires c = c.requires

pub overflow_cast-result-2 : goal.overflow_cast-result-2
overflow_cast-result-2 c = omega (arith, c.requires.1.edges)
