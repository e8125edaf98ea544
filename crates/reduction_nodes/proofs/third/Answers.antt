-- Only where there are no more arrows than the quota.
use Rattle.std.proofs.Common.{sym, ap, ◌∙◌, ◌&&◌, cond, arith, le-leb}
use borrow.Author.Tests.{lt-leb}
use Rattle.lists.specs.Search.{low, low_is}
use Rattle.arrays.specs.ArrayInstance.{flag}
use Rattle.reduction_lists.specs.Walks.{at_node}
use Rattle.reduction_nodes.proofs.third.Goals as goal

pub both-requires : goal.both-requires
both-requires c =
    c.requires

pub overflow_cast-result : goal.overflow_cast-result
overflow_cast-result c =
    let a = c.args in
    let E = c.requires.1 in
    omega (
      arith,
      E.1.linked.edges,
      c.both.ensures E.0 E.1,
      (low_is (at_node E.0 a.v (λ d. flag a.rem.now d && flag a.f.now d)) a.m).0,
    )

pub returns-then-n-q : goal.returns-then-n-q
returns-then-n-q c =
    let a = c.args in
    λ end L. c.both.ensures end L ∙ sym (ap (λ b. cond b (low (at_node end a.v (λ d. flag a.rem.now d && flag a.f.now d)) a.m) a.m)
    (le-leb a.n a.q c.if-n-q.true))

pub overflow_cast-result-2 : goal.overflow_cast-result-2
overflow_cast-result-2 c =
    omega (arith, c.requires.1.1.linked.edges)

pub returns : goal.returns
returns c =
    let a = c.args in
    λ end L. sym (ap (λ b. cond b (low (at_node end a.v (λ d. flag a.rem.now d && flag a.f.now d)) a.m) a.m)
    (lt-leb a.n a.q c.if-n-q.false))
