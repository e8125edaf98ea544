-- Behind the bar; no rank is as high as 33.
use Rattle.std.proofs.Common.{sym, ap, ◌∙◌, ◌&&◌, arith, eqb, leb}
use mathlib.Core.Bool.{and-false}
use borrow.Author.Tests.{lt-leb}
use Rattle.lists.specs.Search.{low, low_is, low_none}
use Rattle.arrays.specs.ArrayInstance.{at, flag}
use Rattle.reduction_lists.specs.Walks.{at_node}
use Rattle.reduction_cells.specs.Cells.{bar_of}
use Rattle.reduction_nodes.proofs.second.Goals as goal

pub bar-bar-requires : goal.bar-bar-requires
bar-bar-requires c =
    (c.requires.0, c.requires.1.cells)

pub overflow_cast-result : goal.overflow_cast-result
overflow_cast-result c =
    omega (arith, c.requires.1.cells.edges)

pub returns-then-bar-ge33 : goal.returns-then-bar-ge33
returns-then-bar-ge33 c =
    let a = c.args in
    let B = bar_of a.m a.table.now (flag a.f.now) a.v a.q in
    λ end L. sym (low_none (at_node end a.v (λ d. flag a.rem.now d && leb B (at a.rank.now d))) a.m
    (λ e l. ap (λ b. eqb (at end e) a.v && (flag a.rem.now e && b))
    (lt-leb B (at a.rank.now e) (omega (arith, c.requires.2 e l, c.bar-bar.ensures, c.if-bar-ge33.true)))
    ∙ ap (λ b. eqb (at end e) a.v && b) (and-false (flag a.rem.now e)) ∙ and-false (eqb (at end e) a.v)))

pub behind-requires : goal.behind-requires
behind-requires c =
    (c.requires.0, c.requires.1.lists)

pub overflow_cast-result-2 : goal.overflow_cast-result-2
overflow_cast-result-2 c =
    let a = c.args in
    let E = c.requires.1.lists in
    omega (
      arith,
      c.requires.1.cells.edges,
      c.behind.ensures E.0 E.1,
      (low_is (at_node E.0 a.v (λ d. flag a.rem.now d && leb c.bar-bar.result (at a.rank.now d))) a.m).0,
    )

pub returns : goal.returns
returns c =
    let a = c.args in
    λ end L. c.behind.ensures end L ∙ ap (λ B. low (at_node end a.v (λ d. flag a.rem.now d && leb B (at a.rank.now d))) a.m)
    c.bar-bar.ensures
