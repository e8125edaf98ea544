-- The numbers of a stand, rule by rule.
use Rattle.std.proofs.Common.{◌&&◌, arith, eqb}
use Rattle.lists.specs.Sum.{count_≤}
use Rattle.arrays.specs.ArrayInstance.{at, flag}
use Rattle.reduction_nodes.proofs.stand_now.Goals as goal

pub tallies-n-requires : goal.tallies-n-requires
tallies-n-requires c = (c.requires.0, c.requires.1.lists)

pub overflow_add-got : goal.overflow_add-got
overflow_add-got c =
    let a = c.args in
    let E = c.requires.1.lists in
    let n = c.tallies-n.ensures E.0 E.1 in
    omega (
      arith,
      c.requires.1.cells.edges,
      n.0,
      n.1,
      count_≤ (λ d. flag a.fs.now d && eqb (at E.0 d) a.v) a.m,
      count_≤ (λ d. flag a.ft.now d && eqb (at E.0 d) a.v) a.m,
    )

pub third-rule3-requires : goal.third-rule3-requires
third-rule3-requires c = (c.requires.0, c.requires.1.lists)

pub short-rule7-requires : goal.short-rule7-requires
short-rule7-requires c = (c.requires.0, c.requires.1.cells)

pub returns : goal.returns
returns c =
    λ st L.
    let n = c.tallies-n.ensures st L in
    simp (c.third-rule3.ensures st L, c.short-rule7.ensures, n.0, n.1)
