-- The numbers of a surveyor, rule by rule.
use Rattle.std.proofs.Common.{◌&&◌, not, arith}
use Rattle.lists.specs.Search.{low_is}
use Rattle.arrays.specs.ArrayInstance.{at, flag}
use Rattle.reduction_lists.specs.Walks.{at_node}
use Rattle.reduction_nodes.proofs.surveyor_now.Goals as goal

pub size-n-requires : goal.size-n-requires
size-n-requires c =
    (c.requires.0, c.requires.1.lists, c.requires.2)

pub fourth-rule4-requires : goal.fourth-rule4-requires
fourth-rule4-requires c =
    (c.requires.0, c.requires.1.cells, c.requires.2)

pub idle-rule5-requires : goal.idle-rule5-requires
idle-rule5-requires c =
    (c.requires.0, c.requires.1.lists, c.requires.2)

pub overflow_cast-rule5 : goal.overflow_cast-rule5
overflow_cast-rule5 c =
    let a = c.args in
    let E = c.requires.1.lists in
    let idle = at_node E.0 a.v
    (λ d. flag a.rem.now d && (not (flag a.lo.now (at a.st.now d)) && (not (flag a.fs.now d) && not (flag a.ft.now d)))) in
    omega (arith, c.requires.1.cells.edges, c.idle-rule5.ensures E.0 E.1, (low_is idle a.m).0)

pub short-rule6-requires : goal.short-rule6-requires
short-rule6-requires c =
    (c.requires.0, c.requires.1.cells)

pub returns : goal.returns
returns c =
    λ sv L. simp (c.fourth-rule4.ensures, c.idle-rule5.ensures sv L, c.short-rule6.ensures, c.size-n.ensures sv L)
