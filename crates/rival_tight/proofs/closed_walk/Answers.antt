-- The table of costs has no closed walk below k; or the tight arcs close the same walks as all.
use Rattle.std.proofs.Common.{refl, sym, ◌∙◌, ◌+◌, arith}
use Rattle.rival_tables.specs.Filled.{cell}
use Rattle.rival_tables.specs.Within.{found_below, none_is_below}
use Rattle.rival_levels.specs.Layers.{layer_first}
use Rattle.rival_levels.specs.Levels.{diag_at, loop_is}
use Rattle.rival_tight.specs.Tight.{loops_start, loops_hit, loops_none, loops_tight, tight_small, tight_cheap, tight_pruned}
use Rattle.rival_tight.proofs.closed_walk.Goals as goal

pub returns-then-is_none : goal.returns-then-is_none
returns-then-is_none c =
    let a = c.args in
    sym
    (loops_none a.arcs.now a.costs.now a.n a.k c.requires.0 c.requires.1 c.requires.4
    (none_is_below a.n (diag_at (cell a.costs.now) a.n (64 + a.k)) c.if-is_none.ensures c.diagonal.ensures) a.n 0 (omega arith))

pub returns-in-Some : goal.returns-in-Some
returns-in-Some c =
    let a = c.args in
    let (e, h) = found_below a.n c.in-Some.i (diag_at (cell a.arcs.now) a.n (2 + a.k)) c.in-Some.is c.diagonal-2.ensures in
    loops_hit a.arcs.now a.n a.k 0 c.in-Some.i (omega (arith, h))
    (loop_is a.arcs.now a.arcs.now a.arcs.now a.n a.k 0 c.requires.0 (layer_first a.arcs.now a.n) (2 + a.k) c.in-Some.i refl e)
    h
    ∙ loops_start a.arcs.now a.n a.k

pub first_loop-requires : goal.first_loop-requires
first_loop-requires c =
    let t = c.tight-few in
    let a = c.args in (
      c.requires.0,
      c.requires.1,
      tight_small a.arcs.now a.costs.now t.result a.n a.k c.requires.0 c.requires.2 t.ensures,
      tight_cheap a.arcs.now a.costs.now t.result a.n a.k c.requires.0 c.requires.2 t.ensures c.requires.3,
      c.nexts-following.ensures,
    )

pub returns : goal.returns
returns c =
    let t = c.tight-few in
    let a = c.args in
    c.first_loop.ensures
    ∙ sym
    (loops_tight a.arcs.now a.costs.now t.result a.n a.k c.requires.0 c.requires.1 c.requires.4
    (tight_pruned a.arcs.now a.costs.now t.result a.n a.k c.requires.0 c.requires.2 t.ensures c.requires.4) a.n 0 (omega arith))
