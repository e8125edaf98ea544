-- The table shows the layer of the level, and the levels from there on find what all levels find.
use Rattle.std.proofs.Common.{◌≡◌, ℕ, refl, sym, ◌∙◌, subst, suc, ◌+◌, ◌*◌, zero-le, arith}
use Rattle.rival_tables.specs.Filled.{Rows, cell}
use Rattle.rival_tables.specs.Within.{found_below, nothing_below}
use Rattle.rival_levels.specs.Layers.{next_≤, layer_at, layer_first, layer_next}
use Rattle.rival_levels.specs.Levels.{diag_at, level_loop, loop_is}
use Rattle.rival_tight.specs.Tight.{loops_start, loops_end, loops_hit, loops_miss}
use Rattle.rival_tight.proofs.first_loop.Goals.{After-diagonal}
use Rattle.rival_tight.proofs.first_loop.Goals as goal

pub loop-l-init : goal.loop-l-init
loop-l-init c =
    let a = c.args in
    (zero-le, c.requires.2, layer_first a.arcs.now a.n, loops_start a.arcs.now a.n a.k)

-- the place that is found is the level's
looped : (c : After-diagonal) (i : ℕ) → let a = c.args in i ≡ diag_at (cell c.loop-l.d) a.n (2 * (c.loop-l.l + 1) + a.k)
    → i ≡ level_loop a.arcs.now a.n a.k c.loop-l.l
looped c i q =
    let a = c.args in
    let e : 2 * (c.loop-l.l + 1) + a.k ≡ 2 * suc c.loop-l.l + a.k = omega arith in
    loop_is a.arcs.now a.arcs.now c.loop-l.d a.n a.k c.loop-l.l (omega arith) c.loop-l.invariant.2 (2 * (c.loop-l.l + 1) + a.k) i e q

pub returns-in-Some : goal.returns-in-Some
returns-in-Some c =
    let a = c.args in
    let (e, h) = found_below a.n c.in-Some.i (diag_at (cell c.loop-l.d) a.n (2 * (c.loop-l.l + 1) + a.k)) c.in-Some.is c.diagonal.ensures in
    loops_hit a.arcs.now a.n a.k c.loop-l.l c.in-Some.i (omega arith) (looped (goal.at.returns-in-Some c).After-diagonal c.in-Some.i e) h
    ∙ c.loop-l.invariant.3

pub sparse_layer-d-requires : goal.sparse_layer-d-requires
sparse_layer-d-requires c =
    (omega arith, c.loop-l.invariant.1, c.requires.3, c.requires.4)

pub loop-l-preserved : goal.loop-l-preserved
loop-l-preserved c =
    let a = c.args in
    let i = diag_at (cell c.loop-l.d) a.n (2 * (c.loop-l.l + 1) + a.k) in
    let o : suc c.loop-l.l ≡ c.loop-l.l + 1 = omega arith in (
      omega arith,
      (λ i j h k. omega (arith, c.sparse_layer-d.ensures i j h k, next_≤ a.arcs.now c.loop-l.d a.n i j)),
      subst (λ z. Rows c.sparse_layer-d.result a.n (layer_at a.arcs.now a.n z)) o
          (layer_next a.arcs.now c.loop-l.d c.sparse_layer-d.result a.n c.loop-l.l c.loop-l.invariant.2 c.sparse_layer-d.ensures),
      loops_miss a.arcs.now a.n a.k c.loop-l.l i (omega arith) (looped (goal.at.loop-l-preserved c).After-diagonal i refl)
          (nothing_below a.n i c.in_default.is c.diagonal.ensures)
          ∙ c.loop-l.invariant.3,
    )

pub returns : goal.returns
returns c =
    let a = c.args in
    sym (loops_end a.arcs.now a.n a.k c.loop-l.l (omega arith)) ∙ c.loop-l.invariant.3
