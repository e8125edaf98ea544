-- The table shows the layer of the level, and the levels from there on find what all levels find.
use Rattle.std.proofs.Common.{◌≡◌, ◌≤◌, refl, sym, None, ◌∙◌, subst, ℕ, suc, ◌+◌, ◌-◌, ◌*◌, zero-le, arith}
use Rattle.rival_tables.specs.Filled.{Rows, cell}
use Rattle.rival_tables.specs.Within.{found_below, nothing_below, some_is_below, none_is_below}
use Rattle.rival_levels.specs.Layers.{next_≤, layer_at, layer_first, layer_next}
use Rattle.rival_levels.specs.Levels.{diag_at, pair_at, changed_at, found_place, none_place, levels_at, levels_turn, levels_end, levels_start, loop_is, row_is, column_is, change_is, out_closed, out_open, out_nothing, out_on, out_last, level_loop, level_row, level_change}
use Rattle.rival_levels.proofs.levels.Goals.{After-diagonal, After-pair, After-next_layer-e, After-changed}
use Rattle.rival_levels.proofs.levels.Goals as goal

pub loop-l-init : goal.loop-l-init
loop-l-init c =
    let a = c.args in
    (zero-le, c.requires.3, layer_first a.arcs.now a.n, levels_start a.arcs.now a.terminals.now a.n a.k a.b)

-- what each call of a turn gives is the level's: the loop it closes, the row of its pair, the next layer, and what changes in it
looped : (c : After-diagonal) (i : ℕ) → let a = c.args in i ≡ diag_at (cell c.loop-l.d) a.n (2 * (c.loop-l.l + 1) + a.k)
    → i ≡ level_loop a.arcs.now a.n a.k c.loop-l.l
looped c i q =
    let a = c.args in
    let e : 2 * (c.loop-l.l + 1) + a.k ≡ 2 * suc c.loop-l.l + a.k = omega arith in
    loop_is a.arcs.now a.terminals.now c.loop-l.d a.n a.k c.loop-l.l (omega arith) c.loop-l.invariant.2 (2 * (c.loop-l.l + 1) + a.k) i e q

-- no place on the diagonal is below the bound
open_level : (c : After-diagonal) → c.diagonal.result ≡ None → let a = c.args in
    a.n ≤ level_loop a.arcs.now a.n a.k c.loop-l.l
open_level c h =
    let a = c.args in
    let i = diag_at (cell c.loop-l.d) a.n (2 * (c.loop-l.l + 1) + a.k) in
    omega (arith, nothing_below a.n i h c.diagonal.ensures, looped c i refl)

abbrev worth : (l k : ℕ) → ℕ
worth l k = 2 * (l + 1) + k + 4

worth_is : (l k : ℕ) → worth l k ≡ 2 * suc l + 4 + k
worth_is l k = omega arith

rowed : (c : After-pair) (r : ℕ) → let a = c.args in r ≡ pair_at (cell c.loop-l.d) a.terminals.now a.n (worth c.loop-l.l a.k)
    → r ≡ level_row a.arcs.now a.terminals.now a.n a.k c.loop-l.l
rowed c r q =
    let a = c.args in
    row_is a.arcs.now a.terminals.now c.loop-l.d a.n a.k c.loop-l.l (omega arith) c.loop-l.invariant.2 (worth c.loop-l.l a.k) r (worth_is c.loop-l.l a.k) q

-- no place of the level has its ends below the bound
whole_level : (c : After-pair) → c.pair.result ≡ None → let a = c.args in
    a.n ≤ level_row a.arcs.now a.terminals.now a.n a.k c.loop-l.l
whole_level c h =
    let a = c.args in
    let r = pair_at (cell c.loop-l.d) a.terminals.now a.n (worth c.loop-l.l a.k) in
    omega (arith, none_place (cell c.loop-l.d) a.terminals.now a.n (worth c.loop-l.l a.k) h c.pair.ensures, rowed c r refl)

layered : (c : After-next_layer-e)
    → let a = c.args in
    Rows c.next_layer-e.result a.n (layer_at a.arcs.now a.n (suc c.loop-l.l))
layered c =
    let a = c.args in
    layer_next a.arcs.now c.loop-l.d c.next_layer-e.result a.n c.loop-l.l c.loop-l.invariant.2 c.next_layer-e.ensures

altered : (c : After-changed) → let a = c.args in
    Rows c.next_layer-e.result a.n (layer_at a.arcs.now a.n (suc c.loop-l.l)) →
    changed_at (cell c.loop-l.d) (cell c.next_layer-e.result) a.n ≡ level_change a.arcs.now a.n c.loop-l.l
altered c layer =
    let a = c.args in
    change_is a.arcs.now a.terminals.now c.loop-l.d a.n a.k c.loop-l.l (omega arith) c.loop-l.invariant.2
    c.next_layer-e.result (changed_at (cell c.loop-l.d) (cell c.next_layer-e.result) a.n) layer refl

pub returns-in-Some : goal.returns-in-Some
returns-in-Some c =
    let a = c.args in
    let (e, h) = found_below a.n c.in-Some.i (diag_at (cell c.loop-l.d) a.n (2 * (c.loop-l.l + 1) + a.k)) c.in-Some.is c.diagonal.ensures in
    out_closed a.arcs.now a.terminals.now a.n a.k c.loop-l.l
    (levels_at a.arcs.now a.terminals.now a.n a.k (a.b - (c.loop-l.l + 1)) (c.loop-l.l + 1)) c.in-Some.i
    (looped (goal.at.returns-in-Some c).After-diagonal c.in-Some.i e) h
    ∙ sym (levels_turn a.arcs.now a.terminals.now a.n a.k a.b c.loop-l.l (omega arith)) ∙ c.loop-l.invariant.3

pub pair-requires : goal.pair-requires
pair-requires c =
    (omega arith, c.loop-l.invariant.1, c.requires.5)

pub returns-in-Some-pair : goal.returns-in-Some-pair
returns-in-Some-pair c =
    let a = c.args in
    let p = c.in-Some-pair.p in
    let (e, h, q) = found_place (cell c.loop-l.d) a.terminals.now a.n (worth c.loop-l.l a.k) p c.in-Some-pair.is c.pair.ensures in
    let i = level_loop a.arcs.now a.n a.k c.loop-l.l in
    out_open a.arcs.now a.terminals.now a.n a.k c.loop-l.l
    (levels_at a.arcs.now a.terminals.now a.n a.k (a.b - (c.loop-l.l + 1)) (c.loop-l.l + 1))
    i p.row p.column refl (open_level (goal.at.returns-in-Some-pair c).After-diagonal c.in_default.is)
    (rowed (goal.at.returns-in-Some-pair c).After-pair p.row e) h
    (column_is a.arcs.now a.terminals.now c.loop-l.d a.n a.k c.loop-l.l (omega arith) c.loop-l.invariant.2 (worth c.loop-l.l a.k)
    p.row p.column (worth_is c.loop-l.l a.k) e h q)
    ∙ sym (levels_turn a.arcs.now a.terminals.now a.n a.k a.b c.loop-l.l (omega arith)) ∙ c.loop-l.invariant.3

pub returns-then-l-b : goal.returns-then-l-b
returns-then-l-b c =
    let a = c.args in
    out_last a.arcs.now a.terminals.now a.n a.k c.loop-l.l
    (levels_at a.arcs.now a.terminals.now a.n a.k (a.b - (c.loop-l.l + 1)) (c.loop-l.l + 1))
    (level_loop a.arcs.now a.n a.k c.loop-l.l) (level_row a.arcs.now a.terminals.now a.n a.k c.loop-l.l) refl
    (open_level (goal.at.returns-then-l-b c).After-diagonal c.in_default.is) refl (whole_level (goal.at.returns-then-l-b c).After-pair c.in_default-pair.is)
    (levels_end a.arcs.now a.terminals.now a.n a.k a.b (c.loop-l.l + 1) (omega arith))
    ∙ sym (levels_turn a.arcs.now a.terminals.now a.n a.k a.b c.loop-l.l (omega arith)) ∙ c.loop-l.invariant.3

pub next_layer-e-requires : goal.next_layer-e-requires
next_layer-e-requires c =
    (omega arith, c.loop-l.invariant.1, c.requires.4)

pub changed-requires : goal.changed-requires
changed-requires c = (omega arith, c.loop-l.invariant.1)

pub returns-then-is_none : goal.returns-then-is_none
returns-then-is_none c =
    let a = c.args in
    let d = changed_at (cell c.loop-l.d) (cell c.next_layer-e.result) a.n in
    out_nothing a.arcs.now a.terminals.now a.n a.k c.loop-l.l
    (levels_at a.arcs.now a.terminals.now a.n a.k (a.b - (c.loop-l.l + 1)) (c.loop-l.l + 1))
    (level_loop a.arcs.now a.n a.k c.loop-l.l) (level_row a.arcs.now a.terminals.now a.n a.k c.loop-l.l) (level_change a.arcs.now a.n c.loop-l.l) refl
    (open_level (goal.at.returns-then-is_none c).After-diagonal c.in_default.is) refl (whole_level (goal.at.returns-then-is_none c).After-pair c.in_default-pair.is)
    refl
    (omega (
      arith,
      none_is_below a.n d c.if-is_none.ensures c.changed.ensures,
      altered (goal.at.returns-then-is_none c).After-changed (layered (goal.at.returns-then-is_none c).After-next_layer-e),
    ))
    ∙ sym (levels_turn a.arcs.now a.terminals.now a.n a.k a.b c.loop-l.l (omega arith)) ∙ c.loop-l.invariant.3

pub loop-l-preserved : goal.loop-l-preserved
loop-l-preserved c =
    let a = c.args in
    let d = changed_at (cell c.loop-l.d) (cell c.next_layer-e.result) a.n in
    let o : suc c.loop-l.l ≡ c.loop-l.l + 1 = omega arith in (
      omega arith,
      (λ i j h k. omega (arith, c.next_layer-e.ensures i j h k, next_≤ a.arcs.now c.loop-l.d a.n i j)),
      subst (λ z. Rows c.next_layer-e.result a.n (layer_at a.arcs.now a.n z)) o (layered (goal.at.loop-l-preserved c).After-next_layer-e),
      out_on a.arcs.now a.terminals.now a.n a.k c.loop-l.l
          (levels_at a.arcs.now a.terminals.now a.n a.k (a.b - (c.loop-l.l + 1)) (c.loop-l.l + 1))
          (level_loop a.arcs.now a.n a.k c.loop-l.l) (level_row a.arcs.now a.terminals.now a.n a.k c.loop-l.l) (level_change a.arcs.now a.n c.loop-l.l) refl
          (open_level (goal.at.loop-l-preserved c).After-diagonal c.in_default.is) refl (whole_level (goal.at.loop-l-preserved c).After-pair c.in_default-pair.is)
          refl
          (omega (
            arith,
            some_is_below a.n d c.if-is_none.ensures c.changed.ensures,
            altered (goal.at.loop-l-preserved c).After-changed (layered (goal.at.loop-l-preserved c).After-next_layer-e),
          ))
          ∙ sym (levels_turn a.arcs.now a.terminals.now a.n a.k a.b c.loop-l.l (omega arith)) ∙ c.loop-l.invariant.3,
    )

pub returns : goal.returns
returns c =
    let a = c.args in
    sym (levels_end a.arcs.now a.terminals.now a.n a.k a.b c.loop-l.l (omega arith)) ∙ c.loop-l.invariant.3
