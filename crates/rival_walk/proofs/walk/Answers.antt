-- What is marked, and what the walk from c still names, are what the whole walk names.
use Rattle.std.proofs.Common.{◌≡◌, ◌<◌, refl, ap, ◌∙◌, subst, ℕ, ◌-◌, arith, true, length-set, rules}
use Rattle.rival_tables.specs.Within.{found_below, nothing_below}
use Rattle.rival_walk.specs.Leads.{Column, lead_at, layer_small, lead_cong}
use Rattle.rival_walk.specs.Edges.{arc_edge}
use Rattle.arrays.specs.ArrayInstance.{at}
use Rattle.rival_tables.specs.Filled.{cell}
use Rattle.rival_levels.specs.Layers.{layer_at}
use Rattle.rival_walk.specs.Walks.{ahead, read_on, read_stay, read_last}
use Rattle.rival_walk.proofs.walk.Goals.{Joined-l-gt0, After-columns-table, After-lead, In-Some, else-l-gt0, then-l-gt0}
use Rattle.rival_walk.proofs.walk.Goals as goal

-- the level below l, if there is one
level : (c : Joined-l-gt0) → c.if-l-gt0.last ≡ c.args.l - 1
level c = elim c.if-l-gt0.branch [
  | then-l-gt0 w ↦ omega arith
  | else-l-gt0 w ↦ omega arith
]

pub columns-table-requires : goal.columns-table-requires
columns-table-requires c = (c.requires.1, c.requires.6, omega (arith, level (goal.at.columns-table-requires c).Joined-l-gt0, c.requires.4), c.requires.3)

-- the column of place j, in the layers below l
column : (c : After-columns-table) → let a = c.args in Column a.arcs.now a.plan.now.n a.j (a.l - 1) c.columns-table.result
column c =
    let level : c.if-l-gt0.last ≡ c.args.l - 1 =
    elim c.if-l-gt0.branch [
      | then-l-gt0 w ↦ omega arith
      | else-l-gt0 w ↦ omega arith
    ] in
    let a = c.args in
    subst (λ (k : ℕ). Column a.arcs.now a.plan.now.n a.j k c.columns-table.result) (level) c.columns-table.ensures

pub loop-k-init : goal.loop-k-init
loop-k-init c =
    let p = c.requires in
    (omega arith, p.5, search rules, search rules, λ e. (refl, refl))

pub lead-requires : goal.lead-requires
lead-requires c =
    let l = c.loop-k in (
      c.requires.1,
      l.invariant.1,
      omega arith,
      c.requires.3,
      λ y h. omega (
        arith,
        column (goal.at.lead-requires c).After-columns-table (l.k - 1) y (omega arith) h,
        layer_small c.args.arcs.now c.args.plan.now.n (l.k - 1) y c.args.j c.requires.3 h (omega arith),
      ),
    )

-- what the table tells is what the walk goes by
is_ahead : (c : After-lead) → let a = c.args in Column a.arcs.now a.plan.now.n a.j (a.l - 1) c.columns-table.result
    → (lead_at a.arcs.now a.plan.now.n (cell c.columns-table.result (c.loop-k.k - 1)) c.loop-k.c).1
    ≡ ahead (arc_edge a.g.now.m a.g.now.sv a.g.now.st a.g.now.rank_s a.g.now.rank_t a.plan.now.has.now) a.plan.now.edges.now a.arcs.now a.plan.now.n a.j (c.loop-k.k - 1) c.loop-k.c
is_ahead c below =
    let a = c.args in
    let k = c.loop-k.k in
    ap (λ r. r.1)
    (lead_cong a.arcs.now a.plan.now.n (cell c.columns-table.result (k - 1)) (λ y. layer_at a.arcs.now a.plan.now.n (k - 1) y a.j) c.loop-k.c
    c.loop-k.invariant.1 (λ y h. below (k - 1) y (omega arith) h))

-- the place that it leads to, where there is one
onward : (c : In-Some) → (c.in-Some.y ≡ (lead_at c.args.arcs.now c.args.plan.now.n (cell c.columns-table.result (c.loop-k.k - 1)) c.loop-k.c).1) × (c.in-Some.y < c.args.plan.now.n)
onward c =
    found_below c.args.plan.now.n c.in-Some.y (lead_at c.args.arcs.now c.args.plan.now.n (cell c.columns-table.result (c.loop-k.k - 1)) c.loop-k.c).1 c.in-Some.is c.lead.ensures.1

pub overflow_cast-z : goal.overflow_cast-z
overflow_cast-z c =
    omega (arith, c.requires.2 c.in-Some.y (onward (goal.at.overflow_cast-z c).In-Some).1)

pub arc_edge-f-requires : goal.arc_edge-f-requires
arc_edge-f-requires c =
    let y = c.in-Some.y in
    (c.requires.0, c.requires.2 c.loop-k.c c.loop-k.invariant.1, c.requires.2 y (onward (goal.at.arc_edge-f-requires c).In-Some).1, c.requires.7, c.requires.8)

pub bounds-gone-z : goal.bounds-gone-z
bounds-gone-z c =
    omega (arith, c.requires.2 c.in-Some.y (onward (goal.at.bounds-gone-z c).In-Some).1)

pub loop-k-preserved-in-Some : goal.loop-k-preserved-in-Some
loop-k-preserved-in-Some c =
    let a = c.args in
    let k = c.loop-k.k in
    let y = c.in-Some.y in
    let (same, h) = onward (goal.at.loop-k-preserved-in-Some c).In-Some in
    let is = same ∙ is_ahead (goal.at.loop-k-preserved-in-Some c).After-lead (column (goal.at.loop-k-preserved-in-Some c).After-columns-table) in (
      omega arith,
      h,
      length-set c.loop-k.gone (at a.plan.now.edges.now y) true ∙ c.loop-k.invariant.2,
      length-set c.loop-k.come c.arc_edge-f.result true ∙ c.loop-k.invariant.3,
      read_on (arc_edge a.g.now.m a.g.now.sv a.g.now.st a.g.now.rank_s a.g.now.rank_t a.plan.now.has.now) a.plan.now.edges.now a.arcs.now a.plan.now.n a.j a.l
          a.i a.start.gone a.start.come c.loop-k.gone c.loop-k.come k c.loop-k.c y c.loop-k.invariant.4 (omega (arith, c.loop-k-test.true)) is _
          _ _ c.arc_edge-f.result h (omega (arith, c.requires.2 y h, c.loop-k.invariant.2)) c.arc_edge-f.ensures.0
          (omega (arith, c.arc_edge-f.ensures.1, c.loop-k.invariant.3)) refl refl refl,
    )

pub loop-k-preserved : goal.loop-k-preserved
loop-k-preserved c =
    let a = c.args in
    let k = c.loop-k.k in
    let y = (lead_at a.arcs.now a.plan.now.n (cell c.columns-table.result (k - 1)) c.loop-k.c).1 in
    let is = is_ahead (goal.at.loop-k-preserved c).After-lead (column (goal.at.loop-k-preserved c).After-columns-table) in (
      omega arith,
      c.loop-k.invariant.1,
      c.loop-k.invariant.2,
      c.loop-k.invariant.3,
      read_stay (arc_edge a.g.now.m a.g.now.sv a.g.now.st a.g.now.rank_s a.g.now.rank_t a.plan.now.has.now) a.plan.now.edges.now a.arcs.now a.plan.now.n a.j a.l
          a.i a.start.gone a.start.come c.loop-k.gone c.loop-k.come k c.loop-k.c y c.loop-k.invariant.4 (omega (arith, c.loop-k-test.true)) is _
          _ _ (nothing_below a.plan.now.n y c.in_default.is c.lead.ensures.1) refl refl refl,
    )

pub arc_edge-f-requires-2 : goal.arc_edge-f-requires-2
arc_edge-f-requires-2 c =
    (c.requires.0, c.requires.2 c.loop-k.c c.loop-k.invariant.1, c.requires.2 c.args.j c.requires.6, c.requires.7, c.requires.8)

pub returns : goal.returns
returns c =
    let a = c.args in
    read_last (arc_edge a.g.now.m a.g.now.sv a.g.now.st a.g.now.rank_s a.g.now.rank_t a.plan.now.has.now) a.plan.now.edges.now a.arcs.now a.plan.now.n a.j a.l
    a.i a.start.gone a.start.come c.loop-k.gone c.loop-k.come c.loop-k.k c.loop-k.c c.arc_edge-f-2.result c.loop-k.invariant.4
    (omega arith) (omega (arith, c.requires.2 a.j c.requires.6, c.loop-k.invariant.2)) c.arc_edge-f-2.ensures.0
    (omega (arith, c.arc_edge-f-2.ensures.1, c.loop-k.invariant.3))
