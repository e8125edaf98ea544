-- The best by the places from y on and of what is held is the best of all.
use Rattle.std.proofs.Common.{◌≡◌, ℕ, refl, sym, ap, ◌∙◌, ◌+◌, zero-le, arith}
use Rattle.rival_tables.specs.Filled.{cell}
use Rattle.rival_tables.specs.Within.{if_below, some_below, none_below}
use Rattle.rival_walk.specs.Leads.{lead_at, lead_rest, lead_start, lead_end, lead_lower, lead_same}
use Rattle.rival_walk.proofs.lead.Goals.{else-s-v, then-s-v}
use Rattle.rival_walk.proofs.lead.Goals as goal

pub loop-y-init : goal.loop-y-init
loop-y-init c =
    let a = c.args in
    (zero-le, omega (arith, c.min-v.ensures), (a.n, none_below a.n a.n (omega arith), lead_start a.arcs.now a.n (cell a.table.now a.k) a.i c.min-v.ensures))

pub overflow_cast-s : goal.overflow_cast-s
overflow_cast-s c =
    omega (
      arith,
      c.requires.3 c.args.i c.loop-y.y
          (omega arith) (omega arith),
    )

pub overflow_add-s-in-loop-y-2 : goal.overflow_add-s-in-loop-y-2
overflow_add-s-in-loop-y-2 c =
    let y = c.loop-y.y in
    omega (arith, c.requires.3 c.args.i y (omega arith) (omega arith), c.requires.4 y (omega arith))

pub loop-y-preserved : goal.loop-y-preserved
loop-y-preserved c =
    let a = c.args in
    let y = c.loop-y.y in
    let v = c.loop-y.v in
    let (p, same, e) = c.loop-y.invariant.2 in
    elim c.if-s-v.branch [
      | then-s-v w ↦ (
        omega arith,
        omega (arith, w.if-s-v.true, w.v-is),
        (
          y,
          w.place-is ∙ some_below a.n y y refl (omega arith),
          ap (λ v. lead_rest a.arcs.now a.n (cell a.table.now a.k) a.i (v, y) (y + 1)) w.v-is
              ∙ sym (lead_lower a.arcs.now a.n (cell a.table.now a.k) a.i v p y (omega arith) w.if-s-v.true) ∙ e,
        ),
      )
      | else-s-v w ↦ (
        omega arith,
        omega (arith, w.v-is),
        (
          p,
          w.place-is ∙ same,
          ap (λ v. lead_rest a.arcs.now a.n (cell a.table.now a.k) a.i (v, p) (y + 1)) w.v-is
              ∙ sym (lead_same a.arcs.now a.n (cell a.table.now a.k) a.i v p y (omega arith) w.if-s-v.false) ∙ e,
        ),
      )
    ]

pub returns : goal.returns
returns c =
    let a = c.args in
    let (p, same, e) = c.loop-y.invariant.2 in
    let q : ◌≡◌ {A = ℕ × ℕ} (c.loop-y.v, p) (lead_at a.arcs.now a.n (cell a.table.now a.k) a.i) =
    sym (lead_end a.arcs.now a.n (cell a.table.now a.k) a.i (c.loop-y.v, p) c.loop-y.y (omega arith)) ∙ e in
    (ap (λ (r : ℕ × ℕ). r.0) q, same ∙ ap (λ (r : ℕ × ℕ). if_below a.n r.1) q)
