-- The table is within the costs of arcs, and its next layer nowhere below it; or there is none.
use Rattle.std.proofs.Common.{refl, sym, arith, ◌+◌, ◌*◌}
use Rattle.rival_tables.specs.Filled.{cell}
use Rattle.rival_tables.specs.Within.{none_is_below}
use Rattle.rival_levels.specs.Levels.{changed_at}
use Rattle.rival_certificate.specs.Certified.{closed_is}
use Rattle.rival_certificate.proofs.certificate.Goals as goal

pub next_layer-e-requires : goal.next_layer-e-requires
next_layer-e-requires c = (
  c.requires.0,
  (λ i j h k. omega (arith, c.within.ensures c.if-not-within.false (i * 64 + j) (omega arith))),
  c.requires.1,
)

pub changed-requires : goal.changed-requires
changed-requires c = (
  c.requires.0,
  λ i j h k. omega (
    arith,
    c.within.ensures c.if-not-within.false
        (i * 64 + j) (omega arith),
  ),
)

pub returns : goal.returns
returns c =
    let a = c.args in
    let e = changed_at (cell c.walk_costs-d.result) (cell c.next_layer-e.result) a.n in
    closed_is a.arcs.now c.walk_costs-d.result c.next_layer-e.result a.n e c.requires.0
    (c.within.ensures c.if-not-within.false)
    c.next_layer-e.ensures refl (none_is_below a.n e (sym c.if-is_some.ensures) c.changed.ensures)
