-- No node has room; or the least rates at starts and ends, put together.
use Rattle.std.proofs.Common.{sym, ap₂, ◌∙◌, ℕ, ◌+◌, ◌*◌, min, arith, List}
use lib.ListN.{get_or-replicate}
use Rattle.arrays.specs.ArrayInstance.{at, flag}
use Rattle.lists.specs.Search.{low}
use Rattle.rival_tables.specs.Within.{none_is_below}
use Rattle.rival_search.specs.SearchView.{full_cell, ends_ranked, but_small, gain_small}
use Rattle.rival_search.proofs.terminal_table.Goals as goal

pub returns-then-is_none-2 : goal.returns-then-is_none-2
returns-then-is_none-2 c =
    let a = c.args in
    λ rps rpt rank_s rank_t i j h k. get_or-replicate 4096 (i * 64 + j) 6 0 (omega (arith, c.requires.1, h, k))
    ∙ sym
    (full_cell a.g.now.m a.g.now.sv a.g.now.st a.g.now.rank_s a.g.now.rank_t a.plan.now.has.now a.room.now.s a.room.now.t a.ps.now a.pt.now rps rpt
    c.requires.2 c.requires.3 (none_is_below 32 (low (flag a.room.now.s) 32) c.if-is_none.ensures c.first_room.ensures)
    (none_is_below 32 (low (flag a.room.now.t) 32) c.if-is_none-2.ensures c.first_room-then-is_none.ensures) i j)

pub gathered-rps-requires : goal.gathered-rps-requires
gathered-rps-requires c = (c.requires.1, c.requires.8)

pub gathered-rpt-requires : goal.gathered-rpt-requires
gathered-rpt-requires c = (c.requires.1, c.requires.8)

pub apart-starts-requires : goal.apart-starts-requires
apart-starts-requires c = (c.requires.0, c.requires.3, (c.args.g.now.sv, c.requires.4), c.requires.1, c.requires.6)

pub apart-stops-requires : goal.apart-stops-requires
apart-stops-requires c = (c.requires.0, c.requires.2, (c.args.g.now.st, c.requires.5), c.requires.1, c.requires.7)

pub gains-gs-requires : goal.gains-gs-requires
gains-gs-requires c = (c.requires.0, c.requires.3, (c.args.g.now.sv, c.requires.4), c.requires.1, c.requires.6)

pub gains-gt-requires : goal.gains-gt-requires
gains-gt-requires c =
    (c.requires.0, c.requires.2, (c.args.g.now.st, c.requires.5), c.requires.1, c.requires.7)

pub terminals-requires : goal.terminals-requires
terminals-requires c =
    let a = c.args in
    let rps : List ℕ = c.gathered-rps.result in
    let rpt : List ℕ = c.gathered-rpt.result in (
      c.requires.1,
      record {
        start =
            λ i j h k. omega (
              arith,
              c.apart-starts.ensures a.g.now.sv c.requires.4 i j h (omega (arith, c.requires.1, k)),
              but_small a.g.now.m a.g.now.sv a.g.now.st a.g.now.rank_s a.plan.now.has.now a.room.now.t (at a.ps.now i) (at rps i)
                  (at a.pt.now j),
            );
        stop =
            λ i j h k. omega (
              arith,
              c.apart-stops.ensures a.g.now.st c.requires.5 i j h (omega (arith, c.requires.1, k)),
              but_small a.g.now.m a.g.now.st a.g.now.sv a.g.now.rank_t a.plan.now.has.now a.room.now.s (at a.pt.now i) (at rpt i)
                  (at a.ps.now j),
            );
        both =
            λ i j h k. omega (
              arith,
              c.gains-gs.ensures a.g.now.sv c.requires.4 i h,
              c.gains-gt.ensures a.g.now.st c.requires.5 j k,
              gain_small a.g.now.m a.g.now.sv a.g.now.st a.g.now.rank_s a.plan.now.has.now a.room.now.t (at a.ps.now i) (at rps i),
              gain_small a.g.now.m a.g.now.st a.g.now.sv a.g.now.rank_t a.plan.now.has.now a.room.now.s (at a.pt.now j) (at rpt j),
            );
      },
    )

pub returns : goal.returns
returns c =
    let a = c.args in
    ends_ranked a.g.now.m a.g.now.sv a.g.now.st a.g.now.rank_s a.g.now.rank_t a.plan.now.has.now a.room.now.s a.room.now.t a.plan.now.n a.plan.now.edges.now a.ps.now
    a.pt.now c.gathered-rps.result c.gathered-rpt.result c.terminals.result c.gathered-rps.ensures c.gathered-rpt.ensures
    (λ i j h k. c.terminals.ensures i j h k
    ∙ ap₂ (λ x y. min (x + 3) y)
    (ap₂ min (c.apart-starts.ensures a.g.now.sv c.requires.4 i j h (omega (arith, c.requires.1, k)))
    (c.apart-stops.ensures a.g.now.st c.requires.5 j i k (omega (arith, c.requires.1, h))))
    (ap₂ (λ x y. x + y) (c.gains-gs.ensures a.g.now.sv c.requires.4 i h) (c.gains-gt.ensures a.g.now.st c.requires.5 j k)))
