-- `roster_routes::append_rankings_in_order` meets its contract: the lists from the i-th number on are left. Assumes nothing.
use Rattle.std.proofs.Common.{◌≤◌, zero-le, arith, rules}
use Rattle.model.specs.Limits.{node_limit}
use Rattle.roster_parts.specs.Growth.{going_first, going_on, going_ends}
use Rattle.roster_routes.specs.Reordered.{ranking_at, rankings_in_order, ranking_turn, parts_done}
use Rattle.roster_routes.proofs.append_rankings_in_order.Goals.{After-byte_at-t, After-rankings_end-at}
use Rattle.roster_routes.proofs.append_rankings_in_order.Goals as goal

pub loop-i-init : goal.loop-i-init
loop-i-init c =
    let a = c.args in
    (zero-le, going_first (rankings_in_order a.file.now a.start a.order.now 0) a.count a.out.now)

-- the stand of a turn is one
stand : (p : After-byte_at-t) → (1 ≤ p.byte_at-t.result) × (p.byte_at-t.result ≤ node_limit)
stand p =
    let h = p.requires.2 p.loop-i.i p.loop-i-test.true in
    (omega (arith, h, p.byte_at-t.ensures), omega (arith, h, p.byte_at-t.ensures))

pub overflow_sub-t : goal.overflow_sub-t
overflow_sub-t c = let h = stand (goal.at.overflow_sub-t c).After-byte_at-t in omega (arith, h.0)

pub rankings_end-at-requires : goal.rankings_end-at-requires
rankings_end-at-requires c =
    let h = stand (goal.at.rankings_end-at-requires c).After-byte_at-t in
    (c.requires.0, omega (arith, h.0, h.1))

-- the place of a turn's list is near
near : (p : After-rankings_end-at) → p.rankings_end-at.result ≤ 80000
near p =
    let stand : (1 ≤ p.byte_at-t.result) × (p.byte_at-t.result ≤ node_limit) =
    let h = p.requires.2 p.loop-i.i p.loop-i-test.true in
    (omega (arith, h, p.byte_at-t.ensures), omega (arith, h, p.byte_at-t.ensures)) in
    let h = stand in
    omega (arith, p.rankings_end-at.ensures.1, h.0, h.1, p.requires.0)

pub overflow_add-at : goal.overflow_add-at
overflow_add-at c = let h = near (goal.at.overflow_add-at c).After-rankings_end-at in search rules

pub loop-i-preserved : goal.loop-i-preserved
loop-i-preserved c =
    let a = c.args in (
      omega arith,
      going_on (ranking_turn a.file.now a.start a.order.now a.count c.loop-i.i c.loop-i-test.true c.byte_at-t.result
          c.rankings_end-at.result c.byte_at-a.result c.byte_at-b.result c.part-list.result.now c.byte_at-t.ensures
          c.rankings_end-at.ensures.0 c.byte_at-a.ensures c.byte_at-b.ensures c.part-list.ensures)
          c.loop-i.invariant.1 c.append.ensures,
    )

pub returns : goal.returns
returns c =
    let a = c.args in
    going_ends (parts_done (ranking_at a.file.now a.start a.order.now) a.count c.loop-i.i c.loop-i-test.false) c.loop-i.invariant.1
