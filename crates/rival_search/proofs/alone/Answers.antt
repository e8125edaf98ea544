-- No node has room, and all prices are 6; or no edge before place i is better exchanged alone.
use Rattle.std.proofs.Common.{◌≡◌, refl, sym, ap, ◌∙◌, ◌<◌, zero-le, arith, ltb, lt-ltb, le-ltb}
use Rattle.lists.specs.Search.{low, low_hit, low_miss}
use Rattle.arrays.specs.ArrayInstance.{at, flag}
use Rattle.rival_tables.specs.Within.{some_below, none_below, none_is_below}
use Rattle.rival_search.specs.SearchView.{alone_price, alone_at, alone_full}
use Rattle.rival_search.proofs.alone.Goals.{In-loop-i}
use Rattle.rival_search.proofs.alone.Goals as goal

pub returns-then-is_none-2 : goal.returns-then-is_none-2
returns-then-is_none-2 c =
    let a = c.args in
    none_below a.plan.now.n (alone_at a.g.now.m a.g.now.sv a.g.now.st a.g.now.rank_s a.g.now.rank_t a.plan.now.has.now a.room.now.s a.room.now.t a.plan.now.edges.now a.plan.now.n)
    (omega (
      arith,
      alone_full a.g.now.m a.g.now.sv a.g.now.st a.g.now.rank_s a.g.now.rank_t a.plan.now.has.now a.room.now.s a.room.now.t a.plan.now.edges.now a.plan.now.n c.requires.2
          c.requires.3 (none_is_below 32 (low (flag a.room.now.s) 32) c.if-is_none.ensures c.first_room.ensures) (none_is_below 32 (low (flag a.room.now.t) 32) c.if-is_none-2.ensures c.first_room-then-is_none.ensures),
    ))

pub loop-i-init : goal.loop-i-init
unfolding low
loop-i-init c = (zero-le, refl)

-- the edge at place i is one
edge : (c : In-loop-i) → let s = c in at s.args.plan.now.edges.now c.loop-i.i < s.args.g.now.m
edge c = c.requires.6 c.loop-i.i c.loop-i-test.true

pub alone_price-price-requires : goal.alone_price-price-requires
alone_price-price-requires c = let p = c.requires in (p.0, edge (goal.at.alone_price-price-requires c).In-loop-i, p.2, p.3, p.4, p.5)

pub returns-then-price-lt4 : goal.returns-then-price-lt4
returns-then-price-lt4 c =
    let a = c.args in
    let p = c.alone_price-price in
    some_below a.plan.now.n c.loop-i.i (alone_at a.g.now.m a.g.now.sv a.g.now.st a.g.now.rank_s a.g.now.rank_t a.plan.now.has.now a.room.now.s a.room.now.t a.plan.now.edges.now a.plan.now.n)
    (sym
    (low_hit (λ i. ltb (alone_price a.g.now.m a.g.now.sv a.g.now.st a.g.now.rank_s a.g.now.rank_t a.plan.now.has.now a.room.now.s a.room.now.t (at a.plan.now.edges.now i)) 4)
    c.loop-i.i a.plan.now.n c.loop-i.invariant.1 (ap (λ z. ltb z 4) (sym p.ensures) ∙ lt-ltb p.result 4 c.if-price-lt4.true) c.loop-i-test.true)) (omega arith)

pub loop-i-preserved : goal.loop-i-preserved
loop-i-preserved c =
    let a = c.args in
    let p = c.alone_price-price in (
      omega (arith, c.loop-i-test.true),
      low_miss (λ i. ltb (alone_price a.g.now.m a.g.now.sv a.g.now.st a.g.now.rank_s a.g.now.rank_t a.plan.now.has.now a.room.now.s a.room.now.t (at a.plan.now.edges.now i)) 4)
          c.loop-i.i c.loop-i.invariant.1 (ap (λ z. ltb z 4) (sym p.ensures) ∙ le-ltb p.result 4 c.if-price-lt4.false),
    )

pub returns : goal.returns
returns c =
    let a = c.args in
    let e : c.loop-i.i ≡ a.plan.now.n = omega (arith, c.loop-i-test.false, c.loop-i.invariant.0) in
    none_below a.plan.now.n (alone_at a.g.now.m a.g.now.sv a.g.now.st a.g.now.rank_s a.g.now.rank_t a.plan.now.has.now a.room.now.s a.room.now.t a.plan.now.edges.now a.plan.now.n)
    (omega (arith, e, c.loop-i.invariant.1, ap (alone_at a.g.now.m a.g.now.sv a.g.now.st a.g.now.rank_s a.g.now.rank_t a.plan.now.has.now a.room.now.s a.room.now.t a.plan.now.edges.now) e))

pub overflow_cast-plan : goal.overflow_cast-plan
overflow_cast-plan c = omega (arith, edge (goal.at.overflow_cast-plan c).In-loop-i, c.requires.0)

pub loop-i-smaller : goal.loop-i-smaller
loop-i-smaller c = omega (arith, c.loop-i-test.true)
