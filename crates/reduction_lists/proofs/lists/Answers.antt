-- The lists of the nodes below v are made.
use Rattle.std.proofs.Common.{◌≡◌, subst, ◌+◌, ◌<◌, arith, length, length-set}
use Rattle.reduction_lists.specs.Listed.{Listing, table_size, before, listing_none, listing_room, listing_next}
use Rattle.reduction_lists.proofs.lists.Goals.{In-loop-v}
use Rattle.reduction_lists.proofs.lists.Goals as goal

pub loop-v-init : goal.loop-v-init
loop-v-init c = (omega arith, listing_none c.args.m c.args.end.now c.args.table.now c.requires.2)

room : (c : In-loop-v) → let l = c.loop-v in
    (l.k + before c.args.end.now l.v c.args.m < table_size) × (l.v < 32) × (length l.table ≡ table_size)
room c =
    let a = c.args in
    let l = c.loop-v in (
      listing_room a.m a.end.now a.table.now l.v l.k l.table l.invariant.1 c.loop-v-test.true c.requires.0,
      c.loop-v-test.true,
      l.invariant.1.size,
    )

pub overflow_cast-table : goal.overflow_cast-table
overflow_cast-table c = omega (arith, room (goal.at.overflow_cast-table c).In-loop-v)

pub offset_bounds-table-v : goal.offset_bounds-table-v
offset_bounds-table-v c = omega (arith, room (goal.at.offset_bounds-table-v c).In-loop-v)

pub bounds-table-v : goal.bounds-table-v
bounds-table-v c = omega (arith, room (goal.at.bounds-table-v c).In-loop-v)

pub put-k-requires : goal.put-k-requires
put-k-requires c =
    let r = room (goal.at.put-k-requires c).In-loop-v in (r.1, c.links-head.ensures.1, r.0, simp length-set r.2)

pub loop-v-preserved : goal.loop-v-preserved
loop-v-preserved c =
    let a = c.args in
    let l = c.loop-v in (
      omega (arith, c.loop-v-test.true),
      listing_next a.m a.end.now a.table.now l.v l.k l.table l.invariant.1 c.loop-v-test.true _ _ c.put-k.ensures,
    )

pub returns : goal.returns
returns c =
    let a = c.args in
    let l = c.loop-v in
    let z : l.v ≡ 32 = omega (arith, l.invariant.0, c.loop-v-test.false) in
    let S = subst (λ x. Listing a.m a.end.now a.table.now x l.k l.table) z l.invariant.1 in
    (S.size, record { head = _; next = _; linked = c.links-head.ensures.1; nodes = S.nodes }, S.kept)

pub overflow_add-table : goal.overflow_add-table
overflow_add-table c = omega (arith, room (goal.at.overflow_add-table c).In-loop-v)
