-- The list of a node along its links: the edges before e stand in their places.
use Rattle.std.proofs.Common.{◌≡◌, ◌≤◌, ◌<◌, arith, length}
use Rattle.model.specs.Limits.{entry_limit}
use Rattle.arrays.specs.ArrayInstance.{at}
use Rattle.arrays.specs.Linked.{first_head, first_next}
use Rattle.reduction_lists.specs.Listed.{table_size, spelling_starts, spelling_room, spelling_on, spelling_ends}
use Rattle.reduction_lists.proofs.put.Goals.{At-loop-e, In-loop-e}
use Rattle.reduction_lists.proofs.put.Goals as goal

pub overflow_cast-e : goal.overflow_cast-e
overflow_cast-e c =
    let p = c.requires in
    let a = c.args in
    omega (arith, p.1.edges, (first_head a.m a.end.now a.head.now a.next.now p.1 a.v p.0).inside)

pub loop-e-init : goal.loop-e-init
loop-e-init c =
    let p = c.requires in
    let a = c.args in
    spelling_starts p.1 a.v a.k a.table.now p.2 p.0 p.3

-- the next place is in the table, and has room for an edge
room : (c : At-loop-e) → (c.loop-e.i < table_size) × (length c.loop-e.table ≡ table_size) × (c.args.m ≤ entry_limit)
room c =
    let a = c.args in
    let p = c.requires in
    let l = c.loop-e in
    (spelling_room p.1 a.v a.k a.table.now p.2 l.e l.i l.table l.invariant, l.invariant.size, p.1.edges)

-- the link of an edge goes on
onward : (c : In-loop-e) → let a = c.args in let e = c.loop-e.e in
    (at a.next.now e ≤ a.m) × (e < at a.next.now e)
onward c =
    let a = c.args in
    let l = c.loop-e in
    let t = c.loop-e-test.true in
    let F = first_next a.m a.end.now a.head.now a.next.now c.requires.1 a.v l.e t (l.invariant.here t) in
    (F.inside, omega (arith, F.onward (omega arith)))

pub overflow_cast-e-in-loop-e : goal.overflow_cast-e-in-loop-e
overflow_cast-e-in-loop-e c = omega (arith, room (goal.at.overflow_cast-e-in-loop-e c).At-loop-e, onward (goal.at.overflow_cast-e-in-loop-e c).In-loop-e)

pub loop-e-smaller : goal.loop-e-smaller
loop-e-smaller c = omega (arith, onward (goal.at.loop-e-smaller c).In-loop-e)

pub loop-e-preserved : goal.loop-e-preserved
loop-e-preserved c =
    let p = c.requires in
    let a = c.args in
    let l = c.loop-e in
    spelling_on p.1 a.v a.k a.table.now p.2 l.e l.i l.table l.invariant c.loop-e-test.true

pub returns : goal.returns
returns c =
    let p = c.requires in
    let a = c.args in
    let l = c.loop-e in
    spelling_ends p.1 a.v a.k a.table.now p.2 l.e l.i l.table l.invariant c.loop-e-test.false

pub overflow_cast-table : goal.overflow_cast-table
overflow_cast-table c = omega (arith, room (goal.at.overflow_cast-table c).At-loop-e, c.loop-e-test.true)

pub offset_bounds-table-i : goal.offset_bounds-table-i
offset_bounds-table-i c = omega (arith, room (goal.at.offset_bounds-table-i c).At-loop-e)

pub bounds-table-i : goal.bounds-table-i
bounds-table-i c = omega (arith, room (goal.at.bounds-table-i c).At-loop-e)

pub overflow_add-i : goal.overflow_add-i
overflow_add-i c = omega (arith, room (goal.at.overflow_add-i c).At-loop-e)

pub overflow_cast-table-2 : goal.overflow_cast-table-2
overflow_cast-table-2 c = omega (arith, room (goal.at.overflow_cast-table-2 c).At-loop-e)

pub offset_bounds-table-i-2 : goal.offset_bounds-table-i-2
offset_bounds-table-i-2 c = omega (arith, room (goal.at.offset_bounds-table-i-2 c).At-loop-e)

pub bounds-table-i-2 : goal.bounds-table-i-2
bounds-table-i-2 c = omega (arith, room (goal.at.bounds-table-i-2 c).At-loop-e)

pub overflow_add-result : goal.overflow_add-result
overflow_add-result c = omega (arith, room (goal.at.overflow_add-result c).At-loop-e)
