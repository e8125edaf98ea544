-- The records of the entries below i are written.
use Rattle.std.proofs.Common.{◌<◌, arith, add-one, ◌≡◌, length}
use Rattle.model.specs.Limits.{entry_limit}
use Rattle.arrays.specs.ArrayInstance.{at}
use Rattle.arrays.specs.Tally.{byte_one}
use Rattle.diary.specs.FlatDiary.{flat_size, fate_byte}
use Rattle.diary_records.specs.TraceRecords.{telling_first, telling_next, told}
use Rattle.diary_records.proofs.flat_records.Goals.{In-loop-i}
use Rattle.diary_records.proofs.flat_records.Goals as goal

pub loop-i-init : goal.loop-i-init
loop-i-init c = telling_first _ _ _ _

-- in a turn there is room for the record, and the entry's edge is one of the arrays
room : (c : In-loop-i) → (c.loop-i.i < entry_limit) × (length c.loop-i.flat ≡ flat_size)
room c = (omega (arith, c.requires.few), c.loop-i.invariant.size)

edge : (c : In-loop-i) → at c.args.trace.edges c.loop-i.i < entry_limit
edge c = c.requires.edges c.loop-i.i c.loop-i-test.true

pub overflow_add-flat : goal.overflow_add-flat
overflow_add-flat c = omega (arith, c.requires.low_sv _ (edge (goal.at.overflow_add-flat c).In-loop-i))

pub overflow_add-flat-in-loop-i-2 : goal.overflow_add-flat-in-loop-i-2
overflow_add-flat-in-loop-i-2 c = omega (arith, c.requires.low_st _ (edge (goal.at.overflow_add-flat-in-loop-i-2 c).In-loop-i))

pub loop-i-preserved : goal.loop-i-preserved
loop-i-preserved c =
    let a = c.args in
    let l = c.loop-i in
    telling_next a.sv.now a.st.now a.sh.now a.trace l.i l.flat _ l.invariant c.loop-i-test.true
    (simp (c.fixes-fix.ensures, fate_byte, add-one))

pub returns : goal.returns
returns c =
    let a = c.args in
    let l = c.loop-i in
    told a.sv.now a.st.now a.sh.now a.trace l.i l.flat l.invariant c.loop-i-test.false c.requires.few

pub offset_bounds-trace-i : goal.offset_bounds-trace-i
offset_bounds-trace-i c = omega (arith, room (goal.at.offset_bounds-trace-i c).In-loop-i)

pub bounds-trace-i : goal.bounds-trace-i
bounds-trace-i c = omega (arith, room (goal.at.bounds-trace-i c).In-loop-i)

pub bounds-trace-i-in-loop-i : goal.bounds-trace-i-in-loop-i
bounds-trace-i-in-loop-i c = omega (arith, room (goal.at.bounds-trace-i-in-loop-i c).In-loop-i)

pub overflow_mul-b : goal.overflow_mul-b
overflow_mul-b c = omega (arith, room (goal.at.overflow_mul-b c).In-loop-i)

pub overflow_sub-flat : goal.overflow_sub-flat
overflow_sub-flat c = omega (arith, byte_one c.fixes-fix.result)

pub bounds-flat-b : goal.bounds-flat-b
bounds-flat-b c = omega (arith, room (goal.at.bounds-flat-b c).In-loop-i)

pub bounds-sv-e : goal.bounds-sv-e
bounds-sv-e c = edge (goal.at.bounds-sv-e c).In-loop-i

pub overflow_add-flat-in-loop-i : goal.overflow_add-flat-in-loop-i
overflow_add-flat-in-loop-i c = omega (arith, room (goal.at.overflow_add-flat-in-loop-i c).In-loop-i)

pub bounds-flat-b-in-loop-i : goal.bounds-flat-b-in-loop-i
bounds-flat-b-in-loop-i c = omega (arith, room (goal.at.bounds-flat-b-in-loop-i c).In-loop-i)

pub bounds-st-e : goal.bounds-st-e
bounds-st-e c = edge (goal.at.bounds-st-e c).In-loop-i

pub overflow_add-flat-in-loop-i-3 : goal.overflow_add-flat-in-loop-i-3
overflow_add-flat-in-loop-i-3 c = omega (arith, room (goal.at.overflow_add-flat-in-loop-i-3 c).In-loop-i)

pub bounds-flat-b-in-loop-i-2 : goal.bounds-flat-b-in-loop-i-2
bounds-flat-b-in-loop-i-2 c = omega (arith, room (goal.at.bounds-flat-b-in-loop-i-2 c).In-loop-i)

pub bounds-sh-e : goal.bounds-sh-e
bounds-sh-e c = edge (goal.at.bounds-sh-e c).In-loop-i

pub overflow_add-flat-in-loop-i-4 : goal.overflow_add-flat-in-loop-i-4
overflow_add-flat-in-loop-i-4 c = omega (arith, room (goal.at.overflow_add-flat-in-loop-i-4 c).In-loop-i)

pub bounds-flat-b-in-loop-i-3 : goal.bounds-flat-b-in-loop-i-3
bounds-flat-b-in-loop-i-3 c = omega (arith, room (goal.at.bounds-flat-b-in-loop-i-3 c).In-loop-i)

pub overflow_add-flat-in-loop-i-5 : goal.overflow_add-flat-in-loop-i-5
overflow_add-flat-in-loop-i-5 c = omega (arith, room (goal.at.overflow_add-flat-in-loop-i-5 c).In-loop-i)

pub bounds-flat-b-in-loop-i-4 : goal.bounds-flat-b-in-loop-i-4
bounds-flat-b-in-loop-i-4 c = omega (arith, room (goal.at.bounds-flat-b-in-loop-i-4 c).In-loop-i)

pub loop-i-smaller : goal.loop-i-smaller
loop-i-smaller c = omega (arith, room (goal.at.loop-i-smaller c).In-loop-i)
