-- `roster_positions::stamp` meets its contract: what is behind k is written. Assumes nothing.
use Rattle.std.proofs.Common.{◌≡◌, sym, ap, ap₂, ◌∙◌, ◌+◌, ◌-◌, ◌*◌, ◌/◌, ◌%◌, ◌<◌, arith, length, drop, get_or, set}
use Rattle.model.specs.Limits.{entry_width}
use Rattle.model.specs.Roster.{Entry}
use Rattle.roster_positions.specs.Tables.{entries_in, stamped}
use Rattle.roster_positions.proofs.Stamping.{stamped_none, stamped_turn}
use Rattle.roster_positions.proofs.stamp.Goals.{In-loop-k}
use Rattle.roster_positions.proofs.stamp.Goals as goal

pub loop-k-init : goal.loop-k-init
loop-k-init c =
    let a = c.args in
    let n = length a.list.now / entry_width in
    (omega arith, sym (stamped_none a.row a.list.now n (n + 1) a.table.now (omega arith)))

-- the number of a turn's entry is a byte
number_small : (c : In-loop-k) → get_or c.args.list.now (entry_width * (c.loop-k.k - 1)) 0 < 256
number_small c = omega (arith, c.type_inv.list (entry_width * (c.loop-k.k - 1)))

pub overflow_cast-x : goal.overflow_cast-x
overflow_cast-x c = omega (arith, number_small (goal.at.overflow_cast-x c).In-loop-k)

pub overflow_add-table : goal.overflow_add-table
overflow_add-table c = omega (arith, number_small (goal.at.overflow_add-table c).In-loop-k)

pub loop-k-preserved : goal.loop-k-preserved
loop-k-preserved c =
    let a = c.args in
    let at = entry_width * (c.loop-k.k - 1) in
    let x : Entry = record { number = get_or a.list.now at 0; shift = get_or a.list.now (at + 1) 0 } in (
      omega arith,
      ap₂ (λ z t. set t (a.row + (3 * ((x.number + 31) % 32) + z)) c.loop-k.k) c.shift_place-s.ensures c.loop-k.invariant.1
          ∙ stamped_turn a.row a.list.now c.loop-k.k a.table.now c.loop-k-test.true c.loop-k.invariant.0,
    )

pub returns : goal.returns
returns c =
    let a = c.args in
    let e : c.loop-k.k ≡ 0 = omega arith in
    c.loop-k.invariant.1 ∙ ap (λ k. stamped a.row (entries_in (drop (entry_width * k) a.list.now)) (k + 1) a.table.now) e
