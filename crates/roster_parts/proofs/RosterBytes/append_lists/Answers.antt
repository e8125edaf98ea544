-- `roster_parts::RosterBytes::append_lists` meets its contract: the lists from the i-th on are left. Assumes nothing.
use Rattle.std.proofs.Common.{zero-le, arith}
use Rattle.roster_parts.specs.Growth.{going_first, going_on, going_ends, grown_then}
use Rattle.roster_parts.specs.Mapped.{lists_under, lists_turn, lists_done}
use Rattle.roster_parts.proofs.RosterBytes.append_lists.Goals as goal

pub loop-i-preserved : goal.loop-i-preserved
loop-i-preserved c =
    let k = c.byte_at-k in
    let a = c.args in (
      omega arith,
      omega (arith, c.loop-i.invariant.1, k.type_inv),
      going_on (lists_turn a.table.now a.file.now a.count c.loop-i.i c.loop-i.at c.loop-i-test.true k.result c.part-list.result.now
          k.ensures c.part-list.ensures) c.loop-i.invariant.2 (grown_then c.push.ensures c.append_entries.ensures),
    )

pub returns : goal.returns
returns c =
    let a = c.args in
    going_ends (lists_done a.table.now a.file.now a.count c.loop-i.i c.loop-i.at c.loop-i-test.false) c.loop-i.invariant.2

pub loop-i-init : goal.loop-i-init
loop-i-init c =
    let a = c.args in
    (zero-le, omega arith, going_first (λ k. lists_under a.table.now a.file.now k a.start) a.count a.self.now)
