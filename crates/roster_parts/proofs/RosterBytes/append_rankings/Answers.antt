-- `roster_parts::RosterBytes::append_rankings` meets its contract: the lists from the j-th on are left. Assumes nothing.
use Rattle.std.proofs.Common.{zero-le, arith}
use Rattle.roster_parts.specs.Growth.{going_first, going_on, going_ends, grown_then}
use Rattle.roster_parts.specs.Mapped.{rankings_under, rankings_turn, rankings_done}
use Rattle.roster_parts.proofs.RosterBytes.append_rankings.Goals as goal

pub loop-j-preserved : goal.loop-j-preserved
loop-j-preserved c =
    let y = c.byte_at-b in
    let x = c.byte_at-a in
    let a = c.args in (
      omega arith,
      omega (arith, c.loop-j.invariant.1, x.type_inv, y.type_inv),
      going_on (rankings_turn a.table.now a.file.now a.count c.loop-j.j c.loop-j.at c.loop-j-test.true x.result y.result
          c.part-list.result.now x.ensures y.ensures c.part-list.ensures) c.loop-j.invariant.2
          (grown_then (grown_then c.push.ensures c.push-in-loop-j.ensures)
          c.append_entries.ensures),
    )

pub returns : goal.returns
returns c =
    let a = c.args in
    going_ends (rankings_done a.table.now a.file.now a.count c.loop-j.j c.loop-j.at c.loop-j-test.false) c.loop-j.invariant.2

pub loop-j-init : goal.loop-j-init
loop-j-init c =
    let a = c.args in
    (zero-le, omega arith, going_first (λ k. rankings_under a.table.now a.file.now k a.start) a.count a.self.now)
