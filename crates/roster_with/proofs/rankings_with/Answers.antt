-- `roster_with::rankings_with` meets its contract: the lists from the j-th on are left. Assumes nothing.
use Rattle.std.proofs.Common.{zero-le, arith}
use Rattle.roster_parts.specs.Growth.{holds_all, going_first, going_on, going_ends}
use Rattle.roster_parts.specs.Rankings.{rankings_from, rankings_turn, rankings_done}
use Rattle.roster_with.specs.Entering.{marks_in, entering}
use Rattle.roster_with.proofs.rankings_with.Goals as goal

pub loop-j-init : goal.loop-j-init
loop-j-init c =
    let a = c.args in
    let w = entering a.joiner (marks_in a.row.now) in (
      zero-le,
      omega arith,
      going_first (λ k. rankings_from w a.file.now k 1 a.start) a.n c.new-out.result,
    )

pub append_ranking-requires : goal.append_ranking-requires
append_ranking-requires c =
    (omega arith, omega (arith, c.loop-j-test.true))

pub loop-j-preserved : goal.loop-j-preserved
loop-j-preserved c =
    let a = c.args in
    let p = c.byte_at-a in
    let q = c.byte_at-b in
    let x = c.part-strict in
    let y = c.part-tied in
    let h = c.loop-j-test.true in (
      omega (arith, h),
      omega (arith, c.loop-j.invariant.1, p.type_inv, q.type_inv),
      going_on
          (rankings_turn (entering a.joiner (marks_in a.row.now)) a.file.now a.n c.loop-j.j c.loop-j.at h
          p.result q.result p.ensures q.ensures x.result.now y.result.now x.ensures y.ensures)
          c.loop-j.invariant.2 c.append_ranking.ensures,
    )

pub returns : goal.returns
returns c =
    let a = c.args in
    holds_all c.new-out.ensures
    (going_ends (rankings_done (entering a.joiner (marks_in a.row.now)) a.file.now a.n c.loop-j.j c.loop-j.at c.loop-j-test.false) c.loop-j.invariant.2)
