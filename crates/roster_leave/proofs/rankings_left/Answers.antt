-- `roster_leave::rankings_left` meets its contract: the lists from the j-th on are left. Assumes nothing.
use Rattle.std.proofs.Common.{◌*◌, zero-le, arith}
use Rattle.model.specs.Limits.{entry_width}
use Rattle.roster_positions.proofs.Stamping.{short}
use Rattle.roster_parts.specs.Growth.{holds_all, going_first, going_on, going_ends}
use Rattle.roster_parts.specs.Rankings.{rankings_from, rankings_turn, rankings_done}
use Rattle.roster_leave.specs.LeftParts.{ranking_left}
use Rattle.roster_leave.proofs.rankings_left.Goals as goal

pub loop-j-init : goal.loop-j-init
loop-j-init c =
    let a = c.args in (
      zero-le,
      omega arith,
      going_first (λ k. rankings_from (λ j. ranking_left a.number) a.file.now k 1 a.start) a.n c.new-out.result,
    )

pub append_ranking-requires : goal.append_ranking-requires
append_ranking-requires c =
    let p = c.byte_at-a in
    let q = c.byte_at-b in
    let x = c.part-strict in
    let y = c.part-tied in (
      short (entry_width * p.result) 510 x.result.now _ x.ensures (omega arith),
      short (entry_width * q.result) 510 y.result.now _ y.ensures (omega arith),
    )

pub loop-j-preserved : goal.loop-j-preserved
loop-j-preserved c =
    let a = c.args in
    let p = c.byte_at-a in
    let q = c.byte_at-b in (
      omega arith,
      omega arith,
      going_on
          (rankings_turn (λ j. ranking_left a.number) a.file.now a.n c.loop-j.j c.loop-j.at
          c.loop-j-test.true
          p.result q.result p.ensures q.ensures c.part-strict.result.now c.part-tied.result.now
          c.part-strict.ensures
          c.part-tied.ensures)
          c.loop-j.invariant.2 c.append_ranking.ensures,
    )

pub returns : goal.returns
returns c =
    let a = c.args in
    holds_all c.new-out.ensures
    (going_ends (rankings_done (λ j. ranking_left a.number) a.file.now a.n c.loop-j.j c.loop-j.at c.loop-j-test.false) c.loop-j.invariant.2)
