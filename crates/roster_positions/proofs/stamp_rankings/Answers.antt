-- `roster_positions::stamp_rankings` meets its contract: the lists that are left take both tables to what all of them do. Assumes nothing.
use Rattle.std.proofs.Common.{sym, ap, ◌∙◌, ◌*◌, zero-le, arith}
use Rattle.model.specs.Limits.{entry_width}
use Rattle.roster_positions.specs.Tables.{strict_stamped, next_ranks}
use Rattle.roster_positions.proofs.Stamping.{strict_turn, strict_done, next_turn, next_done, left_all, short}
use Rattle.roster_positions.proofs.stamp_rankings.Goals as goal

pub loop-j-init : goal.loop-j-init
loop-j-init c =
    let a = c.args in (
      zero-le,
      omega arith,
      ap (λ k. strict_stamped a.file.now k 0 a.start a.table.now) (left_all a.n),
      ap (λ k. next_ranks a.file.now k 0 a.start a.next.now) (left_all a.n),
    )

pub stamp-requires : goal.stamp-requires
stamp-requires c =
    (short (entry_width * c.byte_at-a.result) 510 c.part-list.result.now _ c.part-list.ensures (omega arith), omega arith)

pub loop-j-preserved : goal.loop-j-preserved
loop-j-preserved c =
    let a = c.args in
    let p = c.byte_at-a in
    let q = c.byte_at-b in (
      omega arith,
      omega arith,
      c.loop-j.invariant.2
          ∙ strict_turn a.file.now a.n c.loop-j.j c.loop-j.at c.loop-j-test.true p.result q.result p.ensures q.ensures
          c.part-list.result.now c.part-list.ensures c.loop-j.table _ c.stamp.ensures,
      c.loop-j.invariant.3
          ∙ next_turn a.file.now a.n c.loop-j.j c.loop-j.at c.loop-j-test.true p.result q.result p.ensures q.ensures c.loop-j.next,
    )

pub returns : goal.returns
returns c =
    let a = c.args in record {
      table_after = sym (c.loop-j.invariant.2 ∙ strict_done a.file.now a.n c.loop-j.j c.loop-j.at c.loop-j-test.false c.loop-j.table);
      next_after = sym (c.loop-j.invariant.3 ∙ next_done a.file.now a.n c.loop-j.j c.loop-j.at c.loop-j-test.false c.loop-j.next);
    }
