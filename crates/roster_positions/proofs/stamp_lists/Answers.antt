-- `roster_positions::stamp_lists` meets its contract: the lists that are left take the table to what all of them do. Assumes nothing.
use Rattle.std.proofs.Common.{sym, ap, ◌∙◌, ◌*◌, zero-le, arith}
use Rattle.model.specs.Limits.{entry_width}
use Rattle.roster_positions.specs.Tables.{lists_stamped, lists_end}
use Rattle.roster_positions.proofs.Stamping.{end_turn, end_done, lists_turn, lists_done, left_all, short}
use Rattle.roster_positions.proofs.stamp_lists.Goals as goal

pub loop-i-init : goal.loop-i-init
loop-i-init c =
    let a = c.args in (
      zero-le,
      omega arith,
      ap (λ k. lists_end a.file.now k a.start) (left_all a.n),
      ap (λ k. lists_stamped a.file.now k 0 a.start a.table.now) (left_all a.n),
    )

pub stamp-requires : goal.stamp-requires
stamp-requires c =
    (short (entry_width * c.byte_at-k.result) 510 c.part-list.result.now _ c.part-list.ensures (omega arith), omega arith)

pub loop-i-preserved : goal.loop-i-preserved
loop-i-preserved c =
    let a = c.args in
    let b = c.byte_at-k in (
      omega arith,
      omega arith,
      c.loop-i.invariant.2 ∙ end_turn a.file.now a.n c.loop-i.i c.loop-i.at c.loop-i-test.true b.result b.ensures,
      c.loop-i.invariant.3
          ∙ lists_turn a.file.now a.n c.loop-i.i c.loop-i.at c.loop-i-test.true b.result b.ensures
          c.part-list.result.now c.part-list.ensures c.loop-i.table _ c.stamp.ensures,
    )

pub returns : goal.returns
returns c =
    let a = c.args in record {
      value = (sym (c.loop-i.invariant.2 ∙ end_done a.file.now a.n c.loop-i.i c.loop-i.at c.loop-i-test.false), omega arith);
      table_after = sym (c.loop-i.invariant.3 ∙ lists_done a.file.now a.n c.loop-i.i c.loop-i.at c.loop-i-test.false c.loop-i.table);
    }
