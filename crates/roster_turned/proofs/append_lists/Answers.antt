-- `roster_turned::append_lists` meets its contract: the lists from the i-th on are left. Assumes nothing.
use Rattle.std.proofs.Common.{◌+◌, ◌-◌, ◌*◌, ◌≤◌, zero-le, arith, ◌≡◌, sym, ap, ◌∙◌, not, ◌&&◌, [], rules}
use mathlib.Core.Bool.{and_assoc, and-true}
use Rattle.lists.specs.Keep.{all?, gather}
use Rattle.roster_positions.proofs.Stamping.{left_all}
use Rattle.roster_reading.specs.Layout.{layout_of}
use Rattle.roster_parts.specs.Growth.{going_starts, going_on, going_past, going_ends, grown_then}
use Rattle.roster_turned.specs.Blocks.{block_bytes, first_block, blocks_from, blocks_end, blocks_turn, blocks_done, end_turn, end_done, list_room, heads_few}
use Rattle.roster_turned.proofs.append_lists.Goals.{After-list_length}
use Rattle.roster_turned.proofs.append_lists.Goals as goal

pub loop-i-init : goal.loop-i-init
loop-i-init c =
    let a = c.args in
    let bs = blocks_from a.shifts a.ties a.file.now in
    let all = left_all a.count in (
      zero-le,
      omega arith,
      ap (λ k. blocks_end a.shifts a.ties a.file.now k a.start) all,
      going_past (ap (λ k. gather (block_bytes (layout_of (not a.shifts))) (bs k a.start)) all)
          (going_starts (gather (block_bytes (layout_of (not a.shifts))) (bs a.count a.start)) a.out.now),
      ap (λ k. all? first_block (bs k a.start)) (sym all),
    )

-- the bytes of this turn's list are few
small : (p : After-list_length) → let l = p in
    (l.entry_width-width.result * p.list_length.result ≤ 1020) × (l.heads-lengths.result ≤ 2)
small p =
    let a = p.args in
    let h = heads_few a.ties in (
      list_room a.shifts p.entry_width-width.result p.list_length.result p.entry_width-width.ensures
          p.list_length.ensures.1,
      omega (arith, p.heads-lengths.ensures),
    )

pub overflow_mul-size : goal.overflow_mul-size
overflow_mul-size c = let h = small (goal.at.overflow_mul-size c).After-list_length in search rules

pub overflow_add-at : goal.overflow_add-at
overflow_add-at c = let h = small (goal.at.overflow_add-at c).After-list_length in search rules

pub overflow_add-at-in-loop-i : goal.overflow_add-at-in-loop-i
overflow_add-at-in-loop-i c =
    let h = small (goal.at.overflow_add-at-in-loop-i c).After-list_length in search rules

pub overflow_add-at-in-loop-i-2 : goal.overflow_add-at-in-loop-i-2
overflow_add-at-in-loop-i-2 c =
    let h = small (goal.at.overflow_add-at-in-loop-i-2 c).After-list_length in search rules

pub loop-i-preserved : goal.loop-i-preserved
loop-i-preserved c =
    let a = c.args in
    let w = c.entry_width-width in
    let h = c.heads-lengths in
    let k = c.list_length in
    let from = blocks_from a.shifts a.ties a.file.now in
    let next = from (a.count - (c.loop-i.i + 1)) (c.loop-i.at + (h.result + w.result * k.result)) in
    let few = small (goal.at.loop-i-preserved c).After-list_length in
    let turned = blocks_turn a.shifts a.ties a.file.now a.count c.loop-i.i c.loop-i.at h.result w.result k.result
    c.loop-i-test.true h.ensures w.ensures k.ensures.0 c.part-head.result.now
    c.part-list.result.now c.part-head.ensures
    c.part-list.ensures in (
      omega arith,
      omega arith,
      c.loop-i.invariant.2 ∙ end_turn a.shifts a.ties a.file.now a.count c.loop-i.i c.loop-i.at h.result w.result k.result
          c.loop-i-test.true h.ensures w.ensures k.ensures.0,
      going_on (ap (gather (block_bytes (layout_of (not a.shifts)))) turned) c.loop-i.invariant.3
          (grown_then c.append.ensures c.append_entries-ones.ensures.grown),
      and_assoc c.loop-i.first c.append_entries-ones.result (all? first_block next)
          ∙ ap (λ b. c.loop-i.first && (b && all? first_block next)) c.append_entries-ones.ensures.ones
          ∙ ap (λ bs. c.loop-i.first && all? first_block bs) (sym turned) ∙ c.loop-i.invariant.4,
    )

pub returns : goal.returns
returns c =
    let a = c.args in
    let bs = blocks_from a.shifts a.ties a.file.now in
    let done : bs (a.count - c.loop-i.i) c.loop-i.at ≡ [] =
    blocks_done a.shifts a.ties a.file.now a.count c.loop-i.i c.loop-i.at c.loop-i-test.false in
    record {
      grown = going_ends (ap (gather (block_bytes (layout_of (not a.shifts)))) done) c.loop-i.invariant.3;
      first = sym (and-true c.loop-i.first) ∙ ap (λ z. c.loop-i.first && all? first_block z) (sym done) ∙ c.loop-i.invariant.4;
      end = sym (c.loop-i.invariant.2 ∙ end_done a.shifts a.ties a.file.now a.count c.loop-i.i c.loop-i.at c.loop-i-test.false);
      near = omega arith;
    }
