use Rattle.std.proofs.Common.{◌+◌, ◌-◌, ◌*◌, ◌≤◌, ◌≡◌, not, ◌&&◌}
use Rattle.lists.specs.Keep.{all?, gather}
use Rattle.roster_reading.specs.Layout.{layout_of}
use Rattle.roster_parts.specs.Growth.{Going}
use Rattle.roster_turned.specs.Blocks.{block_bytes, first_block, blocks_from, blocks_end}
use Rattle.roster_turned.proofs.append_lists.Given as goal

abbrev pub invariant-loop-i : goal.invariant-loop-i
invariant-loop-i l =
    (l.i ≤ l.count) × (l.at ≤ l.start + 1022 * l.i) × (blocks_end l.shifts l.ties l.file l.count l.start ≡ blocks_end l.shifts l.ties l.file (l.count - l.i) l.at)
    × Going (gather (block_bytes (layout_of (not l.shifts))) (blocks_from l.shifts l.ties l.file l.count l.start))
    (gather (block_bytes (layout_of (not l.shifts))) (blocks_from l.shifts l.ties l.file (l.count - l.i) l.at)) l.initial.out l.out
    × ((l.first && all? first_block (blocks_from l.shifts l.ties l.file (l.count - l.i) l.at)) ≡ all? first_block (blocks_from l.shifts l.ties l.file l.count l.start))
