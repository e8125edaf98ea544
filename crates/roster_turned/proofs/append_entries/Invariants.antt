use Rattle.std.proofs.Common.{◌≤◌, ◌≡◌, ◌&&◌, drop}
use Rattle.lists.specs.Keep.{all?}
use Rattle.model_desk.specs.Seasons.{is_first}
use Rattle.roster_parts.specs.Growth.{Going}
use Rattle.roster_turned.specs.Blocks.{part_entries, other_bytes}
use Rattle.roster_turned.proofs.append_entries.Given as goal

abbrev pub invariant-loop-i : goal.invariant-loop-i
invariant-loop-i l =
    (l.i ≤ l.count) × Going (other_bytes l.shifts (part_entries l.shifts l.part)) (other_bytes l.shifts (drop l.i (part_entries l.shifts l.part))) l.initial.out l.out
    × ((l.first && all? is_first (drop l.i (part_entries l.shifts l.part))) ≡ all? is_first (part_entries l.shifts l.part))
