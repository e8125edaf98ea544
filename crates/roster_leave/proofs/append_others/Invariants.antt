use Rattle.std.proofs.Common.{◌≤◌}
use Rattle.roster_positions.specs.Rows.{bytes_of}
use Rattle.roster_parts.specs.Growth.{Going}
use Rattle.roster_leave.specs.Others.{others_from}
use Rattle.roster_leave.proofs.append_others.Given as goal

abbrev pub invariant-loop-i : goal.invariant-loop-i
invariant-loop-i l =
    (l.i ≤ l.count) × Going (bytes_of (others_from l.number l.list 0)) (bytes_of (others_from l.number l.list l.i)) l.initial.out l.out
