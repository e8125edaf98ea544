use Rattle.std.proofs.Common.{◌-◌, ◌≤◌}
use Rattle.model.specs.Limits.{shift_limit}
use Rattle.roster_positions.specs.Rows.{bytes_of}
use Rattle.roster_parts.specs.Growth.{Going}
use Rattle.roster_with.specs.Entering.{marks_in, shifts_from, shifts_at, joiner_in}
use Rattle.roster_with.proofs.append_joiner.Given as goal

abbrev pub invariant-loop-k : goal.invariant-loop-k
invariant-loop-k l =
    (l.k ≤ shift_limit)
    × Going (bytes_of (joiner_in l.joiner (shifts_at (marks_in l.row) l.stand))) (bytes_of (joiner_in l.joiner (shifts_from (marks_in l.row) l.stand l.k (shift_limit - l.k))))
    l.initial.out l.out
