use Rattle.std.proofs.Common.{◌+◌, ◌-◌, ◌*◌, ◌≤◌, ◌≡◌}
use Rattle.roster_with.specs.Entering.{marks_in}
use Rattle.roster_with.specs.WithJoiner.{long_from}
use Rattle.roster_with.proofs.too_long.Given as goal

abbrev pub invariant-loop-j : goal.invariant-loop-j
invariant-loop-j l =
    (l.j ≤ l.n) × (l.at ≤ 20000 + 1022 * l.j) × (long_from (marks_in l.row) l.file l.n 1 l.start ≡ long_from (marks_in l.row) l.file (l.n - l.j) (l.j + 1) l.at)
