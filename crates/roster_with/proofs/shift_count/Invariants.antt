use Rattle.std.proofs.Common.{◌+◌, ◌-◌, ◌≤◌, ◌≡◌, length}
use Rattle.model.specs.Limits.{shift_limit}
use Rattle.roster_with.specs.Entering.{marks_in, shifts_from, shifts_at}
use Rattle.roster_with.proofs.shift_count.Given as goal

abbrev pub invariant-loop-k : goal.invariant-loop-k
invariant-loop-k l =
    (l.k ≤ shift_limit) × (l.n ≤ l.k) × (l.n + length (shifts_from (marks_in l.row) l.stand l.k (shift_limit - l.k)) ≡ length (shifts_at (marks_in l.row) l.stand))
