use Rattle.std.proofs.Common.{◌+◌, ◌≤◌, ◌≡◌, length}
use Rattle.roster_leave.specs.Others.{others_from}
use Rattle.roster_leave.proofs.others.Given as goal

abbrev pub invariant-loop-i : goal.invariant-loop-i
invariant-loop-i l = (l.i ≤ l.n) × (l.k ≤ l.i) × (l.k + length (others_from l.number l.list l.i) ≡ length (others_from l.number l.list 0))
