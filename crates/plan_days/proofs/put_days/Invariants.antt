use Rattle.std.proofs.Common.{suc, ◌≤◌, ◌≡◌, map, ◌++◌, length, take, drop}
use Rattle.plan_days.proofs.put_days.Given as goal

abbrev pub invariant-loop-j : goal.invariant-loop-j
invariant-loop-j l = (l.j ≤ l.n) × (length l.out ≡ length l.initial.out) × (l.out ≡ map suc (take l.j l.day) ++ drop l.j l.initial.out)
