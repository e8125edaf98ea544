use Rattle.std.proofs.Common.{◌+◌, ◌*◌, ◌≤◌, ◌≡◌, not, length}
use Rattle.pair_bytes.specs.PairAt.{width_of}
use Rattle.plan_turned.specs.Pairs.{Writing}
use Rattle.plan_turned.proofs.copy_pairs.Given as goal

abbrev pub invariant-loop-k : goal.invariant-loop-k
invariant-loop-k l =
    (l.k ≤ l.n) × (l.at ≡ width_of l.shifts * l.k + 1) × (l.to ≡ width_of (not l.shifts) * l.k + 1) × (length l.out ≡ length l.initial.out) × Writing l.shifts l.file l.n l.k l.at l.to l.initial.out l.out
