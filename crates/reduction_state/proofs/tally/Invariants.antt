use Rattle.std.proofs.Common.{◌≡◌, ℕ, ◌≤◌, length}
use Rattle.arrays.specs.ArrayInstance.{at, flag}
use Rattle.arrays.specs.Tally.{keyed}
use Rattle.reduction_state.proofs.tally.Given as goal

abbrev pub invariant-loop-i : goal.invariant-loop-i
invariant-loop-i l = (l.i ≤ l.m) × (length l.t ≡ 32) × ((v : ℕ) → at l.t v ≡ keyed (at l.end) (flag l.p) v l.i)
