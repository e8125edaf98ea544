use Rattle.std.proofs.Common.{◌≡◌, ℕ, ◌≤◌, length, ltb}
use Rattle.arrays.specs.ArrayInstance.{flag}
use Rattle.reduction_state.proofs.all.Given as goal

abbrev pub invariant-loop-i : goal.invariant-loop-i
invariant-loop-i l = (l.i ≤ l.m) × (length l.o ≡ 1024) × ((e : ℕ) → flag l.o e ≡ ltb e l.i)
