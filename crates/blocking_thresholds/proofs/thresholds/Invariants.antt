use Rattle.std.proofs.Common.{ℕ, ◌≤◌, ◌<◌, ◌≡◌, cond, List, length, get_or, ltb}
use Rattle.arrays.specs.ArrayInstance.{at}
use Rattle.blocking_thresholds.proofs.thresholds.Given as goal

abbrev pub entry : List ℕ → List ℕ → List ℕ → ℕ → ℕ
entry d quota w v = cond (ltb (at d v) (at quota v)) 33 (at w v)

abbrev pub invariant-loop-i : goal.invariant-loop-i
invariant-loop-i l = (l.i ≤ 32) × (length l.o ≡ 32) × ((e : ℕ) → e < l.i → get_or l.o e 0 ≡ entry l.d l.quota l.w e)
