use Rattle.std.proofs.Common.{◌≡◌, true, ℕ, ◌+◌, ◌*◌, ◌≤◌, ◌<◌, min}
use Rattle.arrays.specs.ArrayInstance.{at}
use Rattle.rival_certificate.proofs.within.Given as goal

abbrev pub invariant-loop-c : goal.invariant-loop-c
invariant-loop-c l = (l.c ≤ l.n * 64) × (l.ok ≡ true → (e : ℕ) → e < l.c → at l.d e ≤ min (at l.arcs e) 65 + 62)
