use Rattle.std.proofs.Common.{◌+◌, ◌≤◌, get_or}
use Rattle.arrays.specs.Passes.{Fill}
use Rattle.instance.proofs.quotas.Given as goal

abbrev pub invariant-loop-i : goal.invariant-loop-i
invariant-loop-i l = (l.i ≤ l.n) × Fill 0 32 l.q l.i (λ i. get_or l.file (l.at + i) 0)
