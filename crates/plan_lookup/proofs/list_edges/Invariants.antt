use Rattle.std.proofs.Common.{◌≡◌, ◌≤◌, length}
use Rattle.model.specs.Limits.{plan_limit}
use Rattle.arrays.specs.ArrayInstance.{flag}
use Rattle.arrays.specs.Kept.{Kept}
use Rattle.plan_lookup.proofs.list_edges.Given as goal

abbrev pub invariant-loop-e : goal.invariant-loop-e
invariant-loop-e l = (l.e ≤ l.m) × (length l.edges ≡ plan_limit) × Kept (flag l.chosen) l.edges l.n l.e
