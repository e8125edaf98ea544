use Rattle.std.proofs.Common.{◌≤◌, ◌≡◌}
use Rattle.theory_offers.specs.ProfileInstance.{plain_edges}
use Rattle.arrays.specs.ArrayInstance.{at, flag}
use Rattle.profile.proofs.plain_edges.Given as goal

abbrev pub invariant-loop-e : goal.invariant-loop-e
invariant-loop-e l = (l.e ≤ l.m) × (l.all ≡ plain_edges (flag l.tied) (at l.sh) l.e)
