use Rattle.std.proofs.Common.{◌≤◌, ◌≡◌}
use Rattle.theory_offers.specs.ProfileInstance.{each_one}
use Rattle.arrays.specs.ArrayInstance.{at}
use Rattle.profile.proofs.each_one.Given as goal

abbrev pub invariant-loop-i : goal.invariant-loop-i
invariant-loop-i l = (l.i ≤ l.n) × (l.all ≡ each_one (at l.quota) l.i)
