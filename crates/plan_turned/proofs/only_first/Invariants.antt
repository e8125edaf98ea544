use Rattle.std.proofs.Common.{◌+◌, ◌-◌, ◌*◌, ◌≤◌, ◌≡◌}
use Rattle.lists.specs.Keep.{all?}
use Rattle.pair_bytes.specs.PairAt.{width_of}
use Rattle.plan_turned.specs.Pairs.{pairs_from, first_pair}
use Rattle.plan_turned.proofs.only_first.Given as goal

abbrev pub invariant-loop-k : goal.invariant-loop-k
invariant-loop-k l =
    (l.k ≤ l.n) × (l.at ≡ width_of l.shifts * l.k + 1) × (all? first_pair (pairs_from l.shifts l.file l.n 1) ≡ all? first_pair (pairs_from l.shifts l.file (l.n - l.k) l.at))
