use Rattle.std.proofs.Common.{◌≤◌, ◌≡◌, length, take}
use Rattle.theory_votes.specs.Keys.{key_bytes}
use Rattle.vote_pairings.specs.SideBytes.{written}
use Rattle.vote_pairings.proofs.put_pairs.Given as goal

abbrev pub invariant-loop-i : goal.invariant-loop-i
invariant-loop-i l = (l.i ≤ l.n) × (l.out ≡ written l.from (key_bytes (take l.i l.keys)) l.initial.out) × (length l.out ≡ length l.initial.out)
