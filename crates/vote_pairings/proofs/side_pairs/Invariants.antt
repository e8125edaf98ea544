use Rattle.vote_pairings.proofs.Writing.{Writing}
use Rattle.vote_pairings.proofs.side_pairs.Given as goal

abbrev pub invariant-loop-v : goal.invariant-loop-v
invariant-loop-v l = Writing l.n l.a l.b l.shared l.quota l.initial.out l.from l.out l.place l.v
