-- An offer: the edge that the stand keeps settles which of the three cases it is, and who is touched.
use Rattle.std.proofs.Common.{ℕ, ◌<◌, arith}
use Rattle.model.specs.Limits.{node_limit, empty_rank}
use Rattle.arrays.specs.ArrayInstance.{at}
use Rattle.offers.specs.Turned.{turned_first, turned_instead, turned_away_law}
use Rattle.offers.proofs.turn.Goals.{Start}
use Rattle.offers.proofs.turn.Goals as goal

-- the surveyor and the stand of e
by : (s : Start) → at s.args.g.now.sv s.args.e < node_limit
by s = s.requires.m_le_entry_limit.2 s.args.e s.requires.m_le_entry_limit.1

to : (s : Start) → at s.args.g.now.st s.args.e < node_limit
to s = s.requires.m_le_entry_limit.3 s.args.e s.requires.m_le_entry_limit.1

-- the edge that the stand keeps; its surveyor and its rank there, if it is one
abbrev there : Start → ℕ
there s = at s.args.standing.now.kept (at s.args.g.now.st s.args.e)

other : (s : Start) → there s < s.args.g.now.m → at s.args.g.now.sv (there s) < node_limit
other s l = s.requires.m_le_entry_limit.2 (there s) l

rank : (s : Start) → there s < s.args.g.now.m → at s.args.g.now.rank_s (there s) < empty_rank
rank s l = s.requires.m_le_entry_limit.4 (there s) l

pub overflow_cast-s : goal.overflow_cast-s
overflow_cast-s c = omega (arith, by (goal.at.overflow_cast-s c).Start)

pub overflow_cast-t : goal.overflow_cast-t
overflow_cast-t c = omega (arith, to (goal.at.overflow_cast-t c).Start)

pub overflow_cast-d : goal.overflow_cast-d
overflow_cast-d c = omega (arith, c.requires.sized.1 (at c.args.g.now.st c.args.e) (to (goal.at.overflow_cast-d c).Start))

pub overflow_cast-u : goal.overflow_cast-u
overflow_cast-u c = omega (arith, other (goal.at.overflow_cast-u c).Start (omega arith))

pub returns-then-g-d : goal.returns-then-g-d
returns-then-g-d c = turned_first c.args.standing.now c.args.e (omega arith)

pub returns-then-g-e : goal.returns-then-g-e
returns-then-g-e c = turned_instead c.args.standing.now c.args.e (omega arith) (omega arith) (omega (arith, c.min.ensures)) (omega (arith, c.min.ensures))

pub returns : goal.returns
returns c = turned_away_law c.args.standing.now c.args.e (omega arith) (omega arith)
