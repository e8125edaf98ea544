-- `text_lines::size` meets its contract: below zero, -1 less the vote is a number of 16 bits too. Assumes nothing.
use Rattle.text_lines.proofs.SignedVotes.{below_fits, below_cast, below_add, below_size, above_cast}
use Rattle.text_lines.proofs.size.Goals as goal

pub overflow_sub-below : goal.overflow_sub-below
overflow_sub-below c = below_fits c.args.vote c.ranges.vote c.if-vote-lt0.true

pub overflow_cast-result : goal.overflow_cast-result
overflow_cast-result c = below_cast c.args.vote c.ranges.vote c.if-vote-lt0.true

pub overflow_add-result : goal.overflow_add-result
overflow_add-result c = below_add c.args.vote c.ranges.vote c.if-vote-lt0.true

pub returns-then-vote-lt0 : goal.returns-then-vote-lt0
returns-then-vote-lt0 c = below_size c.args.vote c.ranges.vote c.if-vote-lt0.true

pub overflow_cast-result-2 : goal.overflow_cast-result-2
overflow_cast-result-2 c = above_cast c.args.vote c.ranges.vote c.if-vote-lt0.false
