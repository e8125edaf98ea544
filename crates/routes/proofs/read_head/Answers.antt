-- `routes::read_head` meets its contract: no byte, a count too high, numbers cut short, or a whole route. Assumes nothing.
use Rattle.routes.specs.Reading.{head_none, head_many, head_cut, head_whole}
use Rattle.routes.proofs.read_head.Goals as goal

pub returns-then-file-eq0 : goal.returns-then-file-eq0
returns-then-file-eq0 c = head_none c.args.file.now c.if-file-eq0.true

pub returns-then-k-gt-NODE_LIMIT : goal.returns-then-k-gt-NODE_LIMIT
returns-then-k-gt-NODE_LIMIT c = head_many c.args.file.now c.if-file-eq0.false c.if-k-gt-NODE_LIMIT.true

pub returns-then-file-k : goal.returns-then-file-k
returns-then-file-k c = head_cut c.args.file.now c.if-file-eq0.false c.if-k-gt-NODE_LIMIT.false c.if-file-k.true

pub returns : goal.returns
returns c = head_whole c.args.file.now c.if-file-eq0.false c.if-k-gt-NODE_LIMIT.false c.if-file-k.false
