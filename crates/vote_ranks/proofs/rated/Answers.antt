-- Both tests as numbers; each is at most 1, so the sum fits. Assumes nothing.
use Rattle.std.proofs.Common.{arith, ltb, leb}
use Rattle.arrays.specs.Tally.{byte_bit, byte_one}
use Rattle.vote_ranks.proofs.rated.Goals as goal

pub overflow_add-result : goal.overflow_add-result
overflow_add-result c = omega (arith, byte_one (ltb c.args.a c.args.b), byte_one (leb c.args.a c.args.b))

pub returns : goal.returns
returns c = (
  omega (arith, byte_bit (ltb c.args.a c.args.b), byte_bit (leb c.args.a c.args.b)),
  omega (arith, byte_one (ltb c.args.a c.args.b), byte_one (leb c.args.a c.args.b)),
)
