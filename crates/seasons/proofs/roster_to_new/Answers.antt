-- `seasons::roster_to_new` meets its contract. Assumes nothing.
use Rattle.std.proofs.Common.{arith, false}
use Rattle.seasons.specs.Converting.{converts}
use Rattle.seasons.proofs.roster_to_new.Goals as goal

pub returns : goal.returns
returns c =
    converts false c.args.file.now c.args.out.now (λ i. omega (arith, c.type_inv.file i))
    c.converted.ensures
