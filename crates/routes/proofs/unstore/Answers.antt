-- `routes::unstore` meets its contract. Assumes nothing.
use Rattle.std.proofs.Common.{arith, true}
use Rattle.routes.specs.Storing.{stores}
use Rattle.routes.proofs.unstore.Goals as goal

pub returns : goal.returns
returns c =
    stores true c.args.file.now c.args.out.now (λ i. omega (arith, c.type_inv.file i))
    c.routed.ensures
