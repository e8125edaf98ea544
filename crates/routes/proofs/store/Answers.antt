-- `routes::store` meets its contract. Assumes nothing.
use Rattle.std.proofs.Common.{arith, false}
use Rattle.routes.specs.Storing.{stores}
use Rattle.routes.proofs.store.Goals as goal

pub returns : goal.returns
returns c =
    stores false c.args.file.now c.args.out.now (λ i. omega (arith, c.type_inv.file i))
    c.routed.ensures
