-- `routes::turned` meets its contract: by the way back the tables are the other way round. Assumes nothing.
use Rattle.std.proofs.Common.{sym, subst}
use Rattle.routes.specs.Reading.{TurnedBy}
use Rattle.routes.proofs.turned.Goals as goal

pub returns-then-back : goal.returns-then-back
returns-then-back c =
    let a = c.args in
    subst (λ b. TurnedBy b a.file.now a.ns a.nt a.places.now a.numbers.now c.reordered.result)
    (sym c.if-back.true) c.reordered.ensures

pub returns : goal.returns
returns c =
    let a = c.args in
    subst (λ b. TurnedBy b a.file.now a.ns a.nt a.places.now a.numbers.now c.reordered-2.result)
    (sym c.if-back.false) c.reordered-2.ensures
