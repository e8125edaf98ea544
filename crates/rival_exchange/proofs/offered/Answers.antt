-- An offer, taken or not.
use Rattle.std.proofs.Common.{sym, ap, Bool, cond}
use Rattle.rival_exchange.specs.Ways.{way_of, told}
use Rattle.rival_exchange.proofs.offered.Goals as goal

pub returns-then-ok-p : goal.returns-then-ok-p
returns-then-ok-p c =
    λ m. sym
    (ap
    (λ (b : Bool). cond b (c.args.p, (way_of m c.args.a, way_of m c.args.b))
    (told m c.args.held))
    c.if-ok-p.true)

pub returns : goal.returns
returns c =
    λ m. sym
    (ap
    (λ (b : Bool). cond b (c.args.p, (way_of m c.args.a, way_of m c.args.b))
    (told m c.args.held))
    c.if-ok-p.false)
