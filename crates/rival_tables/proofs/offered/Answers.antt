-- An offer, taken or not.
use Rattle.std.proofs.Common.{sym, ap, ◌∙◌}
use Rattle.rival_tables.specs.Cheapest.{offer}
use Rattle.rival_tables.proofs.offered.Goals as goal

pub returns-then-t : goal.returns-then-t
returns-then-t c = c.min-l.ensures ∙ sym (ap (λ b. offer b c.args.p c.args.v) c.if-t.true)

pub returns-else-t : goal.returns-else-t
returns-else-t c = sym (ap (λ b. offer b c.args.p c.args.v) c.if-t.false)
