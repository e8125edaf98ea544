use Rattle.offers.specs.NextEntry.{offering, Missed}
use Rattle.offers.proofs.next_offer.Given as goal

abbrev pub invariant-loop-s : goal.invariant-loop-s
invariant-loop-s l = Missed (offering l.g.m l.cell l.standing.next l.standing.held) l.s
