use Rattle.offers.specs.NextEntry.{offering, Missed}
use Rattle.offers.specs.Running.{Ready, Running}
use Rattle.offers.proofs.run.Given as goal

abbrev pub invariant-loop-i : goal.invariant-loop-i
invariant-loop-i l = ((R : Ready l.g) → Running l.g R l.standing l.i)
    × Missed (offering l.g.m l.cell l.standing.next l.standing.held) l.from
