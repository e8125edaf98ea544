-- `plan_lookup::scan` meets its contract: no edge passed has these ends and this shift.
use Rattle.std.proofs.Common.{arith}
use Rattle.lists.specs.Test.{true_t}
use Rattle.plan_lookup.specs.PairEdge.{Ends, none_next}
use Rattle.plan_lookup.proofs.scan.Goals as goal

pub loop-e-init : goal.loop-e-init
loop-e-init c = (omega arith, c.requires.0, λ d h k. absurd (omega arith))

pub returns-then-sv-e : goal.returns-then-sv-e
returns-then-sv-e c =
    record {
      inside = omega arith;
      scanned = record { from = c.loop-e.invariant.0; to = c.loop-e.invariant.1; none = c.loop-e.invariant.2; hit = λ h. true_t c.if-sv-e.true };
    }

pub loop-e-preserved : goal.loop-e-preserved
loop-e-preserved c =
    let a = c.args in (
      omega arith,
      omega arith,
      none_next (Ends a.sv.now a.st.now a.sh.now a.s a.t a.k)
          a.start c.loop-e.e c.loop-e.invariant.2 c.if-sv-e.false,
    )

pub returns : goal.returns
returns c =
    record {
      inside = tt;
      scanned = record { from = c.requires.0; to = omega arith; none = λ d h k. c.loop-e.invariant.2 d h (omega arith); hit = λ h. absurd (omega arith) };
    }
