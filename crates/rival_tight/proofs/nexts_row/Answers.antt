-- Columns from y on lead to the next arc, and `next` is the first arc from y on.
use Rattle.std.proofs.Common.{refl, arith}
use Rattle.rival_tight.specs.Nexts.{behind_arc, behind_none}
use Rattle.rival_tight.proofs.nexts_row.Goals as goal

pub loop-y-init : goal.loop-y-init
loop-y-init c = record {
  within = omega arith;
  whole = refl;
  later = omega arith;
  inside = omega arith;
  none = λ z h g. absurd (omega arith);
  nexts = λ x h g. absurd (omega arith);
}

pub loop-y-preserved-then-arcs-i-lt133 : goal.loop-y-preserved-then-arcs-i-lt133
loop-y-preserved-then-arcs-i-lt133 c = behind_arc c.loop-y.invariant c.loop-y-test.true

pub loop-y-preserved : goal.loop-y-preserved
loop-y-preserved c = behind_none c.loop-y.invariant c.loop-y-test.true (omega (arith, c.if-arcs-i-lt133.false))

pub returns : goal.returns
returns c = λ y h. c.loop-y.invariant.nexts y (omega arith) h
