-- The edges below i are in.
use Rattle.std.proofs.Common.{◌≡◌, ◌∙◌, ap, false, zero-le, arith, length-set, ltb}
use lib.ListN.{length-replicate}
use Rattle.reduction_state.proofs.Flags.{none_yet, all_next}
use Rattle.reduction_state.proofs.all.Goals as goal

pub loop-i-init : goal.loop-i-init
loop-i-init c = (zero-le, length-replicate 1024 false, none_yet)

pub loop-i-preserved : goal.loop-i-preserved
loop-i-preserved c =
    (omega arith, simp length-set c.loop-i.invariant.1, all_next c.loop-i.o c.loop-i.i (omega arith) c.loop-i.invariant.2)

pub returns : goal.returns
returns c =
    let e : c.loop-i.i ≡ c.args.m = omega arith in
    λ d. c.loop-i.invariant.2 d ∙ ap (ltb d) e
