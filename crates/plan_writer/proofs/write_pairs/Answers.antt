-- plan_writer::write_pairs: the pairs of the edges below e stand in front.
use Rattle.std.proofs.Common.{◌≡◌, refl, ap, ◌∙◌, ◌+◌, ◌*◌, ◌≤◌, zero-le, arith, length}
use Rattle.model.specs.Limits.{pair_width}
use Rattle.model.specs.PlanFile.{edges_in}
use Rattle.model_desk.specs.Desk.{onto}
use Rattle.arrays.specs.ArrayInstance.{flag}
use Rattle.plan_writer.specs.Written.{pairs_of}
use Rattle.plan_writer.specs.PairByPair.{put_none, turn_not, turn_one, room_for, pairs_onto}
use Rattle.plan_writer.proofs.write_pairs.Goals.{Else-not-chosen-e}
use Rattle.plan_writer.proofs.write_pairs.Goals as goal

-- the edge is chosen, and there is room for its pair
room : (c : Else-not-chosen-e) → pair_width * c.loop-e.k + pair_width
    ≤ length c.args.out.now
room c =
    let a = c.args in
    room_for a.sv.now a.st.now a.sh.now a.chosen.now a.out.now c.loop-e.e c.loop-e.k c.loop-e.out c.loop-e.invariant.1.0
    c.loop-e.invariant.1.1 a.m c.loop-e-test.true c.if-not-chosen-e.false c.requires.3

pub loop-e-init : goal.loop-e-init
loop-e-init c = let a = c.args in (zero-le, (refl, put_none a.sv.now a.st.now a.sh.now 0 a.out.now))

pub loop-e-preserved-then-not-chosen-e : goal.loop-e-preserved-then-not-chosen-e
loop-e-preserved-then-not-chosen-e c =
    let a = c.args in (
      omega arith,
      turn_not a.sv.now a.st.now a.sh.now a.chosen.now a.out.now c.loop-e.e c.loop-e.k c.loop-e.out c.loop-e.invariant.1.0
          c.loop-e.invariant.1.1 c.if-not-chosen-e.true,
    )

pub put-requires : goal.put-requires
put-requires c =
    let p = c.requires in
    let h = c.loop-e-test.true in
    (omega (arith, room (goal.at.put-requires c).Else-not-chosen-e, c.loop-e.invariant.1.1.1), p.1 c.loop-e.e h, p.2 c.loop-e.e h)

pub overflow_add-k : goal.overflow_add-k
overflow_add-k c = omega (arith, room (goal.at.overflow_add-k c).Else-not-chosen-e)

pub loop-e-smaller : goal.loop-e-smaller
loop-e-smaller c = omega (arith, c.loop-e-test.true)

pub loop-e-preserved : goal.loop-e-preserved
loop-e-preserved c =
    let a = c.args in (
      omega (arith, c.loop-e-test.true),
      turn_one a.sv.now a.st.now a.sh.now a.chosen.now a.out.now c.loop-e.e c.loop-e.k c.loop-e.out c.loop-e.invariant.1.0
          c.loop-e.invariant.1.1 c.if-not-chosen-e.false (room (goal.at.loop-e-preserved c).Else-not-chosen-e) c.put.ensures,
    )

pub shape_of-out : goal.shape_of-out
shape_of-out c = c.loop-e.invariant.1.1.1

pub returns : goal.returns
returns c =
    let a = c.args in
    let q : c.loop-e.e ≡ a.m = omega arith in record {
      value = c.loop-e.invariant.1.0 ∙ ap (λ e. length (edges_in e (flag a.chosen.now))) q;
      out_after = pairs_onto a.sv.now a.st.now a.sh.now (edges_in c.loop-e.e (flag a.chosen.now)) a.out.now c.loop-e.out c.loop-e.invariant.1.1
          ∙ ap (λ e. onto (pairs_of a.sv.now a.st.now a.sh.now (edges_in e (flag a.chosen.now))) a.out.now) q;
    }

pub overflow_mul-k : goal.overflow_mul-k
overflow_mul-k c = omega (arith, room (goal.at.overflow_mul-k c).Else-not-chosen-e)
