-- `plan_turned::copy_pairs` meets its contract: the pairs from the k-th on are left. Assumes nothing.
use Rattle.std.proofs.Common.{◌+◌, ◌*◌, ◌≤◌, zero-le, arith, ◌≡◌, refl, ap, ◌∙◌, not, length, set, length-set, rules}
use Rattle.pair_bytes.specs.PairAt.{width_of, named_of, put_length}
use Rattle.plan_turned.specs.Pairs.{writing_starts, writing_on, writing_ends, next_place, pair_room, plan_room}
use Rattle.plan_turned.proofs.copy_pairs.Goals.{In-loop-k}
use Rattle.plan_turned.proofs.copy_pairs.Goals as goal

pub loop-k-init : goal.loop-k-init
loop-k-init c =
    let a = c.args in
    let y : 1 ≡ width_of a.shifts * 0 + 1 = omega arith in
    let z : 1 ≡ width_of (not a.shifts) * 0 + 1 = omega arith in
    (zero-le, y, z, refl, writing_starts a.shifts a.file.now a.n a.out.now (omega (arith, c.requires.2)))

-- the pair of this turn lies in the file, and there is room for it in the buffer
room : (p : In-loop-k) → let l = p in let a = l.args in
    (l.loop-k.at + width_of a.shifts ≤ length a.file.now) × (l.loop-k.to + width_of (not a.shifts) ≤ length a.out.now)
room p =
    let a = p.args in (
      omega (arith, pair_room (width_of a.shifts) a.n p.loop-k.k p.loop-k.at p.loop-k-test.true p.loop-k.invariant.1, p.requires.1),
      omega (
        arith,
        pair_room (width_of (not a.shifts)) a.n p.loop-k.k p.loop-k.to p.loop-k-test.true p.loop-k.invariant.2,
        plan_room (not a.shifts) a.n p.requires.0,
        p.requires.2,
      ),
    )

pub get-p-requires : goal.get-p-requires
get-p-requires c = (room (goal.at.get-p-requires c).In-loop-k).0

pub put_by-requires : goal.put_by-requires
put_by-requires c =
    let a = c.args in
    omega (arith, (room (goal.at.put_by-requires c).In-loop-k).1, c.loop-k.invariant.3, length-set a.out.now 0 a.n)

pub overflow_add-at : goal.overflow_add-at
overflow_add-at c =
    let h = room (goal.at.overflow_add-at c).In-loop-k in
    let w = c.width-width.ensures in
    search rules

pub overflow_add-to : goal.overflow_add-to
overflow_add-to c =
    let h = room (goal.at.overflow_add-to c).In-loop-k in
    let w = c.width-other.ensures in
    search rules

pub loop-k-preserved : goal.loop-k-preserved
loop-k-preserved c =
    let a = c.args in
    let w = c.width-width.ensures in
    let v = c.width-other.ensures in
    let g = c.get-p in
    let p = c.put_by in (
      omega arith,
      ap (λ k. c.loop-k.at + k) w ∙ next_place (width_of a.shifts) c.loop-k.k c.loop-k.at c.loop-k.invariant.1,
      ap (λ k. c.loop-k.to + k) v ∙ next_place (width_of (not a.shifts)) c.loop-k.k c.loop-k.to c.loop-k.invariant.2,
      ap length p.ensures ∙ put_length (not a.shifts) c.loop-k.out c.loop-k.to g.result ∙ c.loop-k.invariant.3,
      writing_on a.shifts a.file.now a.n c.loop-k.k c.loop-k.at c.loop-k.to (set a.out.now 0 a.n) g.result c.loop-k-test.true
          w v (ap named_of g.ensures) (omega (arith, (room (goal.at.loop-k-preserved c).In-loop-k).1, length-set a.out.now 0 a.n)) p.ensures c.loop-k.invariant.4,
    )

pub shape_of-out : goal.shape_of-out
shape_of-out c =
    let a = c.args in
    c.loop-k.invariant.3 ∙ length-set a.out.now 0 a.n

pub returns : goal.returns
returns c =
    let a = c.args in
    writing_ends a.shifts a.file.now a.n c.loop-k.k c.loop-k.at c.loop-k.to a.out.now c.loop-k-test.false c.loop-k.invariant.4
