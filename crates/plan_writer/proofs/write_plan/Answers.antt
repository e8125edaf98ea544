-- plan_writer::write_plan: the pairs of the list's first k edges stand behind the count's place; then the count is put there.
use Rattle.std.proofs.Common.{◌≡◌, subst, ◌+◌, ◌*◌, ◌≤◌, ◌<◌, zero-le, arith, length, take}
use Rattle.model.specs.Limits.{pair_width, node_limit}
use Rattle.arrays.specs.ArrayInstance.{at}
use Rattle.plan_writer.specs.PairByPair.{Put, put_none, list_one, written, listed_edge}
use Rattle.plan_writer.proofs.write_plan.Goals.{In-loop-k}
use Rattle.plan_writer.proofs.write_plan.Goals as goal

-- the edge at the list's place k is one, with its ends
edge : (c : In-loop-k) → ((at c.args.es.now c.loop-k.k < 1024)
    × (at c.args.sv.now (at c.args.es.now c.loop-k.k) < node_limit)
    × (at c.args.st.now (at c.args.es.now c.loop-k.k) < node_limit))
edge c =
    let a = c.args in
    let (m, chosen, W) = c.requires.0 in
    listed_edge m a.sv.now a.st.now chosen a.n a.es.now W c.loop-k.k c.loop-k-test.true

-- and there is room for its pair
room : (c : In-loop-k) → (pair_width * c.loop-k.k + 1 + pair_width ≤ length c.args.out.now)
    × (c.loop-k.k < 64)
room c =
    let few = c.requires.0.2.list.few in
    (omega (arith, few, c.requires.1, c.loop-k-test.true), omega (arith, few, c.loop-k-test.true))

pub loop-k-init : goal.loop-k-init
loop-k-init c = let a = c.args in (zero-le, put_none a.sv.now a.st.now a.sh.now 1 a.out.now)

pub put-requires : goal.put-requires
put-requires c =
    let e = edge (goal.at.put-requires c).In-loop-k in
    (omega (arith, (room (goal.at.put-requires c).In-loop-k).0, c.loop-k.invariant.1.1), e.1, e.2)

pub loop-k-preserved : goal.loop-k-preserved
loop-k-preserved c =
    let a = c.args in (
      omega (arith, c.loop-k-test.true),
      list_one a.sv.now a.st.now a.sh.now a.out.now a.es.now c.loop-k.out c.loop-k.k
          (omega (arith, c.loop-k-test.true, c.requires.0.2.list.there)) (room (goal.at.loop-k-preserved c).In-loop-k).0 c.loop-k.invariant.1 c.put.ensures,
    )

pub returns : goal.returns
returns c =
    let a = c.args in
    let q : c.loop-k.k ≡ a.n = omega (arith, c.loop-k.invariant.0, c.loop-k-test.false) in
    λ m chosen L. written m a.sv.now a.st.now a.sh.now chosen a.n a.es.now a.out.now c.loop-k.out c.requires.1 L
    (subst (λ k. Put a.sv.now a.st.now a.sh.now 1 a.out.now (take k a.es.now) c.loop-k.out) q c.loop-k.invariant.1)

pub offset_bounds-es-k : goal.offset_bounds-es-k
offset_bounds-es-k c = omega (arith, (room (goal.at.offset_bounds-es-k c).In-loop-k).1)

pub bounds-es-k : goal.bounds-es-k
bounds-es-k c = omega (arith, (room (goal.at.bounds-es-k c).In-loop-k).1)

pub overflow_cast-e : goal.overflow_cast-e
overflow_cast-e c = omega (arith, (edge (goal.at.overflow_cast-e c).In-loop-k).0)

pub overflow_mul-k : goal.overflow_mul-k
overflow_mul-k c = omega (arith, (room (goal.at.overflow_mul-k c).In-loop-k).1)

pub overflow_add-k : goal.overflow_add-k
overflow_add-k c = omega (arith, (room (goal.at.overflow_add-k c).In-loop-k).1)

pub bounds-sv-e : goal.bounds-sv-e
bounds-sv-e c = omega (arith, (edge (goal.at.bounds-sv-e c).In-loop-k).0)

pub bounds-st-e : goal.bounds-st-e
bounds-st-e c = omega (arith, (edge (goal.at.bounds-st-e c).In-loop-k).0)

pub bounds-sh-e : goal.bounds-sh-e
bounds-sh-e c = omega (arith, (edge (goal.at.bounds-sh-e c).In-loop-k).0)

pub loop-k-smaller : goal.loop-k-smaller
loop-k-smaller c = omega (arith, c.loop-k-test.true)

pub overflow_cast-out : goal.overflow_cast-out
overflow_cast-out c = omega (arith, c.requires.0.2.list.few)

pub bounds-out-0 : goal.bounds-out-0
bounds-out-0 c = omega (arith, c.requires.1, c.loop-k.invariant.1.1)
