-- `blocking_thresholds::held` counts the edges of the list at each node. The loop's invariant: of the first k. Assumes nothing.
use Rattle.std.proofs.Common.{ℕ, ◌<◌, zero-le, arith, ◌≡◌, subst, length-set}
use lib.ListN.{length-replicate}
use Rattle.arrays.specs.ArrayInstance.{at}
use Rattle.arrays.specs.Tally.{zeros}
use Rattle.blocking_thresholds.specs.PlanList.{AtNodes, nodes_next, nodes_few}
use Rattle.blocking_thresholds.proofs.held.Goals.{In-loop-k}
use Rattle.blocking_thresholds.proofs.held.Goals as goal

-- the edge at k, and its node
edge : (c : In-loop-k) → at c.args.es.now c.loop-k.k < 1024
edge c = c.requires.edges c.loop-k.k (omega arith)

inside : (c : In-loop-k) → let a = c.args in at a.end.now (at a.es.now c.loop-k.k) < 32
inside c = c.requires.nodes c.loop-k.k (omega arith)

pub loop-k-init : goal.loop-k-init
loop-k-init c = (zero-le, length-replicate {A = ℕ} 32 0, λ v. zeros 32 v)

pub overflow_add-d : goal.overflow_add-d
overflow_add-d c =
    let a = c.args in
    omega (
      arith,
      nodes_few a.end.now a.es.now c.loop-k.d c.loop-k.k c.loop-k.invariant.2 (at a.end.now (at a.es.now c.loop-k.k)),
      c.requires.few,
    )

pub loop-k-preserved : goal.loop-k-preserved
loop-k-preserved c =
    let a = c.args in (
      omega arith,
      simp length-set c.loop-k.invariant.1,
      nodes_next a.end.now a.es.now c.loop-k.d c.loop-k.k (omega (arith, inside (goal.at.loop-k-preserved c).In-loop-k)) c.loop-k.invariant.2,
    )

pub returns : goal.returns
returns c =
    let a = c.args in
    let e : c.loop-k.k ≡ a.n = omega arith in
    subst (λ k. AtNodes a.end.now a.es.now k c.loop-k.d) e c.loop-k.invariant.2

pub offset_bounds-es-k : goal.offset_bounds-es-k
offset_bounds-es-k c = omega (arith, c.requires.few)

pub bounds-es-k : goal.bounds-es-k
bounds-es-k c = omega (arith, c.requires.few)

pub overflow_cast-e : goal.overflow_cast-e
overflow_cast-e c = omega (arith, edge (goal.at.overflow_cast-e c).In-loop-k)

pub bounds-end-e : goal.bounds-end-e
bounds-end-e c = edge (goal.at.bounds-end-e c).In-loop-k

pub overflow_cast-v : goal.overflow_cast-v
overflow_cast-v c = omega (arith, inside (goal.at.overflow_cast-v c).In-loop-k)

pub offset_bounds-d-v : goal.offset_bounds-d-v
offset_bounds-d-v c = omega (arith, inside (goal.at.offset_bounds-d-v c).In-loop-k)

pub bounds-d-v : goal.bounds-d-v
bounds-d-v c = inside (goal.at.bounds-d-v c).In-loop-k

pub bounds-d-v-in-loop-k : goal.bounds-d-v-in-loop-k
bounds-d-v-in-loop-k c = inside (goal.at.bounds-d-v-in-loop-k c).In-loop-k
