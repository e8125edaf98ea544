-- `blocking_thresholds::worst` keeps the worst rank of the list's edges at each node. The loop's invariant: of the first k. Assumes nothing.
use Rattle.std.proofs.Common.{ℕ, ◌<◌, zero-le, arith, ◌≡◌, ap, ◌∙◌, subst, length-set, ltb, le-ltb}
use lib.ListN.{length-replicate}
use Rattle.arrays.specs.ArrayInstance.{at}
use Rattle.arrays.specs.Tally.{zeros}
use Rattle.blocking_thresholds.specs.PlanList.{WorstOf, worst_next, max_is}
use Rattle.blocking_thresholds.proofs.worst.Goals.{In-loop-k}
use Rattle.blocking_thresholds.proofs.worst.Goals as goal

-- the edge at k, and its node
edge : (c : In-loop-k) → at c.args.es.now c.loop-k.k < 1024
edge c = c.requires.edges c.loop-k.k (omega arith)

inside : (c : In-loop-k) → let a = c.args in at a.end.now (at a.es.now c.loop-k.k) < 32
inside c = c.requires.nodes c.loop-k.k (omega arith)

pub loop-k-init : goal.loop-k-init
loop-k-init c = (zero-le, length-replicate {A = ℕ} 32 0, λ v x. ap (ltb x) (zeros 32 v) ∙ le-ltb x 0 zero-le)

pub loop-k-preserved : goal.loop-k-preserved
loop-k-preserved c =
    let a = c.args in
    let i = inside (goal.at.loop-k-preserved c).In-loop-k in (
      omega arith,
      simp length-set c.loop-k.invariant.1,
      worst_next a.end.now a.rank.now a.es.now c.loop-k.w c.loop-k.k (omega (arith, i)) c.loop-k.invariant.2 (c.max.ensures ∙ max_is _ _),
    )

pub returns : goal.returns
returns c =
    let a = c.args in
    let e : c.loop-k.k ≡ a.n = omega arith in
    subst (λ k. WorstOf a.end.now a.rank.now a.es.now k c.loop-k.w) e c.loop-k.invariant.2

pub offset_bounds-es-k : goal.offset_bounds-es-k
offset_bounds-es-k c = omega (arith, c.requires.few)

pub bounds-es-k : goal.bounds-es-k
bounds-es-k c = omega (arith, c.requires.few)

pub overflow_cast-e : goal.overflow_cast-e
overflow_cast-e c = omega (arith, edge (goal.at.overflow_cast-e c).In-loop-k)

pub bounds-end-e : goal.bounds-end-e
bounds-end-e c = edge (goal.at.bounds-end-e c).In-loop-k

pub overflow_cast-v : goal.overflow_cast-v
overflow_cast-v c = omega (arith, inside (goal.at.overflow_cast-v c).In-loop-k)

pub bounds-w-v : goal.bounds-w-v
bounds-w-v c = inside (goal.at.bounds-w-v c).In-loop-k

pub bounds-rank-e : goal.bounds-rank-e
bounds-rank-e c = edge (goal.at.bounds-rank-e c).In-loop-k

pub bounds-w-v-in-loop-k : goal.bounds-w-v-in-loop-k
bounds-w-v-in-loop-k c = inside (goal.at.bounds-w-v-in-loop-k c).In-loop-k
