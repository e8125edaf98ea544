-- A walk along a node's list: how many of the edges before the one at place k are in each set.
use Rattle.std.proofs.Common.{arith}
use Rattle.reduction_lists.specs.Walks.{few_counted, next_counted, count_starts, count_on, count_ends, count_over}
use Rattle.reduction_lists.proofs.tallies.Goals as goal

pub loop-k-init : goal.loop-k-init
loop-k-init c = let w = c.requires.0 in (λ end L. count_starts L w, λ end L. count_starts L w)

pub overflow_add-c : goal.overflow_add-c
overflow_add-c c = omega (arith, next_counted c.requires c.loop-k.invariant.0 (omega arith), few_counted c.requires c.loop-k.invariant.0)

pub overflow_add-d : goal.overflow_add-d
overflow_add-d c = omega (arith, next_counted c.requires c.loop-k.invariant.1 (omega arith), few_counted c.requires c.loop-k.invariant.1)

pub loop-k-preserved : goal.loop-k-preserved
loop-k-preserved c = let w = c.requires.0 in let l = c.loop-k.invariant in
    (λ end L. count_on L w (omega arith) (l.0 end L), λ end L. count_on L w (omega arith) (l.1 end L))

pub returns-then-m-e : goal.returns-then-m-e
returns-then-m-e c end L =
    (count_ends c.if-m-e.true (c.loop-k.invariant.0 end L), count_ends c.if-m-e.true (c.loop-k.invariant.1 end L))

pub returns-after-loop-k : goal.returns-after-loop-k
returns-after-loop-k c end L =
    let over = count_over L c.requires.0 (omega (arith, c.loop-k-test.false)) (c.loop-k.invariant.0 end L) in
    (count_ends over (c.loop-k.invariant.0 end L), count_ends over (c.loop-k.invariant.1 end L))
