-- The nodes passed are painted.
use Rattle.std.proofs.Common.{◌≡◌, subst, ◌∙◌, false, ℕ, zero-le, arith}
use lib.ListN.{length-replicate}
use Rattle.model.specs.Limits.{node_limit, entry_limit, empty_rank}
use Rattle.arrays.specs.Passes.{all_blank}
use Rattle.reduction_cells.specs.Painted.{AllPainted, all_none, all_next}
use Rattle.reduction_cells.proofs.painted.Goals as goal

pub loop-v-init : goal.loop-v-init
loop-v-init c =
    let a = c.args in (
      zero-le,
      length-replicate entry_limit false,
      length-replicate {A = ℕ} empty_rank 0,
      all_none a.m a.table.now a.rem.now a.q.now _ (all_blank false entry_limit),
    )

pub paint-requires : goal.paint-requires
paint-requires c =
    let p = c.requires in
    let i = c.loop-v.invariant in
    record {
      v_lt_node_limit = (c.loop-v-test.true, p.0, p.1);
      f_len = (i.1, i.2);
    }

pub loop-v-preserved : goal.loop-v-preserved
loop-v-preserved c =
    let a = c.args in
    let p = c.requires in
    let l = c.loop-v in
    let P = c.paint.ensures in (
      omega arith,
      P.3.size_f ∙ l.invariant.1,
      P.1,
      all_next a.m a.table.now p.0 a.other.now a.rem.now a.q.now l.v
          c.loop-v-test.true l.f _ _ l.invariant.3 P.3,
    )

pub returns : goal.returns
returns c =
    let a = c.args in
    let l = c.loop-v in
    let e : l.v ≡ node_limit = omega arith in
    subst (λ k. AllPainted a.m a.table.now a.rem.now a.q.now k l.f) e l.invariant.3
