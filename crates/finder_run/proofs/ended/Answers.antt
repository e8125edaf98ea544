-- finder_run::ended writes the pairs left, or goes on with the candidate.
use Rattle.std.proofs.Common.{arith}
use Rattle.model.specs.PlanFile.{edges_in}
use Rattle.arrays.specs.ArrayInstance.{flag}
use Rattle.finder_run.specs.EndReached.{left_room, some_left, none_left}
use Rattle.finder_run.proofs.ended.Goals as goal

pub write_pairs-k-requires : goal.write_pairs-k-requires
write_pairs-k-requires c =
    let L = c.requires.0 in (
      L.edges,
      (λ e h. L.low_sv e),
      (λ e h. L.low_st e),
      left_room c.args.g.m c.args.rem.now c.args.left.now L.edges c.requires.2,
    )

pub returns-then-k-gt0 : goal.returns-then-k-gt0
returns-then-k-gt0 c =
    let a = c.args in
    let w = c.write_pairs-k.ensures in
    λ M S. some_left a.g M (edges_in a.g.m (flag a.rem.now)) a.steps a.left.now a.plan.now a.rival.now _ _ w.value w.out_after
    (omega (arith, c.if-k-gt0.true))

pub returns : goal.returns
returns c =
    let a = c.args in
    let w = c.write_pairs-k.ensures in
    λ M S. none_left a.g M (edges_in a.g.m (flag a.rem.now)) a.steps a.left.now a.plan.now a.rival.now _ _ w.value w.out_after
    c.if-k-gt0.false (c.judged.ensures M S)
