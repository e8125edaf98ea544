-- `plan_carried::carried` meets its contract: the edges that stay are written as a plan, whose first byte tells its length. Assumes nothing.
use Rattle.std.proofs.Common.{◌≤◌, arith, rules}
use Rattle.model.specs.Limits.{plan_limit}
use Rattle.arrays.specs.ArrayInstance.{at}
use Rattle.plan_carried.specs.Remaining.{Few, few_stay, count_small, carried_is}
use Rattle.plan_carried.proofs.carried.Goals.{After-besides-kept, After-write_plan}
use Rattle.plan_carried.proofs.carried.Goals as goal

pub besides-kept-requires : goal.besides-kept-requires
besides-kept-requires c = let L = c.requires.0 in (L.edges, λ e h. L.low_sv e)

-- they are few
few : (c : After-besides-kept) → let a = c.args in Few a.g.m c.besides-kept.result
few c =
    let a = c.args in
    few_stay a.g.m a.g.sv a.plan.now a.number c.besides-kept.result c.besides-kept.ensures c.requires.1

pub list_edges-l-requires : goal.list_edges-l-requires
list_edges-l-requires c = (c.requires.0.edges, few (goal.at.list_edges-l-requires c).After-besides-kept)

pub write_plan-requires : goal.write_plan-requires
write_plan-requires c =
    let L = c.requires.0 in (
      (
        c.args.g.m,
        c.besides-kept.result,
        record { edges = L.edges; low_sv = λ e h. L.low_sv e; low_st = λ e h. L.low_st e; list = c.list_edges-l.ensures },
      ),
      search rules,
    )

-- the first byte is at most 64
small : (c : After-write_plan) → at c.write_plan.new.out 0 ≤ plan_limit
small c =
    let a = c.args in
    count_small a.g a.plan.now a.number c.requires.1 c.besides-kept.result c.besides-kept.ensures _
    (c.write_plan.ensures a.g.m c.besides-kept.result c.list_edges-l.ensures)

pub returns : goal.returns
returns c =
    let a = c.args in
    carried_is a.g a.plan.now a.number c.requires.1 c.besides-kept.result c.besides-kept.ensures _
    (c.write_plan.ensures a.g.m c.besides-kept.result c.list_edges-l.ensures)

pub overflow_cast-result : goal.overflow_cast-result
overflow_cast-result c = omega (arith, small (goal.at.overflow_cast-result c).After-write_plan)

pub overflow_mul-result : goal.overflow_mul-result
overflow_mul-result c = omega (arith, small (goal.at.overflow_mul-result c).After-write_plan)

pub overflow_add-result : goal.overflow_add-result
overflow_add-result c = omega (arith, small (goal.at.overflow_add-result c).After-write_plan)
