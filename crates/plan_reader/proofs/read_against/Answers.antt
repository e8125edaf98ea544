-- `plan_reader::read_against` meets its contract: the arrays are what the plan reader asks for. Assumes nothing.
use Rattle.plan_reader.proofs.read_against.Goals as goal

pub read_plan-requires : goal.read_plan-requires
read_plan-requires c =
    let L = c.requires in
    (L.edges, λ e h. L.low_sv e, λ e h. L.low_st e, L.fileable.differ)

pub returns : goal.returns
returns c =
    let g = c.args.g in
    c.read_plan.ensures g.ns g.nt g.rank_s g.rank_t g.tied
