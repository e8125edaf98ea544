-- The rival's bytes and the vote against it.
use Rattle.std.proofs.Common.{◌∙◌, w16, to_z-of_z}
use Rattle.std.proofs.Common.{rules}
use Rattle.vote_plans.specs.Votable.{side_arrays, light}
use Rattle.verdict.specs.RivalWritten.{voted}
use Rattle.verdict.proofs.voted.Goals as goal

pub write_plan-requires : goal.write_plan-requires
write_plan-requires c =
    let L = c.requires.0 in
    let a = c.args in
    ((a.g.m, a.rival.now, record { edges = L.edges; low_sv = λ e h. L.low_sv e; low_st = λ e h. L.low_st e; list = c.requires.4 }), c.requires.5)

pub plan_votes-both-requires : goal.plan_votes-both-requires
plan_votes-both-requires c =
    let g = c.args.g in
    let L = c.requires.0 in
    let p = light g L c.args.plan.now c.requires.1 in
    let q = light g L c.args.rival.now c.requires.2 in
    record { arrays = side_arrays g L; light = (p.0, q.0, p.1, q.1); listed = (c.requires.3, c.requires.4) }

pub returns : goal.returns
returns c =
    let a = c.args in
    let g = a.g in
    let v = c.plan_votes-both in
    voted g a.plan.now a.rival.now a.out.now
    (to_z-of_z {w = w16} {z = v.result.first} (search rules)
    ∙ v.ensures.first g.sh g.tied g.quota_s g.quota_t c.requires.1 c.requires.2)
    (c.write_plan.ensures g.m a.rival.now c.requires.4)
