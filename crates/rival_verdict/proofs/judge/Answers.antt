-- The ends and ranks of the plan's edges, and the room at the nodes.
use Rattle.std.proofs.Common.{arith}
use Rattle.arrays.specs.ArrayInstance.{at}
use Rattle.arrays.specs.Passes.{shows_at}
use Rattle.rival_search.specs.SearchView.{listed_low, view_low}
use Rattle.rival_verdict.proofs.judge.Goals as goal

pub gathered-ps-requires : goal.gathered-ps-requires
gathered-ps-requires c =
    (c.requires.1, λ i h. omega (arith, listed_low c.args.g.now.m c.args.plan.now.has.now c.args.plan.now.n c.args.plan.now.edges.now c.requires.4 i h, c.requires.0))

pub gathered-pt-requires : goal.gathered-pt-requires
gathered-pt-requires c = (
  c.requires.1,
  λ i h. omega (
    arith,
    listed_low c.args.g.now.m c.args.plan.now.has.now c.args.plan.now.n c.args.plan.now.edges.now c.requires.4 i h,
    c.requires.0,
  ),
)

pub rooms-requires : goal.rooms-requires
rooms-requires c = c.requires.1

pub rooms-requires-2 : goal.rooms-requires-2
rooms-requires-2 c = c.requires.1

pub judged_on-requires : goal.judged_on-requires
judged_on-requires c =
    let ps = c.gathered-ps in
    let pt = c.gathered-pt in
    let a = c.args in (
      c.requires.0,
      c.requires.1,
      c.requires.2,
      c.requires.3,
      c.requires.4,
      (
        (λ i. shows_at 0 ps.result (λ i. at a.g.now.sv (at a.plan.now.edges.now i)) a.plan.now.n i ps.ensures),
        (λ i. shows_at 0 pt.result (λ i. at a.g.now.st (at a.plan.now.edges.now i)) a.plan.now.n i pt.ensures),
      ),
      view_low a.g.now.m a.plan.now.has.now a.plan.now.n a.plan.now.edges.now a.g.now.sv ps.result 64 c.requires.4 c.requires.2 ps.ensures,
      view_low a.g.now.m a.plan.now.has.now a.plan.now.n a.plan.now.edges.now a.g.now.st pt.result 64 c.requires.4 c.requires.3 pt.ensures,
    )

pub returns : goal.returns
returns c =
    let a = c.args in
    c.judged_on.ensures a.g.now.quota_s a.g.now.quota_t c.rooms.ensures c.rooms-2.ensures
