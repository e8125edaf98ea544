-- An edge of the plan that is better exchanged alone; or both tables decide.
use Rattle.std.proofs.Common.{arith}
use Rattle.arrays.specs.ArrayInstance.{at}
use Rattle.arrays.specs.Passes.{shows_at, Low}
use Rattle.rival_search.specs.SearchView.{listed_low, Views, alone_at}
use Rattle.rival_tables.specs.Within.{found_below}
use Rattle.rival_search.specs.TwoThresholds.{tables_fine}
use Rattle.rival_verdict.specs.RivalOfArrays.{alone_shown, tables_shown}
use Rattle.rival_verdict.proofs.judged_by_tables.Goals.{Start, After-gathered-rpt}
use Rattle.rival_verdict.proofs.judged_by_tables.Goals as goal

-- the edges of the plan's list are below the limit
listed : (s : Start) → Low s.args.plan.now.n s.args.plan.now.edges.now 1024
listed s i h = omega (arith, listed_low s.args.g.now.m s.args.plan.now.has.now s.args.plan.now.n s.args.plan.now.edges.now s.requires.4 i h, s.requires.0)

pub alone-requires : goal.alone-requires
alone-requires c = let p = c.requires in (
  p.0,
  p.1,
  p.2,
  p.3,
  p.8,
  p.9,
  listed_low c.args.g.now.m c.args.plan.now.has.now c.args.plan.now.n c.args.plan.now.edges.now
      p.4,
)

pub terminal_table-ends-requires : goal.terminal_table-ends-requires
terminal_table-ends-requires c =
    let p = c.requires in
    (p.0, p.1, p.2, p.3, p.8, p.9, (λ i h. p.6 i (omega (arith, p.1, h))), (λ i h. p.7 i (omega (arith, p.1, h))), listed (goal.at.terminal_table-ends-requires c).Start)

pub overflow_cast-x : goal.overflow_cast-x
overflow_cast-x c = omega (arith, listed (goal.at.overflow_cast-x c).Start c.in-Some.i (found_below c.args.plan.now.n c.in-Some.i (alone_at c.args.g.now.m c.args.g.now.sv c.args.g.now.st c.args.g.now.rank_s c.args.g.now.rank_t c.args.plan.now.has.now c.args.room.now.s c.args.room.now.t c.args.plan.now.edges.now c.args.plan.now.n) c.in-Some.is c.alone.ensures).1)

pub ended-s-requires : goal.ended-s-requires
ended-s-requires c =
    let a = c.args in
    let h = (found_below a.plan.now.n c.in-Some.i (alone_at a.g.now.m a.g.now.sv a.g.now.st a.g.now.rank_s a.g.now.rank_t a.plan.now.has.now a.room.now.s a.room.now.t a.plan.now.edges.now a.plan.now.n) c.in-Some.is c.alone.ensures).1 in
    let x = listed_low a.g.now.m a.plan.now.has.now a.plan.now.n a.plan.now.edges.now c.requires.4 c.in-Some.i h in
    (c.requires.0, c.requires.2, c.requires.3, c.requires.8, c.requires.9, x, x)

pub returns-in-Some : goal.returns-in-Some
returns-in-Some c =
    let a = c.args in
    let (e, h) = found_below a.plan.now.n c.in-Some.i (alone_at a.g.now.m a.g.now.sv a.g.now.st a.g.now.rank_s a.g.now.rank_t a.plan.now.has.now a.room.now.s a.room.now.t a.plan.now.edges.now a.plan.now.n) c.in-Some.is c.alone.ensures in
    λ quota_s quota_t roomyS roomyT. alone_shown a.g.now.m a.g.now.sv a.g.now.st a.g.now.rank_s a.g.now.rank_t quota_s quota_t a.plan.now.has.now a.plan.now.n
    a.plan.now.edges.now a.ps.now a.pt.now a.room.now.s a.room.now.t c.requires.1 c.requires.2 c.requires.3 c.requires.4 c.requires.5 roomyS roomyT c.requires.10
    c.in-Some.i c.ended-s.result.gone c.ended-s.result.come c.exchanged-rival.result e h
    c.ended-s.ensures.0 c.ended-s.ensures.1 c.exchanged-rival.ensures

pub gathered-rps-requires : goal.gathered-rps-requires
gathered-rps-requires c = (c.requires.1, listed (goal.at.gathered-rps-requires c).Start)

pub gathered-rpt-requires : goal.gathered-rpt-requires
gathered-rpt-requires c = (c.requires.1, listed (goal.at.gathered-rpt-requires c).Start)

pub arcs-arcs-requires : goal.arcs-arcs-requires
arcs-arcs-requires c =
    let p = c.requires in
    (p.0, p.1, p.2, (c.args.g.now.st, p.9), p.6, λ i h. p.7 i (omega (arith, p.1, h)))

-- ends and ranks of the plan's edges, by their places
views : (c : After-gathered-rpt) → let s = c in let a = s.args in
    Views a.plan.now.n a.plan.now.edges.now a.g.now.sv a.g.now.st a.g.now.rank_s a.g.now.rank_t a.ps.now a.pt.now c.gathered-rps.result
    c.gathered-rpt.result
views c =
    let a = c.args in
    let g = c.gathered-rps in
    let h = c.gathered-rpt in record {
      sv_at = c.requires.5.0;
      st_at = c.requires.5.1;
      rs_at = λ i. shows_at 0 g.result (λ i. at a.g.now.rank_s (at a.plan.now.edges.now i)) a.plan.now.n i g.ensures;
      rt_at = λ i. shows_at 0 h.result (λ i. at a.g.now.rank_t (at a.plan.now.edges.now i)) a.plan.now.n i h.ensures;
    }

pub judged_by_arcs-requires : goal.judged_by_arcs-requires
judged_by_arcs-requires c =
    let a = c.args in
    let e = c.terminal_table-ends in
    let v = views (goal.at.judged_by_arcs-requires c).After-gathered-rpt in
    let t = tables_fine a.g.now.m a.g.now.sv a.g.now.st a.g.now.rank_s a.g.now.rank_t a.plan.now.has.now a.plan.now.n a.ps.now a.pt.now
    c.gathered-rps.result c.gathered-rpt.result a.room.now.s a.room.now.t c.arcs-arcs.result e.result (c.arcs-arcs.ensures a.g.now.st c.requires.9)
    (e.ensures c.gathered-rps.result c.gathered-rpt.result v.rs_at v.rt_at) in (
      c.requires.0,
      c.requires.1,
      c.requires.2,
      c.requires.3,
      listed_low a.g.now.m a.plan.now.has.now a.plan.now.n a.plan.now.edges.now c.requires.4,
      t.0,
      t.1,
      t.2,
      c.requires.8,
      c.requires.9,
    )

pub returns : goal.returns
returns c =
    let a = c.args in
    let e = c.terminal_table-ends in
    let r = c.judged_by_arcs in
    let v = views (goal.at.returns c).After-gathered-rpt in
    λ quota_s quota_t roomyS roomyT. tables_shown a.g.now.m a.g.now.sv a.g.now.st a.g.now.rank_s a.g.now.rank_t quota_s quota_t a.plan.now.has.now a.plan.now.n
    a.plan.now.edges.now a.ps.now a.pt.now c.gathered-rps.result c.gathered-rpt.result a.room.now.s a.room.now.t c.requires.1 c.requires.2
    c.requires.3 c.requires.4 v roomyS roomyT c.requires.10 c.arcs-arcs.result e.result (c.arcs-arcs.ensures a.g.now.st c.requires.9)
    (e.ensures c.gathered-rps.result c.gathered-rpt.result v.rs_at v.rt_at) r.result.standing
    r.result.rival r.ensures
