-- An edge with room at both ends was found; or the links are made, and the tables decide.
use Rattle.std.proofs.Common.{false, replicate}
use Rattle.lists.specs.Search.{low}
use Rattle.rival_tables.specs.Within.{found_below, nothing_below}
use Rattle.rival_search.specs.SearchView.{free_at}
use Rattle.rival_exchange.specs.Swaps.{blank_none, blank_one}
use Rattle.rival_verdict.specs.RivalOfArrays.{direct_shown}
use Rattle.rival_verdict.proofs.judged_on.Goals as goal

pub direct-requires : goal.direct-requires
direct-requires c = (c.requires.0, c.requires.2, c.requires.3)

pub gained-come-requires : goal.gained-come-requires
gained-come-requires c = c.requires.0

pub exchanged-rival-requires : goal.exchanged-rival-requires
exchanged-rival-requires c = c.requires.0

pub returns-in-Some : goal.returns-in-Some
returns-in-Some c =
    let a = c.args in
    let f = c.in-Some.f in
    let g = c.gained-come in
    let (e, h) = found_below a.g.now.m f (low (free_at a.g.now.sv a.g.now.st a.plan.now.has.now a.room.now.s a.room.now.t) a.g.now.m) c.in-Some.is c.direct.ensures in
    λ quota_s quota_t roomyS roomyT. direct_shown a.g.now.m a.g.now.sv a.g.now.st a.g.now.rank_s a.g.now.rank_t quota_s quota_t a.plan.now.has.now a.plan.now.n a.plan.now.edges.now
    a.ps.now a.pt.now a.room.now.s a.room.now.t c.requires.1 c.requires.2 c.requires.3 c.requires.4 c.requires.5 roomyS roomyT f
    (replicate 1024 false) g.result c.exchanged-rival.result e h (blank_none 1024) (blank_one 1024 a.g.now.m f g.result h g.ensures)
    c.exchanged-rival.ensures

pub of-links_s-requires : goal.of-links_s-requires
of-links_s-requires c = (c.requires.0, c.requires.2)

pub of-links_t-requires : goal.of-links_t-requires
of-links_t-requires c = (c.requires.0, c.requires.3)

pub judged_by_tables-requires : goal.judged_by_tables-requires
judged_by_tables-requires c = (
  c.requires.0,
  c.requires.1,
  c.requires.2,
  c.requires.3,
  c.requires.4,
  c.requires.5,
  c.requires.6,
  c.requires.7,
  c.of-links_s.ensures,
  c.of-links_t.ensures,
  nothing_below c.args.g.now.m (low (free_at c.args.g.now.sv c.args.g.now.st c.args.plan.now.has.now c.args.room.now.s c.args.room.now.t) c.args.g.now.m) c.in_default.is c.direct.ensures,
)

pub returns : goal.returns
returns c = c.judged_by_tables.ensures
