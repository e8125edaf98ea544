-- `blocking_search::blocking` meets its contract: the model's blocking pair exactly if there is one. Assumes nothing.
use Rattle.std.proofs.Common.{arith}
use Rattle.blocking_thresholds.specs.PlanList.{places}
use Rattle.blocking_search.specs.Search.{answer_yes, answer_no, may_search}
use Rattle.blocking_search.proofs.blocking.Goals as goal

pub side_thresholds-ls-requires : goal.side_thresholds-ls-requires
side_thresholds-ls-requires c =
    let (L, few, l) = c.requires in
    let a = c.args in
    places a.g.m a.p.now a.n a.es.now a.g.sv L.edges L.low_sv l few

pub side_thresholds-lt-requires : goal.side_thresholds-lt-requires
side_thresholds-lt-requires c =
    let (L, few, l) = c.requires in
    let a = c.args in
    places a.g.m a.p.now a.n a.es.now a.g.st L.edges L.low_st l few

pub top_wanted-requires : goal.top_wanted-requires
top_wanted-requires c =
    let m = may_search c.args.g c.requires.0 in
    (m.0, m.1, m.2)

pub overflow_add-result : goal.overflow_add-result
overflow_add-result c = omega (arith, c.requires.0.low_sv c.in-Some.e)

pub returns-in-Some : goal.returns-in-Some
returns-in-Some c =
    let g = c.args.g in
    let l = c.side_thresholds-ls in
    let k = c.side_thresholds-lt in
    let m = may_search g c.requires.0 in
    answer_yes g.m g.sv g.st g.rank_s g.rank_t g.quota_s g.quota_t l.result k.result c.args.p.now m.2 m.3
    (l.ensures g.m c.args.p.now m.0 c.requires.2) (k.ensures g.m c.args.p.now m.1 c.requires.2)
    g.ns g.nt g.sh g.tied c.in-Some.e c.in-Some.ensures.1 (omega (arith, c.in-Some.ensures))

pub returns : goal.returns
returns c =
    let g = c.args.g in
    let l = c.side_thresholds-ls in
    let k = c.side_thresholds-lt in
    let m = may_search g c.requires.0 in
    answer_no g.m g.sv g.st g.rank_s g.rank_t g.quota_s g.quota_t l.result k.result c.args.p.now m.2 m.3
    (l.ensures g.m c.args.p.now m.0 c.requires.2) (k.ensures g.m c.args.p.now m.1 c.requires.2)
    g.ns g.nt g.sh g.tied (omega (arith, c.in_default.ensures))
