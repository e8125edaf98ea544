-- The plan is listed, written and weighed; the number of its edges gives that of its bytes.
use Rattle.std.proofs.Common.{arith}
use Rattle.model_files.specs.Offers.{offers_plan}
use Rattle.instance.specs.Decoded.{shown_by}
use Rattle.profile.specs.Weighed.{offers_shows, offers_few, gives}
use Rattle.profile.proofs.offered.Goals as goal

pub list_edges-l-requires : goal.list_edges-l-requires
list_edges-l-requires c =
    (c.requires.0.loaded.edges, offers_few c.args.g c.requires.0 c.offers-plan.result c.offers-plan.ensures)

pub write_plan-requires : goal.write_plan-requires
write_plan-requires c =
    let L = c.requires.0.loaded in (
      (
        c.args.g.m,
        c.offers-plan.result,
        record { edges = L.edges; low_sv = λ e h. L.low_sv e; low_st = λ e h. L.low_st e; list = c.list_edges-l.ensures },
      ),
      c.requires.1,
    )

pub is_strong-strong-requires : goal.is_strong-strong-requires
is_strong-strong-requires c =
    let g = c.args.g in
    (c.requires.0.loaded, (offers_plan (shown_by g), offers_shows g c.requires.0 c.offers-plan.result c.offers-plan.ensures), c.list_edges-l.ensures)

pub returns : goal.returns
returns c =
    let g = c.args.g in
    gives g c.requires.0 c.offers-plan.result c.offers-plan.ensures c.list_edges-l.result.n c.list_edges-l.result.edges _ _ c.is_strong-strong.result
    c.list_edges-l.ensures
    (c.write_plan.ensures g.m c.offers-plan.result c.list_edges-l.ensures)
    c.is_strong-strong.ensures

pub overflow_mul-result : goal.overflow_mul-result
overflow_mul-result c = omega (arith, c.list_edges-l.ensures.few)

pub overflow_add-result : goal.overflow_add-result
overflow_add-result c = omega (arith, c.list_edges-l.ensures.few)
