-- The run: where it stands after each offer, and that nobody before the place to look from offers.
use Rattle.std.proofs.Common.{◌≤◌, refl, arith}
use Rattle.reduction_cells.specs.Cells.{celled_spread}
use Rattle.offers.specs.NextEntry.{offer_of}
use Rattle.offers.specs.Running.{unmarked, running_start, running_next, resumed, none_left, all_made}
use Rattle.offers.proofs.run.Goals as goal

pub overflow_cast-standing : goal.overflow_cast-standing
overflow_cast-standing c = omega (arith, c.requires.0.loaded.edges)

pub loop-i-init : goal.loop-i-init
loop-i-init c = ((λ R. running_start c.args.g.now R), λ i l. absurd (omega arith))

pub next_offer-requires : goal.next_offer-requires
next_offer-requires c =
    let g = c.args.g.now in
    let L = c.requires.0.loaded in (
      L.surveyors,
      L.edges,
      (celled_spread g.m g.sv g.rank_s unmarked c.args.cell.now c.requires.1).inside,
      c.loop-i.invariant.1,
    )

pub turn-from-requires : goal.turn-from-requires
turn-from-requires c =
    let l = c.loop-i in
    let L = c.requires.0.loaded in
    let W = l.invariant.0 c.requires.0 in record {
      m_le_entry_limit = (L.edges, omega arith, (λ e l. L.low_sv e), (λ e l. L.low_st e), L.lawful.at_s.placed);
      sized = (W.size, λ t w. let h = W.inside t w in omega (arith, L.edges));
    }

pub loop-i-preserved : goal.loop-i-preserved
loop-i-preserved c =
    let e = c.in-Some.ensures.0 in
    let n = c.in-Some in
    let i = c.loop-i-test.true in
    let l = c.loop-i in
    let g = c.args.g.now in
    let o = l.standing in
    let T = c.turn-from.ensures in (
      (λ R. running_next g R c.args.cell.now c.requires.1 o l.i (l.invariant.0 R) n.e n.ensures.1 _ _ T (omega (arith, i)) (omega (arith, e, n.ensures.1))),
      resumed g c.requires.0 c.args.cell.now c.requires.1 o l.i (l.invariant.0 c.requires.0) n.e n.ensures.1 _ _ T (omega (arith, e, n.ensures.1)),
    )

-- m offers were made
pub returns-after-loop-i : goal.returns-after-loop-i
returns-after-loop-i c =
    let l = c.loop-i in
    λ R. (
      l.i,
      l.invariant.0 R,
      all_made c.args.g.now R (l.standing) l.i (l.invariant.0 R) (omega arith),
    )

-- nobody has one left
pub returns-in_default : goal.returns-in_default
returns-in_default c =
    let l = c.loop-i in
    let g = c.args.g.now in
    let e : g.m ≤ offer_of g.m g.ns c.args.cell.now l.standing.next l.standing.held = omega (arith, c.in_default.ensures) in
    λ R. (
      l.i,
      l.invariant.0 R,
      none_left g R c.args.cell.now c.requires.1 l.standing l.i (l.invariant.0 R) _ refl e,
    )
