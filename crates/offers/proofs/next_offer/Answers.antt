-- None of the surveyors passed offers.
use Rattle.std.proofs.Common.{◌≤◌, arith, ◌∙◌}
use Rattle.arrays.specs.ArrayInstance.{at}
use Rattle.offers.specs.NextEntry.{offering, entry_from, missed_next, held_missed, empty_missed, offer_hit, offer_none}
use Rattle.offers.proofs.next_offer.Goals as goal

pub loop-s-init : goal.loop-s-init
loop-s-init c = c.requires.3

pub loop-s-preserved-then-standing-s : goal.loop-s-preserved-then-standing-s
loop-s-preserved-then-standing-s c =
    let l = c.loop-s in
    let a = c.args in
    missed_next (offering a.g.now.m a.cell.now a.standing.now.next a.standing.now.held) l.s l.invariant
    (held_missed a.g.now.m a.g.now.ns a.cell.now a.standing.now.next a.standing.now.held l.s c.if-standing-s.true)

pub entry_from-requires : goal.entry_from-requires
entry_from-requires c = (omega (arith, c.requires.0), c.requires.1, c.requires.2)

pub returns-in-Some : goal.returns-in-Some
returns-in-Some c =
    let l = c.loop-s in
    let a = c.args in
    let e = c.in-Some.ensures.1 ∙ offer_hit a.g.now.m a.g.now.ns a.cell.now a.standing.now.next a.standing.now.held l.s (omega arith) c.if-standing-s.false
    c.in-Some.ensures.0 l.invariant in
    (omega (arith, c.in-Some.ensures, e), e)

pub loop-s-preserved : goal.loop-s-preserved
loop-s-preserved c =
    let l = c.loop-s in
    let a = c.args in
    let o = a.standing.now in
    let e : a.g.now.m ≤ entry_from a.g.now.m a.cell.now l.s (at o.next l.s) = omega (arith, c.in_default.ensures) in
    missed_next (offering a.g.now.m a.cell.now o.next o.held) l.s l.invariant
    (empty_missed a.g.now.m a.g.now.ns a.cell.now o.next o.held l.s e)

pub returns : goal.returns
returns c h =
    let l = c.loop-s in
    let a = c.args in
    absurd (omega (arith, h, offer_none a.g.now.m a.g.now.ns a.cell.now a.standing.now.next a.standing.now.held l.s (omega arith) l.invariant))
