-- plan_days::chase is the chain. The loop's invariant: the chain from here on is the chain from the start, and it is cur's turn at its stand. Assumes
-- nothing.
use Rattle.std.proofs.Common.{◌+◌, ◌-◌, ◌<◌, zero-le, arith, ◌≡◌, sym, ap, ◌∙◌, subst}
use Rattle.arrays.specs.ArrayInstance.{at}
use Rattle.theory_days.specs.Chain.{Proper}
use Rattle.plan_days.specs.Chase.{chase_in, turns, turns_end, chase_stop, chase_half, chase_on}
use Rattle.plan_days.specs.Turns.{stand_ends, stand_meets, surveyor_ends, surveyor_meets, proper_ends}
use Rattle.plan_days.proofs.chase.Goals.{Else-e-eq0, Else-f-eq0}
use Rattle.plan_days.proofs.chase.Goals as goal

pub loop-i-init : goal.loop-i-init
loop-i-init c = (
  zero-le,
  (let e : c.args.n ≡ c.args.n - 0 = omega arith in ap
      (λ t. chase_in c.args.n c.args.ends.now.surveyors c.args.ends.now.stands c.args.a c.args.b t c.args.k c.args.sheet.now.day) e),
  c.requires.turn,
)

pub settle-e-requires : goal.settle-e-requires
settle-e-requires c =
    let U = c.loop-i.invariant.2 in
    (omega (arith, U.in_n_law, c.requires.many), c.requires.nodes_t c.loop-i.cur U.in_n_law, c.requires.a_in, c.requires.b_in)

pub returns-then-e-eq0 : goal.returns-then-e-eq0
returns-then-e-eq0 c =
    let a = c.args in
    let r = c.settle-e.ensures in
    let (none, held) = stand_ends c.requires c.loop-i.invariant.2 r.0 r.1 c.if-e-eq0.true in (
      sym (c.loop-i.invariant.1 ∙ turns a.n a.ends.now.surveyors a.ends.now.stands a.a a.b c.loop-i.i c.loop-i.cur c.loop-i.sheet.day (omega arith)
          ∙ chase_stop a.n a.ends.now.surveyors a.ends.now.stands a.a a.b (a.n - (c.loop-i.i + 1)) c.loop-i.cur c.loop-i.sheet.day a.n none (omega arith)),
      c.loop-i.invariant.2.told,
      held,
    )

-- the entry that is met at the stand, and the one that is met at its surveyor then
met : (c : Else-e-eq0) → c.settle-e.result - 1 < c.args.n
met c = let r = c.settle-e.ensures in
    (stand_meets c.requires c.loop-i.invariant.2 r.0 r.1 c.if-e-eq0.false).0

met_2 : (c : Else-f-eq0) → c.settle-f.result - 1 < c.args.n
met_2 c =
    let r = c.settle-e.ensures in
    let q = c.settle-f.ensures in
    (surveyor_meets c.requires (stand_meets c.requires c.loop-i.invariant.2 r.0 r.1 c.if-e-eq0.false).2 q.0 q.1 c.if-f-eq0.false).0

pub overflow_cast-x : goal.overflow_cast-x
overflow_cast-x c = omega (arith, met (goal.at.overflow_cast-x c).Else-e-eq0, c.requires.many)

pub bounds-sheet-x : goal.bounds-sheet-x
bounds-sheet-x c = omega (arith, met (goal.at.bounds-sheet-x c).Else-e-eq0, c.requires.many)

pub settle-f-requires : goal.settle-f-requires
settle-f-requires c =
    let P = c.requires in
    (omega (arith, met (goal.at.settle-f-requires c).Else-e-eq0, P.many), P.nodes_s (c.settle-e.result - 1) (met (goal.at.settle-f-requires c).Else-e-eq0), P.b_in, P.a_in)

pub returns-then-f-eq0 : goal.returns-then-f-eq0
returns-then-f-eq0 c =
    let a = c.args in
    let r = c.settle-e in
    let (e-in, e-low, U) = stand_meets c.requires c.loop-i.invariant.2 r.ensures.0 r.ensures.1 c.if-e-eq0.false in
    let q = c.settle-f.ensures in
    let (none, held) = surveyor_ends c.requires U q.0 q.1 c.if-f-eq0.true in (
      sym (c.loop-i.invariant.1 ∙ turns a.n a.ends.now.surveyors a.ends.now.stands a.a a.b c.loop-i.i c.loop-i.cur c.loop-i.sheet.day (omega arith)
          ∙ chase_half a.n a.ends.now.surveyors a.ends.now.stands a.a a.b (a.n - (c.loop-i.i + 1)) c.loop-i.cur c.loop-i.sheet.day (r.result - 1) e-low
          a.n none
          e-in (omega arith)),
      held,
      U.told,
    )

pub overflow_cast-cur : goal.overflow_cast-cur
overflow_cast-cur c = omega (arith, met_2 (goal.at.overflow_cast-cur c).Else-f-eq0, c.requires.many)

pub bounds-sheet-cur : goal.bounds-sheet-cur
bounds-sheet-cur c = omega (arith, met_2 (goal.at.bounds-sheet-cur c).Else-f-eq0, c.requires.many)

pub loop-i-preserved : goal.loop-i-preserved
loop-i-preserved c =
    let a = c.args in
    let r = c.settle-e in
    let (e-in, e-low, U) = stand_meets c.requires c.loop-i.invariant.2 r.ensures.0 r.ensures.1 c.if-e-eq0.false in
    let q = c.settle-f in
    let (f-in, f-low, W) = surveyor_meets c.requires U q.ensures.0 q.ensures.1 c.if-f-eq0.false in
    let more = c.loop-i-test.true in (
      omega (arith, more),
      c.loop-i.invariant.1 ∙ turns a.n a.ends.now.surveyors a.ends.now.stands a.a a.b c.loop-i.i c.loop-i.cur c.loop-i.sheet.day (omega (arith, more))
          ∙ chase_on a.n a.ends.now.surveyors a.ends.now.stands a.a a.b (a.n - (c.loop-i.i + 1)) c.loop-i.cur c.loop-i.sheet.day (r.result - 1) e-low
          (q.result - 1) f-low e-in f-in,
      W,
    )

pub settle-requires : goal.settle-requires
settle-requires c =
    let U = c.loop-i.invariant.2 in
    (omega (arith, U.in_n_law, c.requires.many), c.requires.nodes_t c.loop-i.cur U.in_n_law, c.requires.a_in, c.requires.b_in)

pub returns : goal.returns
returns c =
    let a = c.args in
    let r = c.settle.ensures in
    let end : chase_in a.n a.ends.now.surveyors a.ends.now.stands a.a a.b a.n a.k a.sheet.now.day ≡ c.loop-i.sheet.day = c.loop-i.invariant.1
    ∙ turns_end a.n a.ends.now.surveyors a.ends.now.stands a.a a.b c.loop-i.i c.loop-i.cur c.loop-i.sheet.day (omega arith) in
    let free = proper_ends a.n a.ends.now.surveyors a.ends.now.stands c.loop-i.sheet.day c.loop-i.sheet.at_stands c.loop-i.sheet.at_surveyors c.loop-i.cur a.a a.b c.requires.nodes_t
    c.requires.differ c.requires.a_in c.requires.b_in c.loop-i.invariant.2 (subst (λ ds. Proper (at a.ends.now.surveyors) (at a.ends.now.stands) a.n (at ds)) end
    c.requires.proper) in
    (sym end, c.loop-i.invariant.2.told, (stand_ends c.requires c.loop-i.invariant.2 r.0 r.1 (r.0 ∙ free)).1)

pub overflow_sub-x : goal.overflow_sub-x
overflow_sub-x c = omega (arith, c.if-e-eq0.false)

pub overflow_sub-cur : goal.overflow_sub-cur
overflow_sub-cur c = omega (arith, c.if-f-eq0.false)
