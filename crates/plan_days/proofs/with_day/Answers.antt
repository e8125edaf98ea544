-- plan_days::with_day: the first free days by the tables, and the chain. Assumes nothing.
use Rattle.std.proofs.Common.{◌+◌, arith, sym, ◌∙◌, subst, set, rules}
use Rattle.plan_days.specs.Tables.{Held}
use Rattle.plan_days.specs.Turns.{Chasing, b_low, placed, a_low, chained, chasing}
use Rattle.plan_days.proofs.with_day.Goals as goal

pub free_day-b-requires : goal.free_day-b-requires
free_day-b-requires c = (c.requires.many, c.requires.nodes_t c.args.k (omega arith))

pub who_at-requires : goal.who_at-requires
who_at-requires c =
    let a = c.args in
    let f = c.free_day-b in (
      c.requires.many,
      c.requires.nodes_s a.k (omega arith),
      omega (
        arith,
        b_low a.k a.ends.now.surveyors a.ends.now.stands a.sheet.now.day a.sheet.now.at_surveyors a.sheet.now.at_stands
            c.requires f.result f.ensures,
      ),
    )

pub bounds-sheet-k : goal.bounds-sheet-k
bounds-sheet-k c = search rules

pub tell-requires : goal.tell-requires
tell-requires c =
    let a = c.args in
    let f = c.free_day-b in (
      c.requires.many,
      c.requires.nodes_s a.k (omega arith),
      omega (
        arith,
        b_low a.k a.ends.now.surveyors a.ends.now.stands a.sheet.now.day a.sheet.now.at_surveyors a.sheet.now.at_stands
            c.requires f.result f.ensures,
      ),
    )

pub tell-requires-then-who_at-eq0 : goal.tell-requires-then-who_at-eq0
tell-requires-then-who_at-eq0 c =
    let a = c.args in
    let f = c.free_day-b in (
      c.requires.many,
      c.requires.nodes_t a.k (omega arith),
      omega (
        arith,
        b_low a.k a.ends.now.surveyors a.ends.now.stands a.sheet.now.day a.sheet.now.at_surveyors a.sheet.now.at_stands
            c.requires f.result f.ensures,
      ),
    )

pub returns-then-who_at-eq0 : goal.returns-then-who_at-eq0
returns-then-who_at-eq0 c =
    let a = c.args in
    let f = c.free_day-b in
    let (days, held_s, held_t) = placed a.k a.ends.now.surveyors a.ends.now.stands a.sheet.now.day a.sheet.now.at_surveyors a.sheet.now.at_stands c.requires f.result f.ensures
    (sym c.who_at.ensures ∙ c.if-who_at-eq0.true) in (
      days,
      subst (Held (a.k + 1) a.ends.now.surveyors (set a.sheet.now.day a.k f.result)) (sym c.tell.ensures) held_s,
      subst (Held (a.k + 1) a.ends.now.stands (set a.sheet.now.day a.k f.result)) (sym c.tell-then-who_at-eq0.ensures) held_t,
    )

pub free_day-a-requires : goal.free_day-a-requires
free_day-a-requires c = (c.requires.many, c.requires.nodes_s c.args.k (omega arith))

pub bounds-sheet-k-2 : goal.bounds-sheet-k-2
bounds-sheet-k-2 c = search rules

pub tell-requires-2 : goal.tell-requires-2
tell-requires-2 c =
    let a = c.args in
    let f = c.free_day-b in
    let g = c.free_day-a in (
      c.requires.many,
      c.requires.nodes_s a.k (omega arith),
      omega (
        arith,
        a_low a.k a.ends.now.surveyors a.ends.now.stands a.sheet.now.day a.sheet.now.at_surveyors a.sheet.now.at_stands c.requires f.result f.ensures g.result
            g.ensures (λ z. c.if-who_at-eq0.false (c.who_at.ensures ∙ z)),
      ),
    )

pub overflow_add-k : goal.overflow_add-k
overflow_add-k c = search rules

pub chase-requires : goal.chase-requires
chase-requires c =
    let a = c.args in
    let f = c.free_day-b in
    let g = c.free_day-a in
    subst (λ w. Chasing (a.k + 1) a.ends.now.surveyors a.ends.now.stands g.result f.result a.k (set a.sheet.now.day a.k g.result) w a.sheet.now.at_stands)
    (sym c.tell-2.ensures)
    (chasing a.k a.ends.now.surveyors a.ends.now.stands a.sheet.now.day a.sheet.now.at_surveyors a.sheet.now.at_stands c.requires f.result f.ensures g.result g.ensures
    (λ z. c.if-who_at-eq0.false (c.who_at.ensures ∙ z)))

pub returns : goal.returns
returns c =
    let a = c.args in
    let f = c.free_day-b in
    let g = c.free_day-a in
    let r = c.chase.ensures in (
      r.0 ∙ chained a.k a.ends.now.surveyors a.ends.now.stands a.sheet.now.day a.sheet.now.at_surveyors a.sheet.now.at_stands c.requires f.result f.ensures g.result g.ensures
          (λ z. c.if-who_at-eq0.false (c.who_at.ensures ∙ z)),
      r.1,
      r.2,
    )
