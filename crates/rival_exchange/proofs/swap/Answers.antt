-- By what was found.
use Rattle.std.proofs.Common.{Option, Some, ap, ◌∙◌, arith, sym, subst, false, [], ◌∷◌, replicate}
use Rattle.theory_verdict.specs.Arcs.{fs, zs}
use Rattle.arrays.specs.ArrayInstance.{at}
use Rattle.rival_levels.specs.declared.Found.{Found}
use Rattle.rival_walk.specs.Edges.{arc_edge}
use Rattle.rival_walk.specs.Walks.{walk_at}
use Rattle.rival_search.specs.TwoThresholds.{Bounded}
use Rattle.rival_exchange.specs.Swaps.{Marks, blank_none, blank_marks, blank_one, marks_more, marks_path, ways_by, gone_by, come_by}
use Rattle.rival_exchange.proofs.swap.Goals as goal

pub offset_bounds-plan-i : goal.offset_bounds-plan-i
offset_bounds-plan-i c =
    let b = subst (Bounded c.args.g.now.m c.args.plan.now.n) (c.in-Some.is ∙ ap Some c.in-Alone.is) c.requires.6 in
    omega (arith, b)

pub bounds-plan-i : goal.bounds-plan-i
bounds-plan-i c =
    let b = subst (Bounded c.args.g.now.m c.args.plan.now.n) (c.in-Some.is ∙ ap Some c.in-Alone.is) c.requires.6 in
    omega (arith, b)

pub overflow_cast-x : goal.overflow_cast-x
overflow_cast-x c =
    let b = subst (Bounded c.args.g.now.m c.args.plan.now.n) (c.in-Some.is ∙ ap Some c.in-Alone.is) c.requires.6 in
    omega (arith, c.requires.4 c.in-Alone.i b)

pub ended-requires : goal.ended-requires
ended-requires c =
    let b = subst (Bounded c.args.g.now.m c.args.plan.now.n) (c.in-Some.is ∙ ap Some c.in-Alone.is) c.requires.6 in
    let x = c.requires.4 c.in-Alone.i b in
    (c.requires.0, c.requires.2, c.requires.3, c.requires.7, c.requires.8, x, x)

pub walk-requires : goal.walk-requires
walk-requires c =
    let b = subst (Bounded c.args.g.now.m c.args.plan.now.n) (c.in-Some.is ∙ ap Some c.in-Closed.is) c.requires.6 in
    (c.requires.0, c.requires.1, c.requires.4, c.requires.5, omega (arith, b.0), b.1, b.1, c.requires.3, c.requires.8)

pub offset_bounds-plan-i-in-Open : goal.offset_bounds-plan-i-in-Open
offset_bounds-plan-i-in-Open c =
    let b = subst (Bounded c.args.g.now.m c.args.plan.now.n) (c.in-Some.is ∙ ap Some c.in-Open.is) c.requires.6 in
    omega (arith, b.1)

pub bounds-plan-i-in-Open : goal.bounds-plan-i-in-Open
bounds-plan-i-in-Open c =
    let b = subst (Bounded c.args.g.now.m c.args.plan.now.n) (c.in-Some.is ∙ ap Some c.in-Open.is) c.requires.6 in
    omega (arith, b.1)

pub overflow_cast-x-in-Open : goal.overflow_cast-x-in-Open
overflow_cast-x-in-Open c =
    let b = subst (Bounded c.args.g.now.m c.args.plan.now.n) (c.in-Some.is ∙ ap Some c.in-Open.is) c.requires.6 in
    omega (arith, c.requires.4 c.in-Open.i b.1)

pub offset_bounds-plan-j : goal.offset_bounds-plan-j
offset_bounds-plan-j c =
    let b = subst (Bounded c.args.g.now.m c.args.plan.now.n) (c.in-Some.is ∙ ap Some c.in-Open.is) c.requires.6 in
    omega (arith, b.2)

pub bounds-plan-j : goal.bounds-plan-j
bounds-plan-j c =
    let b = subst (Bounded c.args.g.now.m c.args.plan.now.n) (c.in-Some.is ∙ ap Some c.in-Open.is) c.requires.6 in
    omega (arith, b.2)

pub overflow_cast-y : goal.overflow_cast-y
overflow_cast-y c =
    let b = subst (Bounded c.args.g.now.m c.args.plan.now.n) (c.in-Some.is ∙ ap Some c.in-Open.is) c.requires.6 in
    omega (arith, c.requires.4 c.in-Open.j b.2)

pub ended-start-requires : goal.ended-start-requires
ended-start-requires c =
    let b = subst (Bounded c.args.g.now.m c.args.plan.now.n) (c.in-Some.is ∙ ap Some c.in-Open.is) c.requires.6 in (
      c.requires.0,
      c.requires.2,
      c.requires.3,
      c.requires.7,
      c.requires.8,
      c.requires.4 c.in-Open.i b.1,
      c.requires.4 c.in-Open.j b.2,
    )

pub walk-requires-in-Open : goal.walk-requires-in-Open
walk-requires-in-Open c =
    let b = subst (Bounded c.args.g.now.m c.args.plan.now.n) (c.in-Some.is ∙ ap Some c.in-Open.is) c.requires.6 in
    (c.requires.0, c.requires.1, c.requires.4, c.requires.5, omega (arith, b.0), b.1, b.2, c.requires.3, c.requires.8)

pub returns-in_default : goal.returns-in_default
returns-in_default c =
    let a = c.args in
    subst
    (λ (f : Option Found). Marks (replicate 1024 false)
    (gone_by a.g.now.m a.g.now.sv a.g.now.st a.g.now.rank_s a.g.now.rank_t a.plan.now.has.now a.room.now.s a.room.now.t a.plan.now.edges.now a.arcs.now a.plan.now.n f)
    × Marks (replicate 1024 false)
    (come_by a.g.now.m a.g.now.sv a.g.now.st a.g.now.rank_s a.g.now.rank_t a.plan.now.has.now a.room.now.s a.room.now.t a.plan.now.edges.now
    a.arcs.now a.plan.now.n f))
    (sym c.in_default.is)
    (blank_none 1024, blank_none 1024)

pub returns-in-Direct : goal.returns-in-Direct
returns-in-Direct c =
    let a = c.args in
    subst
    (λ (f : Option Found). Marks (replicate 1024 false)
    (gone_by a.g.now.m a.g.now.sv a.g.now.st a.g.now.rank_s a.g.now.rank_t a.plan.now.has.now a.room.now.s a.room.now.t a.plan.now.edges.now a.arcs.now a.plan.now.n f)
    × Marks c.gained.result
    (come_by a.g.now.m a.g.now.sv a.g.now.st a.g.now.rank_s a.g.now.rank_t a.plan.now.has.now a.room.now.s a.room.now.t a.plan.now.edges.now
    a.arcs.now a.plan.now.n f))
    (sym (c.in-Some.is ∙ ap Some c.in-Direct.is)) (
      blank_none 1024,
      blank_one 1024 a.g.now.m c.in-Direct.f c.gained.result
          (subst (Bounded a.g.now.m a.plan.now.n) (c.in-Some.is ∙ ap Some c.in-Direct.is) c.requires.6) c.gained.ensures,
    )

pub returns-in-Alone : goal.returns-in-Alone
returns-in-Alone c =
    let a = c.args in
    subst
    (λ (f : Option Found). Marks c.ended.result.gone
    (gone_by a.g.now.m a.g.now.sv a.g.now.st a.g.now.rank_s a.g.now.rank_t a.plan.now.has.now a.room.now.s a.room.now.t a.plan.now.edges.now a.arcs.now a.plan.now.n f)
    × Marks c.ended.result.come
    (come_by a.g.now.m a.g.now.sv a.g.now.st a.g.now.rank_s a.g.now.rank_t a.plan.now.has.now a.room.now.s a.room.now.t a.plan.now.edges.now
    a.arcs.now a.plan.now.n f))
    (sym (c.in-Some.is ∙ ap Some c.in-Alone.is))
    (c.ended.ensures.0, c.ended.ensures.1)

pub returns-in-Closed : goal.returns-in-Closed
returns-in-Closed c =
    let a = c.args in
    subst
    (λ (f : Option Found). Marks c.walk.result.gone
    (gone_by a.g.now.m a.g.now.sv a.g.now.st a.g.now.rank_s a.g.now.rank_t a.plan.now.has.now a.room.now.s a.room.now.t a.plan.now.edges.now a.arcs.now a.plan.now.n f)
    × Marks c.walk.result.come
    (come_by a.g.now.m a.g.now.sv a.g.now.st a.g.now.rank_s a.g.now.rank_t a.plan.now.has.now a.room.now.s a.room.now.t a.plan.now.edges.now
    a.arcs.now a.plan.now.n f))
    (sym (c.in-Some.is ∙ ap Some c.in-Closed.is)) (
      blank_marks 1024
          (zs
          (walk_at (arc_edge a.g.now.m a.g.now.sv a.g.now.st a.g.now.rank_s a.g.now.rank_t a.plan.now.has.now) a.plan.now.edges.now a.arcs.now a.plan.now.n
          c.in-Closed.i c.in-Closed.l c.in-Closed.i))
          c.walk.result.gone c.walk.ensures.0,
      blank_marks 1024
          (fs
          (walk_at (arc_edge a.g.now.m a.g.now.sv a.g.now.st a.g.now.rank_s a.g.now.rank_t a.plan.now.has.now) a.plan.now.edges.now a.arcs.now a.plan.now.n
          c.in-Closed.i c.in-Closed.l c.in-Closed.i))
          c.walk.result.come c.walk.ensures.1,
    )

pub returns-in-Open : goal.returns-in-Open
returns-in-Open c =
    let a = c.args in
    subst
    (λ (f : Option Found). Marks c.walk-in-Open.result.gone
    (gone_by a.g.now.m a.g.now.sv a.g.now.st a.g.now.rank_s a.g.now.rank_t a.plan.now.has.now a.room.now.s a.room.now.t a.plan.now.edges.now a.arcs.now a.plan.now.n f)
    × Marks c.walk-in-Open.result.come
    (come_by a.g.now.m a.g.now.sv a.g.now.st a.g.now.rank_s a.g.now.rank_t a.plan.now.has.now a.room.now.s a.room.now.t a.plan.now.edges.now
    a.arcs.now a.plan.now.n f))
    (sym (c.in-Some.is ∙ ap Some c.in-Open.is)) (
      marks_more c.ended-start.result.gone (at a.plan.now.edges.now c.in-Open.i ∷ [])
          (zs
          (walk_at (arc_edge a.g.now.m a.g.now.sv a.g.now.st a.g.now.rank_s a.g.now.rank_t a.plan.now.has.now) a.plan.now.edges.now a.arcs.now a.plan.now.n
          c.in-Open.j c.in-Open.l
          c.in-Open.i))
          c.walk-in-Open.result.gone c.ended-start.ensures.0 c.walk-in-Open.ensures.0,
      marks_path
          (ways_by a.g.now.m a.g.now.sv a.g.now.st a.g.now.rank_s a.g.now.rank_t a.plan.now.has.now a.room.now.s a.room.now.t a.plan.now.edges.now a.arcs.now
          a.plan.now.n (at a.plan.now.edges.now c.in-Open.i)
          (at a.plan.now.edges.now c.in-Open.j)).0
          (ways_by a.g.now.m a.g.now.sv a.g.now.st a.g.now.rank_s a.g.now.rank_t a.plan.now.has.now a.room.now.s a.room.now.t a.plan.now.edges.now a.arcs.now
          a.plan.now.n (at a.plan.now.edges.now c.in-Open.i)
          (at a.plan.now.edges.now c.in-Open.j)).1
          (walk_at (arc_edge a.g.now.m a.g.now.sv a.g.now.st a.g.now.rank_s a.g.now.rank_t a.plan.now.has.now) a.plan.now.edges.now a.arcs.now a.plan.now.n
          c.in-Open.j c.in-Open.l
          c.in-Open.i)
          c.ended-start.result.come c.walk-in-Open.result.come c.ended-start.ensures.1 c.walk-in-Open.ensures.1,
    )
