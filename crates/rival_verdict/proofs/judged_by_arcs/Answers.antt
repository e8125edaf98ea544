-- The search on both tables, what it found read back, and the edges exchanged.
use Rattle.std.proofs.Common.{Option, sym, subst}
use Rattle.rival_levels.specs.declared.Found.{Found}
use Rattle.rival_search.specs.TwoThresholds.{Bounded, tables_bounded}
use Rattle.rival_verdict.specs.RivalOfArrays.{Exchanged}
use Rattle.rival_verdict.proofs.judged_by_arcs.Goals as goal

pub searched_on-hunt-requires : goal.searched_on-hunt-requires
searched_on-hunt-requires c = (c.requires.1, c.requires.5, c.requires.6, c.requires.7)

pub swap-s-requires : goal.swap-s-requires
swap-s-requires c =
    let h = c.searched_on-hunt in
    let a = c.args in
    let p = c.requires in (
      p.0,
      p.1,
      p.2,
      p.3,
      p.4,
      p.5,
      subst (Bounded a.g.now.m a.plan.now.n) (sym c.find-found.ensures) (tables_bounded a.g.now.m a.arcs.now a.ends.now a.plan.now.n h.result h.ensures),
      p.8,
      p.9,
    )

pub exchanged-rival-requires : goal.exchanged-rival-requires
exchanged-rival-requires c = c.requires.0

pub returns : goal.returns
returns c =
    let h = c.searched_on-hunt in
    let a = c.args in (
      h.result,
      h.ensures,
      c.of.ensures,
      subst
          (λ (w : Option Found). Exchanged a.g.now.m a.g.now.sv a.g.now.st a.g.now.rank_s a.g.now.rank_t a.plan.now.has.now a.room.now.s a.room.now.t a.plan.now.n a.plan.now.edges.now a.arcs.now w c.exchanged-rival.result)
          c.find-found.ensures
          (c.swap-s.result.gone, c.swap-s.result.come, c.swap-s.ensures.0, c.swap-s.ensures.1, c.exchanged-rival.ensures),
    )
