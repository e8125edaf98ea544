-- The ways out of the first levels.
use Rattle.std.proofs.Common.{refl, arith, sym, ◌∙◌, inl, inr, ⊎_elim}
use Rattle.rival_levels.specs.Levels.{diag_at, levels_more}
use Rattle.rival_tables.specs.Filled.{cell}
use Rattle.rival_tables.specs.Within.{found_below, nothing_below}
use Rattle.rival_search.specs.TwoThresholds.{out_alone, out_levels}
use Rattle.rival_search.proofs.first_levels.Goals.{then-n-lt2, else-n-lt2}
use Rattle.rival_search.proofs.first_levels.Goals as goal

pub returns-in-Some : goal.returns-in-Some
returns-in-Some c =
    let a = c.args in
    let (e, h) = found_below a.n c.in-Some.i (diag_at (cell a.ends.now) a.n 4) c.in-Some.is c.diagonal.ensures in
    inr (out_alone a.arcs.now a.ends.now a.n 0 c.in-Some.i e h)

pub levels-requires : goal.levels-requires
levels-requires c =
    (c.requires.0, elim c.if-n-lt2.branch [ then-n-lt2 w ↦ omega arith | else-n-lt2 w ↦ omega arith ], omega arith, c.requires.1, c.requires.2, c.requires.3)

pub returns : goal.returns
returns c =
    let a = c.args in
    let i = diag_at (cell a.ends.now) a.n 4 in
    let b = c.if-n-lt2.b in
    ⊎_elim
    (λ e. inl (c.levels.ensures ∙ e))
    (λ e. inr (c.levels.ensures ∙ sym e ∙ out_levels a.arcs.now a.ends.now a.n 0 i refl (nothing_below a.n i c.in_default.is c.diagonal.ensures)))
    (levels_more a.arcs.now a.ends.now a.n 0 b a.n 0
    (elim c.if-n-lt2.branch [ then-n-lt2 w ↦ omega arith | else-n-lt2 w ↦ omega arith ]))
