-- The ways out of the search.
use Rattle.std.proofs.Common.{◌≡◌, ℕ, List, Option, Some, IfSome, subst, ◌+◌, refl, arith, sym, ◌∙◌}
use Rattle.rival_tables.specs.Filled.{cell}
use Rattle.rival_tables.specs.Within.{found_below, nothing_below}
use Rattle.rival_levels.specs.Levels.{diag_at, none_is_place}
use Rattle.rival_certificate.specs.Certified.{Closed, closed_small}
use Rattle.rival_tight.specs.Tight.{levels_loops}
use Rattle.rival_search.specs.TwoThresholds.{out_alone, out_levels}
use Rattle.rival_search.proofs.search.Goals as goal

pub returns-in-Some : goal.returns-in-Some
returns-in-Some c =
    let a = c.args in
    let (e, h) = found_below a.n c.in-Some.i (diag_at (cell a.ends.now) a.n (4 + a.k)) c.in-Some.is c.diagonal.ensures in
    out_alone a.arcs.now a.ends.now a.n a.k c.in-Some.i e h

-- the table that is there is closed
there : {o : Option (List ℕ)} {costs arcs : List ℕ} {n : ℕ} → o ≡ Some costs → IfSome o (λ t. Closed arcs t n) → Closed arcs costs n
there {o} {costs} {arcs} {n} e h = subst (λ (o : Option (List ℕ)). IfSome o (λ t. Closed arcs t n)) e h

pub pair-requires : goal.pair-requires
pair-requires c =
    let a = c.args in
    (c.requires.0, closed_small a.arcs.now c.in-Some-certificate.costs a.n (there c.in-Some-certificate.is c.requires.5), c.requires.4)

pub closed_walk-requires : goal.closed_walk-requires
closed_walk-requires c =
    (c.requires.0, c.requires.1, c.requires.2, c.requires.3, there c.in-Some-certificate.is c.requires.5)

pub returns-then-is_none : goal.returns-then-is_none
returns-then-is_none c =
    let a = c.args in
    c.closed_walk.ensures
    ∙ sym
    (levels_loops a.arcs.now a.ends.now c.in-Some-certificate.costs a.n a.k c.requires.0 c.requires.1 (there c.in-Some-certificate.is c.requires.5)
    (none_is_place (cell c.in-Some-certificate.costs) a.ends.now a.n (68 + a.k) c.if-is_none.ensures c.pair.ensures) a.n 0 (omega arith))
    ∙ out_levels a.arcs.now a.ends.now a.n a.k (diag_at (cell a.ends.now) a.n (4 + a.k)) refl
    (nothing_below a.n (diag_at (cell a.ends.now) a.n (4 + a.k)) c.in_default.is c.diagonal.ensures)

pub levels-requires : goal.levels-requires
levels-requires c =
    (c.requires.0, omega arith, c.requires.1, c.requires.2, c.requires.3, c.requires.4)

pub returns : goal.returns
returns c =
    let a = c.args in
    let i = diag_at (cell a.ends.now) a.n (4 + a.k) in
    c.levels.ensures ∙ out_levels a.arcs.now a.ends.now a.n a.k i refl (nothing_below a.n i c.in_default.is c.diagonal.ensures)
