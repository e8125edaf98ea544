-- `instance::filled` meets its contract: the entries below e are written. Assumes nothing.
use Rattle.std.proofs.Common.{◌≡◌, refl, subst, false, ℕ, ◌<◌, zero-le, arith}
use Rattle.model.specs.Edges.{Edge}
use Rattle.roster_positions.specs.Tables.{table_size}
use Rattle.arrays.specs.ArrayInstance.{at}
use Rattle.arrays.specs.Passes.{Shows, fill_none, fill_next}
use Rattle.instance.specs.Cells.{cell_edge}
use Rattle.instance.proofs.filled.Goals.{In-loop-e}
use Rattle.instance.proofs.filled.Goals as goal

-- the cell of a turn is one of the grid's
low : (c : In-loop-e) → at c.args.cell.now c.loop-e.e < table_size
low c = c.requires.1 c.loop-e.e c.loop-e-test.true

pub loop-e-init : goal.loop-e-init
loop-e-init c =
    let a = c.args in
    let f : ℕ → Edge = λ e. cell_edge a.listed.now a.strict.now a.next.now (at a.cell.now e) in (
      zero-le,
      fill_none 0 1024 (λ e. (f e).surveyor),
      fill_none 0 1024 (λ e. (f e).stand),
      fill_none 0 1024 (λ e. (f e).shift),
      fill_none 0 1024 (λ e. (f e).rank_s),
      fill_none 0 1024 (λ e. (f e).rank_t),
      fill_none false 1024 (λ e. (f e).tied),
    )

pub loop-e-preserved : goal.loop-e-preserved
loop-e-preserved c =
    let a = c.args in
    let x = c.loop-e in
    let f : ℕ → Edge = λ e. cell_edge a.listed.now a.strict.now a.next.now (at a.cell.now e) in
    let h : x.e < 1024 = omega arith in (
      omega arith,
      fill_next 0 1024 x.sv (λ e. (f e).surveyor) x.e _ refl h x.invariant.1,
      fill_next 0 1024 x.st (λ e. (f e).stand) x.e _ refl h x.invariant.2,
      fill_next 0 1024 x.sh (λ e. (f e).shift) x.e _ refl h x.invariant.3,
      fill_next 0 1024 x.rank_s (λ e. (f e).rank_s) x.e _ refl h x.invariant.4,
      fill_next 0 1024 x.rank_t (λ e. (f e).rank_t) x.e c.rank_of.result c.rank_of.ensures h x.invariant.5,
      fill_next false 1024 x.tied (λ e. (f e).tied) x.e _ refl h x.invariant.6,
    )

pub returns : goal.returns
returns c =
    let a = c.args in
    let x = c.loop-e in
    let q : x.e ≡ a.m = omega arith in
    let f : ℕ → Edge = λ e. cell_edge a.listed.now a.strict.now a.next.now (at a.cell.now e) in
    record {
      edges = refl;
      surveyors = refl;
      stands = refl;
      sv = subst (λ k. Shows 0 x.sv k (λ e. (f e).surveyor)) q x.invariant.1.shows;
      st = subst (λ k. Shows 0 x.st k (λ e. (f e).stand)) q x.invariant.2.shows;
      sh = subst (λ k. Shows 0 x.sh k (λ e. (f e).shift)) q x.invariant.3.shows;
      rank_s = subst (λ k. Shows 0 x.rank_s k (λ e. (f e).rank_s)) q x.invariant.4.shows;
      rank_t = subst (λ k. Shows 0 x.rank_t k (λ e. (f e).rank_t)) q x.invariant.5.shows;
      tied = subst (λ k. Shows false x.tied k (λ e. (f e).tied)) q x.invariant.6.shows;
      quota_s = refl;
      quota_t = refl;
    }

pub overflow_cast-c : goal.overflow_cast-c
overflow_cast-c c = omega (arith, low (goal.at.overflow_cast-c c).In-loop-e)

pub overflow_mul-t-in-loop-e : goal.overflow_mul-t-in-loop-e
overflow_mul-t-in-loop-e c = omega (arith, low (goal.at.overflow_mul-t-in-loop-e c).In-loop-e)

pub overflow_add-t : goal.overflow_add-t
overflow_add-t c = omega (arith, low (goal.at.overflow_add-t c).In-loop-e)

pub overflow_add-t-in-loop-e : goal.overflow_add-t-in-loop-e
overflow_add-t-in-loop-e c = omega (arith, low (goal.at.overflow_add-t-in-loop-e c).In-loop-e)

pub bounds-strict-j : goal.bounds-strict-j
bounds-strict-j c = omega (arith, low (goal.at.bounds-strict-j c).In-loop-e)

pub overflow_cast-sv : goal.overflow_cast-sv
overflow_cast-sv c = omega (arith, low (goal.at.overflow_cast-sv c).In-loop-e)

pub bounds-listed-c : goal.bounds-listed-c
bounds-listed-c c = omega (arith, low (goal.at.bounds-listed-c c).In-loop-e)
