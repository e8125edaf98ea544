-- From edge i on, each cell has the first strict edge in its place.
use Rattle.std.proofs.Common.{◌≡◌, refl, sym, ◌∙◌, subst, ap, not, ◌+◌, ◌-◌, ◌≤◌, ◌<◌, arith, length, length-set}
use Rattle.model.specs.Limits.{node_limit, empty_rank}
use Rattle.arrays.specs.ArrayInstance.{at, flag}
use Rattle.arrays.specs.Firsts.{Firsts, first_none, firsts_stored, firsts_passed}
use Rattle.reduction_cells.specs.Cells.{cell_count, place}
use Rattle.reduction_cells.proofs.cells.Goals.{After-r-1}
use Rattle.reduction_cells.proofs.cells.Goals as goal

pub loop-i-init : goal.loop-i-init
loop-i-init c =
    let a = c.args in (
      omega arith,
      refl,
      λ v h. c.requires.cell_count_in_bounds.1 v h ∙ sym (first_none a.m (place a.end.now a.rank.now) (λ e. not (flag a.tied.now e)) v),
    )

pub overflow_cast-v : goal.overflow_cast-v
overflow_cast-v c = omega (arith, c.requires.m_le_entry_limit.1 (c.loop-i.i - 1) (omega arith))

-- the edge of this turn stands in a cell
in_cells : (c : After-r-1) → let l = c in
    (at l.args.end.now (l.loop-i.i - 1) < node_limit) × (at l.args.rank.now (l.loop-i.i - 1) < empty_rank)
    × (cell_count ≤ length l.loop-i.cell)
in_cells c =
    let p = c.requires in (p.m_le_entry_limit.1 (c.loop-i.i - 1) (omega arith), p.m_le_entry_limit.2 (c.loop-i.i - 1) (omega arith), omega (arith, p.cell_count_in_bounds.0, c.loop-i.invariant.1))

pub loop-i-preserved-then-not-tied-i : goal.loop-i-preserved-then-not-tied-i
loop-i-preserved-then-not-tied-i c =
    let a = c.args in
    let i = c.loop-i.i - 1 in
    let e : c.loop-i.i ≡ i + 1 = omega arith in
    let h = in_cells (goal.at.loop-i-preserved-then-not-tied-i c).After-r-1 in (
      omega arith,
      simp length-set c.loop-i.invariant.1,
      firsts_stored a.m (place a.end.now a.rank.now) (λ e. not (flag a.tied.now e)) (length a.cell.now) i c.loop-i.cell
          (omega arith) (omega (arith, h, c.loop-i.invariant.1)) c.loop-i.invariant.1 (ap not c.if-not-tied-i.true)
          (subst (λ k. Firsts a.m (place a.end.now a.rank.now) (λ e. not (flag a.tied.now e)) (length a.cell.now) k c.loop-i.cell) e
          c.loop-i.invariant.2),
    )

pub loop-i-preserved : goal.loop-i-preserved
loop-i-preserved c =
    let a = c.args in
    let i = c.loop-i.i - 1 in
    let e : c.loop-i.i ≡ i + 1 = omega arith in (
      omega arith,
      c.loop-i.invariant.1,
      firsts_passed a.m (place a.end.now a.rank.now) (λ e. not (flag a.tied.now e)) (length a.cell.now) i c.loop-i.cell (ap not c.if-not-tied-i.false)
          (subst (λ k. Firsts a.m (place a.end.now a.rank.now) (λ e. not (flag a.tied.now e)) (length a.cell.now) k c.loop-i.cell) e
          c.loop-i.invariant.2),
    )

pub returns : goal.returns
returns c =
    let a = c.args in
    let p = c.requires in
    let e : c.loop-i.i ≡ 0 = omega arith in (
      c.loop-i.invariant.1,
      record {
        edges = p.m_le_entry_limit.0;
        firsts = λ k h. subst (λ j. Firsts a.m (place a.end.now a.rank.now) (λ e. not (flag a.tied.now e)) (length a.cell.now) j
            c.loop-i.cell) e c.loop-i.invariant.2 k (omega (arith, p.cell_count_in_bounds.0));
      },
    )

pub overflow_cast-r : goal.overflow_cast-r
overflow_cast-r c = omega (arith, (in_cells (goal.at.overflow_cast-r c).After-r-1).1)

pub overflow_mul-cell : goal.overflow_mul-cell
overflow_mul-cell c = omega (arith, in_cells (goal.at.overflow_mul-cell c).After-r-1)

pub overflow_add-cell : goal.overflow_add-cell
overflow_add-cell c = omega (arith, in_cells (goal.at.overflow_add-cell c).After-r-1)

pub offset_bounds-cell-v : goal.offset_bounds-cell-v
offset_bounds-cell-v c = omega (arith, in_cells (goal.at.offset_bounds-cell-v c).After-r-1)

pub bounds-cell-v : goal.bounds-cell-v
bounds-cell-v c = omega (arith, in_cells (goal.at.bounds-cell-v c).After-r-1)

pub shape_of-cell : goal.shape_of-cell
shape_of-cell c = c.loop-i.invariant.1
