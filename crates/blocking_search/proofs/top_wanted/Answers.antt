-- `blocking_search::top_wanted` answers the first edge that passes. The loop's invariant: what the edges below i leave as the top and its key.
-- Assumes nothing.
use Rattle.std.proofs.Common.{zero-le, arith, ◌≡◌, subst}
use Rattle.arrays.specs.ArrayInstance.{at}
use Rattle.blocking_search.specs.Wanted.{wanted, edge_or, edge_told}
use Rattle.blocking_search.specs.TopSearch.{Seen, seen_none, key_low, seen_taken, seen_left, seen_all}
use Rattle.blocking_search.proofs.top_wanted.Goals.{then-p-i, else-p-i}
use Rattle.blocking_search.proofs.top_wanted.Goals as goal

pub overflow_cast-key : goal.overflow_cast-key
overflow_cast-key c = omega arith

pub overflow_mul-key : goal.overflow_mul-key
overflow_mul-key c = omega arith

pub loop-i-init : goal.loop-i-init
loop-i-init c =
    let a = c.args in (
      zero-le,
      seen_none (at a.g.now.sv) (at a.g.now.rank_s) a.g.now.m
          (wanted a.g.now.sv a.g.now.st a.g.now.rank_s a.g.now.rank_t a.ls.now a.lt.now a.p.now),
      tt,
    )

pub overflow_cast-s : goal.overflow_cast-s
overflow_cast-s c = omega (arith, c.requires.0.ends c.loop-i.i (omega arith))

pub overflow_cast-t : goal.overflow_cast-t
overflow_cast-t c = omega (arith, c.requires.1.ends c.loop-i.i (omega arith))

pub overflow_cast-r : goal.overflow_cast-r
overflow_cast-r c = omega (arith, c.requires.2 c.loop-i.i (omega arith))

-- surveyor, stand and rank are small
pub overflow_mul-k : goal.overflow_mul-k
overflow_mul-k c =
    let i = c.loop-i.i in
    let p = c.requires in
    omega (arith, p.0.ends i (omega arith), p.1.ends i (omega arith), p.2 i (omega arith))

pub overflow_add-k : goal.overflow_add-k
overflow_add-k c =
    let i = c.loop-i.i in
    let p = c.requires in
    omega (arith, p.0.ends i (omega arith), p.1.ends i (omega arith), p.2 i (omega arith))

pub bounds-p-i : goal.bounds-p-i
bounds-p-i c = omega (arith, c.requires.0.edges)

pub bounds-ls-s : goal.bounds-ls-s
bounds-ls-s c = c.requires.0.ends c.loop-i.i (omega arith)

pub bounds-lt-t : goal.bounds-lt-t
bounds-lt-t c = c.requires.1.ends c.loop-i.i (omega arith)

pub loop-i-preserved : goal.loop-i-preserved
loop-i-preserved c =
    let g = c.args.g.now in
    let i = c.loop-i.i in
    let low = key_low (at g.sv) (at g.rank_s) i (c.requires.0.ends i (omega arith)) (c.requires.2 i (omega arith)) in
    elim c.if-p-i.branch [
      | then-p-i w ↦ (omega arith, rw w.top-is (rw w.key-is (seen_taken (at g.sv) (at g.rank_s) g.m _ c.loop-i.invariant.1 w.if-p-i.true)), rw w.top-is c.loop-i-test.true)
      | else-p-i w ↦ (omega arith, rw w.top-is (rw w.key-is (seen_left (at g.sv) (at g.rank_s) g.m _ c.loop-i.invariant.1 low w.if-p-i.false)), rw w.top-is c.loop-i.invariant.2)
    ]

pub returns : goal.returns
returns c =
    let a = c.args in
    let g = a.g.now in
    let e : c.loop-i.i ≡ g.m = omega arith in
    edge_told g.m _ c.loop-i.top c.loop-i.invariant.2
    (seen_all (at g.sv) (at g.rank_s) g.m _ (subst (λ i. Seen (at g.sv) (at g.rank_s) g.m (wanted g.sv g.st g.rank_s g.rank_t a.ls.now a.lt.now a.p.now) i
    (edge_or g.m c.loop-i.top) c.loop-i.key) e c.loop-i.invariant.1) c.requires.2)
