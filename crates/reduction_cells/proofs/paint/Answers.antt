-- The cells passed are painted; c of them remain, and n turned.
use Rattle.std.proofs.Common.{◌≡◌, refl, sym, ap, subst, ◌&&◌, ◌||◌, ◌+◌, ◌<◌, zero-le, arith, lt-ltb, le-ltb, length, set, length-set, eqb, ltb}
use Rattle.lists.specs.Test.{bit}
use Rattle.model.specs.Limits.{empty_rank, node_limit}
use Rattle.arrays.specs.ArrayInstance.{at, flag}
use Rattle.arrays.specs.Passes.{Low}
use Rattle.arrays.specs.Tally.{byte_bit, byte_one}
use Rattle.reduction_cells.specs.Cells.{in_cell, passed, passed_next, passed_few}
use Rattle.reduction_cells.specs.Painted.{Painted, differ, among, among_put, low_put, painted_none, painted_empty, painted_edge}
use Rattle.reduction_cells.proofs.paint.Goals as goal

pub loop-r-init : goal.loop-r-init
unfolding passed
loop-r-init c =
    let a = c.args in
    let p = c.requires in (
      zero-le,
      refl,
      painted_none a.m a.other.now a.table.now p.v_lt_node_limit.1 a.rem.now a.v a.q
          a.f.now _,
      p.f_len.0,
      p.f_len.1,
      zero-le,
      λ i h. absurd (omega arith),
    )

pub overflow_cast-e : goal.overflow_cast-e
overflow_cast-e c =
    let a = c.args in
    let p = c.requires.v_lt_node_limit in
    let l = c.loop-r in
    omega (
      arith,
      p.1.edges,
      p.1.inside a.v l.r p.0 c.loop-r-test.true,
    )

pub bounds-rem-e : goal.bounds-rem-e
bounds-rem-e c = omega (arith, c.requires.v_lt_node_limit.1.edges)

pub bounds-other-e : goal.bounds-other-e
bounds-other-e c = omega (arith, c.requires.v_lt_node_limit.1.edges)

pub bounds-turned-n : goal.bounds-turned-n
bounds-turned-n c = let l = c.loop-r in omega
    (arith, l.invariant.4, l.invariant.5, c.loop-r-test.true)

pub bounds-f-e : goal.bounds-f-e
bounds-f-e c = omega (arith, c.requires.v_lt_node_limit.1.edges)

pub overflow_add-n : goal.overflow_add-n
overflow_add-n c =
    let l = c.loop-r in
    let a = c.args in
    let e = in_cell a.table.now a.v l.r in
    omega (
      arith,
      l.invariant.5,
      c.loop-r-test.true,
      byte_one
          (differ (flag a.rem.now e && ltb l.c a.q) (flag l.f e)),
    )

pub bounds-f-e-in-loop-r : goal.bounds-f-e-in-loop-r
bounds-f-e-in-loop-r c = omega (arith, c.requires.v_lt_node_limit.1.edges)

pub bounds-rem-e-in-loop-r : goal.bounds-rem-e-in-loop-r
bounds-rem-e-in-loop-r c = omega (arith, c.requires.v_lt_node_limit.1.edges)

pub overflow_add-c : goal.overflow_add-c
overflow_add-c c =
    let a = c.args in
    let l = c.loop-r in
    omega (
      arith,
      l.invariant.1,
      passed_few a.m a.table.now (flag a.rem.now) a.v l.r,
      byte_one (flag a.rem.now (in_cell a.table.now a.v l.r)),
    )

pub loop-r-preserved : goal.loop-r-preserved
loop-r-preserved c =
    let a = c.args in
    let l = c.loop-r in
    let e = in_cell a.table.now a.v l.r in
    let P = c.requires.v_lt_node_limit in
    let t = c.loop-r-test.true in
    let lt = c.if-m-e.false in
    let on = flag a.rem.now e && ltb l.c a.q in
    let b = differ on (flag l.f e) in
    let room : l.n < length l.turned = omega (arith, l.invariant.4, l.invariant.5, t) in (
      omega arith,
      omega (
        arith,
        l.invariant.1,
        passed_next a.m a.table.now (flag a.rem.now) a.v l.r,
        byte_bit (flag a.rem.now e),
        ap (λ b. bit (b && flag a.rem.now e)) (lt-ltb e a.m lt),
      ),
      painted_edge a.m a.other.now a.table.now P.1 a.rem.now a.v a.q a.f.now
          l.r l.f (among l.turned l.n) _ P.0 t lt (omega (arith, l.invariant.3, P.1.edges))
          on (ap (λ x. flag a.rem.now e && ltb x a.q) l.invariant.1)
          (λ u. subst (λ x. among (set l.turned l.n (at a.other.now e)) (l.n + x) u ≡ among l.turned l.n u ||
          (b && eqb (at a.other.now e) u))
          (sym (byte_bit b)) (among_put l.turned l.n (at a.other.now e) u b room))
          l.invariant.2,
      simp length-set l.invariant.3,
      simp length-set l.invariant.4,
      omega (arith, l.invariant.5, byte_one b),
      subst (λ x. Low (l.n + x) (set l.turned l.n (at a.other.now e)) node_limit) (sym (byte_bit b))
          (low_put l.turned l.n (at a.other.now e) b room (P.2 e lt) l.invariant.6),
    )

pub loop-r-preserved-then-m-e : goal.loop-r-preserved-then-m-e
loop-r-preserved-then-m-e c =
    let a = c.args in
    let l = c.loop-r in
    let e = in_cell a.table.now a.v l.r in
    let P = c.requires.v_lt_node_limit in
    let left = c.if-m-e.true in (
      omega arith,
      omega (
        arith,
        l.invariant.1,
        passed_next a.m a.table.now (flag a.rem.now) a.v l.r,
        ap (λ b. bit (b && flag a.rem.now e)) (le-ltb e a.m left),
      ),
      painted_empty a.m a.other.now a.table.now P.1 a.rem.now a.v a.q a.f.now
          l.r l.f _ left l.invariant.2,
      l.invariant.3,
      l.invariant.4,
      omega (arith, l.invariant.5),
      l.invariant.6,
    )

pub returns : goal.returns
returns c =
    let a = c.args in
    let l = c.loop-r in
    let e : l.r ≡ empty_rank = omega (arith, l.invariant.0, c.loop-r-test.false) in (
      omega (arith, l.invariant.5),
      l.invariant.4,
      l.invariant.6,
      subst (λ k. Painted a.m a.other.now a.table.now a.rem.now a.v a.q k a.f.now l.f (among l.turned l.n)) e
          l.invariant.2,
    )
