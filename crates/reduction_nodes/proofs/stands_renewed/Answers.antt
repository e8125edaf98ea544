-- The nodes passed are renewed.
use Rattle.std.proofs.Common.{◌≡◌, sym, subst, ◌+◌, zero-le, arith, length-set}
use Rattle.model.specs.Limits.{node_limit}
use Rattle.reduction_nodes.specs.Numbers.{stands_of, Stood, stand_numbers, put_rows, put_is, stood_none, stood_next, stood_skip}
use Rattle.reduction_nodes.proofs.stands_renewed.Goals as goal

pub loop-v-init : goal.loop-v-init
loop-v-init c = let a = c.args in (
  zero-le,
  c.requires.rows.0,
  c.requires.rows.1,
  λ st L. stood_none (stands_of a.m st a.table.now a.rem.now a.fs.now
      a.ft.now a.q.now) a.due.now (stand_numbers a.late.now a.loose.now),
)

pub stand_now-s-requires : goal.stand_now-s-requires
stand_now-s-requires c = (c.loop-v-test.true, c.requires.readable)

pub loop-v-preserved : goal.loop-v-preserved
loop-v-preserved c =
    let a = c.args in
    let l = c.loop-v in
    let s = c.stand_now-s in (
      omega arith,
      put_rows l.late l.loose l.v s.result l.invariant.1,
      simp length-set l.invariant.2,
      λ st L. subst (Stood (stands_of a.m st a.table.now a.rem.now a.fs.now a.ft.now a.q.now) a.due.now (stand_numbers
          a.late.now a.loose.now) (l.v + 1)) (sym (put_is l.late l.loose l.v s.result l.invariant.1))
          (stood_next (stands_of a.m st a.table.now a.rem.now a.fs.now a.ft.now a.q.now) a.due.now (stand_numbers a.late.now
          a.loose.now) l.v l.late l.loose s.result
          c.loop-v-test.true l.invariant.1 l.invariant.2 c.if-not-due-v.false (s.ensures st L) (l.invariant.3 st L)),
    )

pub loop-v-preserved-then-not-due-v : goal.loop-v-preserved-then-not-due-v
loop-v-preserved-then-not-due-v c =
    let a = c.args in
    let l = c.loop-v in (
      omega arith,
      l.invariant.1,
      l.invariant.2,
      λ st L. stood_skip (stands_of a.m st a.table.now a.rem.now a.fs.now a.ft.now a.q.now) a.due.now (stand_numbers
          a.late.now a.loose.now) l.v (stand_numbers l.late l.loose) c.if-not-due-v.true (l.invariant.3 st L),
    )

pub returns : goal.returns
returns c =
    let a = c.args in
    let l = c.loop-v in
    let e : l.v ≡ node_limit = omega arith in record {
      rows_2 = (l.invariant.1, l.invariant.2);
      by_index = λ st L. subst (λ k. Stood (stands_of a.m st a.table.now a.rem.now a.fs.now a.ft.now a.q.now) a.due.now (stand_numbers
          a.late.now a.loose.now) k (stand_numbers l.late l.loose)) e (l.invariant.3 st L);
    }
