-- The nodes passed are renewed.
use Rattle.std.proofs.Common.{◌≡◌, sym, subst, ◌+◌, zero-le, arith}
use Rattle.model.specs.Limits.{node_limit}
use Rattle.reduction_nodes.specs.Numbers.{surveyors_of, Surveyed, surveyor_numbers, stored_rows, stored_is, surveyed_none, surveyed_next, surveyed_skip}
use Rattle.reduction_nodes.proofs.surveyors_renewed.Goals as goal

pub loop-v-init : goal.loop-v-init
loop-v-init c =
    let a = c.args in (
      zero-le,
      c.requires.rows,
      λ sv L. surveyed_none (surveyors_of a.m sv a.st.now a.table.now a.rem.now a.fs.now a.ft.now a.lo.now a.q.now)
          a.due.now (surveyor_numbers a.late.now),
    )

pub surveyor_now-s-requires : goal.surveyor_now-s-requires
surveyor_now-s-requires c =
    let p = c.requires.readable in
    (c.loop-v-test.true, p.0, p.1)

pub loop-v-preserved : goal.loop-v-preserved
loop-v-preserved c =
    let a = c.args in
    let l = c.loop-v in
    let s = c.surveyor_now-s in (
      omega arith,
      stored_rows l.late l.v s.result l.invariant.1,
      λ sv L. subst (Surveyed (surveyors_of a.m sv a.st.now a.table.now a.rem.now a.fs.now a.ft.now a.lo.now a.q.now)
          a.due.now (surveyor_numbers a.late.now) (l.v + 1))
          (sym (stored_is l.late l.v s.result l.invariant.1))
          (surveyed_next (surveyors_of a.m sv a.st.now a.table.now a.rem.now a.fs.now a.ft.now a.lo.now a.q.now)
          a.due.now (surveyor_numbers a.late.now) l.v l.late s.result
          c.loop-v-test.true l.invariant.1 c.if-not-due-v.false (s.ensures sv L) (l.invariant.2 sv L)),
    )

pub loop-v-preserved-then-not-due-v : goal.loop-v-preserved-then-not-due-v
loop-v-preserved-then-not-due-v c =
    let a = c.args in
    let l = c.loop-v in (
      omega arith,
      l.invariant.1,
      λ sv L. surveyed_skip (surveyors_of a.m sv a.st.now a.table.now a.rem.now a.fs.now a.ft.now a.lo.now a.q.now)
          a.due.now (surveyor_numbers a.late.now) l.v (surveyor_numbers l.late) c.if-not-due-v.true (l.invariant.2 sv L),
    )

pub returns : goal.returns
returns c =
    let a = c.args in
    let l = c.loop-v in
    let e : l.v ≡ node_limit = omega arith in record {
      rows_2 = l.invariant.1;
      by_index = λ sv L. subst (λ k. Surveyed (surveyors_of a.m sv a.st.now a.table.now a.rem.now a.fs.now a.ft.now a.lo.now a.q.now)
          a.due.now (surveyor_numbers a.late.now) k (surveyor_numbers l.late)) e (l.invariant.2 sv L);
    }
