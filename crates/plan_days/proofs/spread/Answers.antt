-- plan_days::spread: the ends of the entries, their days, and the bytes. Assumes nothing.
use Rattle.std.proofs.Common.{suc, arith, sym, ap, ◌∙◌, subst, map, ◌++◌, length, take, drop}
use Rattle.model.specs.Limits.{node_limit, last_day}
use Rattle.plan_days.specs.Chase.{Small}
use Rattle.plan_days.specs.DayByDay.{spread_length, spread_small}
use Rattle.plan_days.specs.Bytes.{ends_low, ends_few, bytes_are}
use Rattle.plan_days.proofs.spread.Goals as goal

pub days_of-day-requires : goal.days_of-day-requires
days_of-day-requires c =
    let e = c.ends-s in
    let f = c.ends-t in
    let a = c.args in (
      c.requires.0,
      ends_low a.n a.es.now a.sv.now e.result c.requires.1 e.ensures node_limit (λ k h. (c.requires.4 k h).0),
      ends_low a.n a.es.now a.st.now f.result c.requires.1 f.ensures node_limit (λ k h. (c.requires.4 k h).1),
      ends_few a.n a.es.now a.sv.now e.result c.requires.1 e.ensures last_day (λ v. (c.requires.5 v).0),
      ends_few a.n a.es.now a.st.now f.result c.requires.1 f.ensures last_day (λ v. (c.requires.5 v).1),
    )

pub put_days-requires : goal.put_days-requires
put_days-requires c =
    let d = c.days_of-day in
    let e = c.ends-s in
    let f = c.ends-t in (
      c.requires.0,
      omega (arith, ap length d.ensures, spread_length e.result f.result c.args.n, c.requires.0),
      omega (arith, c.requires.3, c.requires.0),
      subst (Small last_day) (sym d.ensures) (spread_small e.result f.result c.args.n),
    )

pub returns : goal.returns
returns c =
    let d = c.days_of-day in
    let f = c.ends-t in
    let e = c.ends-s in
    let a = c.args in
    c.put_days.ensures ∙ ap (λ x. map suc (take a.n x) ++ drop a.n a.out.now) d.ensures
    ∙ ap (λ x. x ++ drop a.n a.out.now) (bytes_are a.n a.sv.now a.st.now a.es.now e.result f.result c.requires.1 c.requires.0
    e.ensures f.ensures)
