-- desk_find::found: the state's refusal, then what the finder answers.
use Rattle.desk_find.specs.Outcomes.{out_refused, long_enough, loaded_arrays, out_found}
use Rattle.desk_find.proofs.found.Goals as goal

pub returns-in-Err : goal.returns-in-Err
returns-in-Err c =
    let a = c.args in
    out_refused _ _ a.room a.left.now a.plan.now a.rival.now c.finder_short-short.ensures _ c.loaded.ensures
    c.in-Err.is c.refused.result c.refused.ensures

pub worked-requires : goal.worked-requires
worked-requires c =
    let a = c.args in
    let long = long_enough _ _ a.room a.left.now a.plan.now a.rival.now c.finder_short-short.ensures _ c.loaded.ensures c.in-Ok.is in (
      loaded_arrays _ _ a.room a.left.now a.plan.now a.rival.now c.finder_short-short.ensures _ c.loaded.ensures c.in-Ok.is,
      long.0,
      long.1,
      long.2,
    )

pub returns-in-Ok : goal.returns-in-Ok
returns-in-Ok c =
    let a = c.args in
    out_found _ _ a.room a.left.now a.plan.now a.rival.now c.finder_short-short.ensures _ c.loaded.ensures c.in-Ok.is
    c.worked.result _ _ _ c.worked.ensures
