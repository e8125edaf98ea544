-- `desk_writes::spread` meets its contract. Assumes nothing.
use Rattle.std.proofs.Common.{◌≡◌, refl, le_refl, sym, subst, length, ltb, true, Err, rules}
use Rattle.model.specs.Limits.{day_size}
use Rattle.model_desk.specs.Desk.{spread}
use Rattle.answers.specs.RefusalCases.{number_some}
use Rattle.desk_files.specs.State.{by_state, state_refuses, long_enough}
use Rattle.desk_writes.specs.Sheets.{Spreads, spreads, spreads_not, asked, spread_reply}
use Rattle.desk_writes.proofs.spread.Goals.{In_ok-l}
use Rattle.desk_writes.proofs.spread.Goals as goal

full : (c : In_ok-l) → length c.in_ok-l.l.plan.edges ≡ 64
full c = search rules

pub spread-requires : goal.spread-requires
spread-requires c =
    let d = c.args in
    let F = c.in_ok-l.ensures in
    let a = asked d.files F (full (goal.at.spread-requires c).In_ok-l) in
    (a.0, a.1, a.2, long_enough d.out.now day_size F (le_refl 0), a.3, a.4)

pub returns : goal.returns
returns c =
    let d = c.args in
    let F = c.in_ok-l.ensures in
    spreads d.files F d.out.now (spread_reply d.files F (full (goal.at.returns c).In_ok-l) d.out.now refl c.spread.ensures)

pub returns-in_err-l : goal.returns-in_err-l
returns-in_err-l c =
    let d = c.args in
    let n = c.in_err-l.field-0.0 in
    let F = c.in_err-l.ensures in
    let told : c.from_residual.result ≡ Err n = search rules in
    subst (λ a. Spreads d.files d.out.now a d.out.now d.files) (sym told)
    (spreads_not d.files F d.out.now (by_state d.files (spread d.out.now) tt tt (state_refuses d.files true (ltb (length d.out.now) day_size) F) (number_some n) refl))
