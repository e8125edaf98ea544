-- `desk_queries::judge` meets its contract. Assumes nothing.
use Rattle.std.proofs.Common.{◌≤◌, refl, le_refl, ◌||◌, length, ltb, true, rules}
use Rattle.model.specs.Limits.{plan_size, pairing_size}
use Rattle.model_desk.specs.Desk.{judge}
use Rattle.answers.specs.RefusalCases.{number_some}
use Rattle.desk_files.specs.State.{by_state, state_refuses, arrays_are, both_long}
use Rattle.desk_queries.specs.Calls.{plan_shown, plan_listed, judge_reply}
use Rattle.desk_queries.specs.Judging.{rival_held, judges, judges_refused}
use Rattle.desk_queries.proofs.judge.Goals.{In-Ok}
use Rattle.desk_queries.proofs.judge.Goals as goal

sizes : (i : In-Ok) → let d = i.args in (plan_size ≤ length d.rival.now) × (pairing_size ≤ length d.pairings.now)
sizes i =
    let d = i.args in
    both_long d.rival.now d.pairings.now plan_size pairing_size i.in-Ok.ensures (le_refl 0)

pub returns-in-Err : goal.returns-in-Err
returns-in-Err c =
    let d = c.args in
    judges_refused d.files d.rival.now d.pairings.now c.in-Err.refusal
    (by_state d.files (judge d.rival.now d.pairings.now) tt tt
    (state_refuses d.files true (ltb (length d.rival.now) plan_size || ltb (length d.pairings.now) pairing_size) c.in-Err.ensures) (number_some c.in-Err.refusal) refl)

pub weigh_paired-verdict-requires : goal.weigh_paired-verdict-requires
weigh_paired-verdict-requires c =
    let d = c.args in
    let F = c.in-Ok.ensures in
    let long = sizes (goal.at.weigh_paired-verdict-requires c).In-Ok in
    record {
      loaded = (arrays_are d.files F (le_refl 0), plan_shown d.files F, plan_listed d.files F, long.0);
      pairing_size_in_bounds = long.1;
    }

-- the rival's buffer has a first byte
pub bounds-rival-0 : goal.bounds-rival-0
bounds-rival-0 c = let h = (sizes (goal.at.bounds-rival-0 c).In-Ok).0 in search rules

pub returns-in-Ok : goal.returns-in-Ok
returns-in-Ok c =
    let d = c.args in
    let F = c.in-Ok.ensures in
    judges d.files F d.rival.now d.pairings.now
    (judge_reply d.files F d.rival.now d.pairings.now refl c.weigh_paired-verdict.ensures.weighed_for c.weigh_paired-verdict.ensures.paired_for)
    (rival_held d.files F d.rival.now _ _ c.weigh_paired-verdict.ensures.weighed_for c.rival_length-length.ensures)
