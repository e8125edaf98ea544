-- `desk_commits::commit` meets its contract. Assumes nothing.
use Rattle.std.proofs.Common.{le_refl, true, false}
use Rattle.answers.specs.RefusalCases.{number_some}
use Rattle.desk_files.specs.State.{state_refuses, arrays_are}
use Rattle.desk_commits.specs.Commits.{commit_refused, none_open, commit_taken}
use Rattle.desk_commits.proofs.commit.Goals as goal

pub returns-in-Err : goal.returns-in-Err
returns-in-Err c = commit_refused c.args.files (state_refuses c.args.files true false c.in-Err.ensures) (number_some c.in-Err.refusal)

pub read_plan-a-requires : goal.read_plan-a-requires
read_plan-a-requires c = arrays_are c.args.files c.in-Ok.ensures (le_refl 0)

pub returns-in-Err-a : goal.returns-in-Err-a
returns-in-Err-a c =
    none_open c.args.files c.in-Ok.ensures c.in-Err-a.is
    c.read_plan-a.ensures c.front-file.ensures

pub returns-in-Ok-a : goal.returns-in-Ok-a
returns-in-Ok-a c =
    commit_taken c.args.files c.in-Ok.ensures c.in-Ok-a.is
    c.read_plan-a.ensures c.front-file.ensures c.with_commit-done.result c.with_commit-done.ensures
