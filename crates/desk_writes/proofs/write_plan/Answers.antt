-- `desk_writes::write_plan` meets its contract. Assumes nothing.
use Rattle.std.proofs.Common.{arith, ◌≡◌, refl, le_refl, sym, subst, length, ltb, true, Err, rules}
use Rattle.model.specs.Limits.{plan_size}
use Rattle.model_desk.specs.Desk.{write_plan_to}
use Rattle.answers.specs.RefusalCases.{number_some}
use Rattle.answers.specs.WrittenCases.{written_shown}
use Rattle.desk_files.specs.Replies.{Replied}
use Rattle.desk_files.specs.State.{by_state, state_refuses, long_enough}
use Rattle.desk_writes.specs.Writing.{write_plan_reply}
use Rattle.desk_writes.proofs.write_plan.Goals.{Start}
use Rattle.desk_writes.proofs.write_plan.Goals as goal

full : (s : Start) → length s.args.files.plan ≡ plan_size
full s = search rules

pub returns-in_err-loaded : goal.returns-in_err-loaded
returns-in_err-loaded c =
    let d = c.args in
    let n = c.in_err-loaded.field-0.0 in
    let told : c.from_residual.result ≡ Err n = search rules in
    subst (λ a. Replied d.files (write_plan_to d.out.now) (written_shown a) (write_plan_to d.out.now) d.files) (sym told)
    (by_state d.files (write_plan_to d.out.now) tt tt (state_refuses d.files true (ltb (length d.out.now) plan_size) c.in_err-loaded.ensures) (number_some n) refl)

pub copied-requires : goal.copied-requires
copied-requires c =
    omega (arith, full (goal.at.copied-requires c).Start, long_enough c.args.out.now plan_size c.in_ok-loaded.ensures (le_refl 0))

pub returns : goal.returns
returns c =
    let d = c.args in
    write_plan_reply d.files c.in_ok-loaded.ensures d.out.now refl c.copied.ensures.0 c.copied.ensures.1
