-- `plan_turned::turn` meets its contract: the reading's refusal, or what an accepted plan gives. Assumes nothing.
use Rattle.std.proofs.Common.{◌≡◌, sym, ap, subst, arith, T, Err, rules}
use Rattle.model.specs.Reading.{is_bytes}
use Rattle.theory_files.specs.Reads.{bytes_are}
use Rattle.plan_reader.specs.Answers.{answered}
use Rattle.plan_turned.specs.Turning.{PlanTurned, accepted_room, accepted_turned, refused_turned}
use Rattle.plan_turned.proofs.turn.Goals.{After-slice_known-1}
use Rattle.plan_turned.proofs.turn.Goals as goal

-- the file is bytes
file_bytes : (p : After-slice_known-1) → T (is_bytes p.args.file.now)
file_bytes p = bytes_are p.args.file.now (λ i. omega (arith, p.type_inv.file i))

pub settled-requires : goal.settled-requires
settled-requires c =
    let a = c.args in
    let (few, there) = accepted_room a.shifts a.file.now (answered a.read) (file_bytes (goal.at.settled-requires c).After-slice_known-1) (ap answered c.in_ok-plan.was) c.requires.0 in
    (few, there, c.requires.1)

pub returns-in_err-plan : goal.returns-in_err-plan
returns-in_err-plan c =
    let a = c.args in
    let n = c.in_err-plan.field-0.0 in
    let told : c.from_residual.result ≡ Err n = search rules in
    subst (λ r. PlanTurned a.shifts (answered a.read) a.file.now a.out.now r a.out.now) (sym told)
    (refused_turned a.shifts a.file.now (answered a.read) n (ap answered c.in_err-plan.was) a.out.now)

pub returns : goal.returns
returns c =
    let a = c.args in
    accepted_turned a.shifts a.file.now (answered a.read) (file_bytes (goal.at.returns c).After-slice_known-1) (ap answered c.in_ok-plan.was)
    c.settled.ensures
