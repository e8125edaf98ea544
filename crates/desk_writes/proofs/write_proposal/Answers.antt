-- `desk_writes::write_proposal` meets its contract. Assumes nothing.
use Rattle.std.proofs.Common.{arith, ◌≡◌, sym, ap, subst, ◌∙◌, length, ltb, Err, rules}
use Rattle.model.specs.Limits.{plan_size}
use Rattle.model_desk.specs.Desk.{write_proposal_to}
use Rattle.answers.specs.RefusalCases.{code_of, number_some}
use Rattle.answers.specs.WrittenCases.{written_shown}
use Rattle.desk_files.specs.Open.{Opened}
use Rattle.desk_files.specs.Replies.{Replied}
use Rattle.desk_writes.specs.Writing.{write_proposal_not, write_proposal_long, write_proposal_reply}
use Rattle.desk_writes.proofs.write_proposal.Goals.{Start}
use Rattle.desk_writes.proofs.write_proposal.Goals as goal

full : (s : Start) → length s.args.files.proposal ≡ plan_size
full s = search rules

pub returns-in_err-check_open : goal.returns-in_err-check_open
returns-in_err-check_open c =
    let d = c.args in
    let n = c.in_err-check_open.field-0.0 in
    let told : c.from_residual.result ≡ Err n = search rules in
    subst (λ a. Replied d.files (write_proposal_to d.out.now) (written_shown a) (write_proposal_to d.out.now) d.files) (sym told)
    (write_proposal_not d.files d.out.now (subst (Opened d.files (ltb (length d.out.now) plan_size)) (ap code_of c.in_err-check_open.was) c.check_open.ensures) (number_some n))

pub copied-requires : goal.copied-requires
copied-requires c =
    let z = ap code_of c.in_ok-check_open.was in
    omega (arith, full (goal.at.copied-requires c).Start, write_proposal_long c.args.files c.args.out.now c.check_open.ensures (omega (arith, z)))

pub returns : goal.returns
returns c =
    let d = c.args in
    let z = ap code_of c.in_ok-check_open.was in
    write_proposal_reply d.files d.out.now c.check_open.ensures (omega (arith, z)) c.copied.ensures.0 c.copied.ensures.1
