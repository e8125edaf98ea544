-- `desk_writes::write_roster` meets its contract. Assumes nothing.
use Rattle.std.proofs.Common.{arith, ◌≡◌, refl, sym, ap, ◌∙◌, subst, length, ltb, nltb→le, Err, rules}
use Rattle.lists.specs.Test.{false_t}
use Rattle.model.specs.Limits.{roster_size}
use Rattle.model_desk.specs.Desk.{write_roster_to}
use Rattle.answers.specs.RefusalCases.{code_of, number_some}
use Rattle.answers.specs.WrittenCases.{written_shown}
use Rattle.desk_files.specs.Held.{roster_bytes}
use Rattle.desk_files.specs.Replies.{Replied}
use Rattle.desk_files.specs.State.{by_state}
use Rattle.desk_loaded.specs.RosterBytes.{Judged, judged_long}
use Rattle.desk_writes.specs.Writing.{judged_state, write_roster_reply}
use Rattle.desk_writes.proofs.write_roster.Goals.{After-check_roster, Start}
use Rattle.desk_writes.proofs.write_roster.Goals as goal

judged : (r : After-check_roster)
    → Judged (roster_bytes r.args.files) (ltb (length r.args.out.now) roster_size) (code_of r.check_roster.result)
judged r = subst (λ bs. Judged bs (ltb (length r.args.out.now) roster_size) (code_of r.check_roster.result)) r.front.ensures
    r.check_roster.ensures

full : (s : Start) → length s.args.files.roster ≡ roster_size
full s = search rules

pub returns-in_err-check_roster : goal.returns-in_err-check_roster
returns-in_err-check_roster c =
    let d = c.args in
    let n = c.in_err-check_roster.field-0.0 in
    let told : c.from_residual.result ≡ Err n = search rules in
    subst (λ a. Replied d.files (write_roster_to d.out.now) (written_shown a) (write_roster_to d.out.now) d.files) (sym told)
    (by_state d.files (write_roster_to d.out.now) tt tt
    (sym (ap code_of c.in_err-check_roster.was) ∙ judged_state d.files (judged (goal.at.returns-in_err-check_roster c).After-check_roster)) (number_some n) refl)

pub copied-requires : goal.copied-requires
copied-requires c =
    let z = ap code_of c.in_ok-check_roster.was in
    omega (arith, full (goal.at.copied-requires c).Start, nltb→le (length c.args.out.now) roster_size (false_t (judged_long (judged (goal.at.copied-requires c).After-check_roster) (omega (arith, z)))))

pub returns : goal.returns
returns c =
    let d = c.args in
    let z = ap code_of c.in_ok-check_roster.was in
    write_roster_reply d.files (judged (goal.at.returns c).After-check_roster) (omega (arith, z)) d.out.now refl c.copied.ensures.0 c.copied.ensures.1
