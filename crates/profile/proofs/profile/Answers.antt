-- 15, the roster's refusal, or what an accepted roster gives.
use Rattle.std.proofs.Common.{arith, ◌≡◌, refl, sym, subst, Ok, Err, rules}
use Rattle.model.specs.RosterFile.{read_roster}
use Rattle.theory_files.specs.Reads.{bytes_are}
use Rattle.answers.specs.RefusalCases.{reading_of}
use Rattle.answers.specs.FileCases.{file_read, read_accepted}
use Rattle.profile.specs.Profiles.{Profiles, profiles_short, profiles_refused, profiles_settled}
use Rattle.profile.proofs.profile.Goals as goal

pub returns-in_err-read_roster : goal.returns-in_err-read_roster
returns-in_err-read_roster c =
    let a = c.args in
    let n = c.in_err-read_roster.field-0.0 in
    let told : c.from_residual.result ≡ Err n = search rules in
    let read : reading_of (Err n) ≡ file_read (read_roster a.file.now) = search rules in
    subst (λ r. Profiles a.file.now a.out.now r a.out.now) (sym told)
    (profiles_refused a.file.now a.out.now (bytes_are a.file.now (λ i. omega (arith, c.type_inv.file i))) n c.if-out-lt-PLAN_SIZE.false refl read)

pub settled-requires : goal.settled-requires
settled-requires c =
    let read : reading_of (Ok tt) ≡ file_read (read_roster c.args.file.now) = search rules in
    (read_accepted (read_roster c.args.file.now) refl read, c.if-out-lt-PLAN_SIZE.false)

pub returns : goal.returns
returns c =
    let a = c.args in
    profiles_settled a.file.now a.out.now (bytes_are a.file.now (λ i. omega (arith, c.type_inv.file i))) c.if-out-lt-PLAN_SIZE.false c.settled.ensures

pub returns-then-out-lt-PLAN_SIZE : goal.returns-then-out-lt-PLAN_SIZE
returns-then-out-lt-PLAN_SIZE c =
    let a = c.args in
    profiles_short a.file.now a.out.now (bytes_are a.file.now (λ i. omega (arith, c.type_inv.file i))) c.if-out-lt-PLAN_SIZE.true
