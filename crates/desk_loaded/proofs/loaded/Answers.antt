-- `desk_loaded::loaded` meets its contract: 13 for bytes that are no roster, else its arrays. Assumes nothing.
use Rattle.std.proofs.Common.{◌≡◌, sym, subst, T, Ok, Err, rules}
use Rattle.theory_files.specs.Reads.{is_bytes}
use Rattle.roster_reading.specs.Place.{bytes_of}
use Rattle.desk_loaded.specs.OnDesk.{LoadedAs, not_loaded, roster_missing, roster_read, arrays_loaded}
use Rattle.desk_loaded.proofs.loaded.Goals as goal

pub on_roster-requires : goal.on_roster-requires
on_roster-requires c =
    let a = c.args in
    let is_b : T (is_bytes a.roster.now) = bytes_of a.roster.now (λ j. c.type_inv.roster j) in
    let i = c.instance_of-g in
    arrays_loaded a.roster.now is_b c.in-Ok.is c.read_roster.ensures i.result i.ensures

pub returns-in_default : goal.returns-in_default
returns-in_default c =
    let a = c.args in
    not_loaded a.roster.now a.plan.now (bytes_of a.roster.now (λ j. c.type_inv.roster j)) (bytes_of a.plan.now (λ j. c.type_inv.plan j))
    (roster_missing a.roster.now a.plan.now a.needs a.short c.in_default.is c.read_roster.ensures)

pub returns-in_err-read : goal.returns-in_err-read
returns-in_err-read c =
    let a = c.args in
    let n = c.in_err-read.field-0.0 in
    let told : c.from_residual.result ≡ Err n = search rules in
    let is_b : T (is_bytes a.roster.now) = bytes_of a.roster.now (λ j. c.type_inv.roster j) in
    let i = c.instance_of-g in
    subst (LoadedAs a.roster.now a.plan.now a.needs a.short) (sym told)
    (roster_read a.roster.now is_b c.in-Ok.is c.read_roster.ensures i.result i.ensures a.plan.now (bytes_of a.plan.now (λ j. c.type_inv.plan j)) a.needs
    a.short (Err n) c.in_err-read.ensures)

pub returns : goal.returns
returns c =
    let a = c.args in
    let is_b : T (is_bytes a.roster.now) = bytes_of a.roster.now (λ j. c.type_inv.roster j) in
    let i = c.instance_of-g in
    roster_read a.roster.now is_b c.in-Ok.is c.read_roster.ensures i.result i.ensures a.plan.now (bytes_of a.plan.now (λ j. c.type_inv.plan j)) a.needs a.short
    (Ok c.in_ok-read.read) c.in_ok-read.ensures
