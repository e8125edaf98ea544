-- `roster_join::listed` meets its contract: the list's refusal, or what is made with it. Assumes nothing.
use Rattle.std.proofs.Common.{arith, ap, false, rules}
use Rattle.theory_files.specs.Reads.{bytes_are}
use Rattle.arrays.specs.Passes.{all_blank}
use Rattle.answers.specs.RefusalCases.{number_of, reading_of}
use Rattle.roster_reading.specs.Slot.{row_width}
use Rattle.roster_parts.specs.Gives.{Refuses}
use Rattle.roster_join.specs.Listing.{list_refused, list_read_law}
use Rattle.roster_join.proofs.listed.Goals as goal

pub list_at-requires : goal.list_at-requires
list_at-requires c = (omega arith, all_blank false row_width)

pub returns-in_err-read : goal.returns-in_err-read
returns-in_err-read c =
    let a = c.args in
    let told : Refuses (number_of c.in_err-read.field-0.0) c.from_residual.result = search rules in
    list_refused a.file.now a.ns a.nt a.quota a.list.now c.list_at.ensures c.from_residual.result (ap reading_of c.in_err-read.was) told

pub returns : goal.returns
returns c =
    let a = c.args in
    let is_b = bytes_are a.list.now (λ i. omega (arith, c.type_inv.list i)) in
    list_read_law a.file.now a.ns a.nt a.quota a.list.now c.list_at.ensures c.entered.result is_b (ap reading_of c.in_ok-read.was) c.entered.ensures
