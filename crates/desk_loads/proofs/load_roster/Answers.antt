-- `desk_loads::load_roster` meets its contract. Assumes nothing.
use Rattle.std.proofs.Common.{T}
use Rattle.theory_files.specs.Reads.{is_bytes}
use Rattle.roster_reading.specs.Place.{bytes_of}
use Rattle.desk_loads.specs.Loads.{roster_small, roster_refused, roster_loaded}
use Rattle.desk_loads.proofs.load_roster.Goals as goal

pub with_roster-d-requires : goal.with_roster-d-requires
with_roster-d-requires c =
    let a = c.args in
    let is_b : T (is_bytes a.file.now) = bytes_of a.file.now (λ i. c.type_inv.file i) in
    roster_small a.files a.file.now c.in-Ok.is c.read_roster-a.ensures is_b

pub returns-in-Err : goal.returns-in-Err
returns-in-Err c =
    let a = c.args in
    roster_refused a.files a.file.now c.in-Err.is c.read_roster-a.ensures

pub returns-in-Ok : goal.returns-in-Ok
returns-in-Ok c =
    let a = c.args in
    roster_loaded a.files a.file.now c.in-Ok.is c.read_roster-a.ensures
    c.with_roster-d.result c.with_roster-d.ensures
