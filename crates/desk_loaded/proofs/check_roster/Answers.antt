-- `desk_loaded::check_roster` meets its contract. Assumes nothing.
use Rattle.roster_reading.specs.Place.{bytes_of}
use Rattle.answers.specs.RefusalCases.{code_of}
use Rattle.desk_loaded.specs.RosterBytes.{judged_not, judged}
use Rattle.desk_loaded.proofs.check_roster.Goals as goal

pub returns-in-Err : goal.returns-in-Err
returns-in-Err c =
    let a = c.args in
    judged_not a.roster.now a.short c.in-Err.is c.read_roster.ensures

pub returns-in-Ok : goal.returns-in-Ok
returns-in-Ok c =
    let a = c.args in
    judged a.roster.now a.short (bytes_of a.roster.now (λ i. c.type_inv.roster i))
    c.in-Ok.is c.read_roster.ensures (code_of c.check_buffers.result) c.check_buffers.ensures
