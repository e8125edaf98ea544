-- `desk_loaded::arrays_of` meets its contract. Assumes nothing.
use Rattle.roster_reading.specs.Place.{bytes_of}
use Rattle.desk_loaded.specs.RosterBytes.{arrays_of}
use Rattle.desk_loaded.proofs.arrays_of.Goals as goal

pub returns : goal.returns
returns c =
    let i = c.instance_of in
    arrays_of c.args.roster.now (bytes_of c.args.roster.now (λ j. c.type_inv.roster j)) c.requires.0 c.requires.1 i.result i.ensures
