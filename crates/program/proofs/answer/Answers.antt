-- program::answer writes the program's text.
use Rattle.std.proofs.Common.{rules}
use Rattle.roster_reading.specs.Place.{bytes_of}
use Rattle.answers.specs.FileCases.{read_accepted}
use Rattle.program.specs.BuffersPrinted.{prints, refused_handed}
use Rattle.program.proofs.answer.Goals as goal

pub worked-requires : goal.worked-requires
worked-requires c = read_accepted _ c.in-Ok.is c.read_roster.ensures

pub returns-in-Err : goal.returns-in-Err
returns-in-Err c =
    let is_b =
    bytes_of c.args.input.now (λ k. c.type_inv.input k) in
    prints c.args.input.now is_b _ _ _ _ _
    (refused_handed c.args.input.now is_b c.in-Err.is c.read_roster.ensures _ _ _ _)
    _ _ _ (search rules) c.answer_text.ensures
