-- `desk_intake::with_roster` meets its contract. Assumes nothing.
use Rattle.std.proofs.Common.{refl, rules}
use Rattle.desk_intake.specs.Front.{front_copied, front_room}
use Rattle.desk_intake.proofs.with_roster.Goals as goal

pub returns : goal.returns
returns c =
    let a = c.args in
    (front_copied a.file.now a.files.roster c.copy.ensures.0 c.copy.ensures.1, refl, refl)

pub copy-requires : goal.copy-requires
copy-requires c = front_room c.args.file.now c.args.files.roster c.requires (search rules)
