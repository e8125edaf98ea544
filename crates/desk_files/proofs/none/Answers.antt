-- `desk_files::none` meets its contract. Assumes nothing.
use Rattle.std.proofs.Common.{refl}
use Rattle.desk_files.specs.Held.{held_empty}
use Rattle.desk_files.proofs.none.Goals as goal

pub returns : goal.returns
returns c = (held_empty _ refl, refl, refl, refl)
